use Rattle.std.proofs.Common.{refl, sym}
use Rattle.vw_dynamic.specs.Targets.{strings_of}
use Rattle.vw_dynamic.proofs.BoundLemmas.{table_offset-inside}
use Rattle.vw_dynamic.proofs.symbols.strings_of.Goals as goal

pub returns-in-None : goal.returns-in-None
unfolding strings_of
returns-in-None c = rw (← c.in-None.ensures) refl

pub bytes_at-requires : goal.bytes_at-requires
bytes_at-requires c = rw c.unwrap_or.ensures (table_offset-inside _ _ _ _ _ c.requires.inside (sym c.in-Some.ensures))

pub returns-in-Some : goal.returns-in-Some
unfolding strings_of
returns-in-Some c = rw (← c.in-Some.ensures, ← c.unwrap_or.ensures) c.bytes_at.ensures
