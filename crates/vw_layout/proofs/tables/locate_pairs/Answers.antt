use Rattle.std.proofs.Common.{refl, sym, ◌∙◌, arith}
use Rattle.vw_bits.proofs.Tables.{table-none}
use Rattle.vw_layout.specs.Tables.{pairs_of}
use Rattle.vw_layout.proofs.TableLemmas.{read_below}
use Rattle.vw_layout.proofs.tables.locate_pairs.Goals as goal

pub returns-in-None-clause-pairs : goal.returns-in-None-clause-pairs
unfolding pairs_of
returns-in-None-clause-pairs c = rw (← c.in-None.ensures.value, table-none) refl

pub returns-then-is_read-clause-pairs : goal.returns-then-is_read-clause-pairs
unfolding pairs_of
returns-then-is_read-clause-pairs c = rw (← c.in-Some.ensures.value) refl

pub returns-then-is_read-clause-below : goal.returns-then-is_read-clause-below
returns-then-is_read-clause-below c =
    let end = read_below _ _ _ c.requires (sym c.is_read.ensures ∙ c.if-is_read.true) in
    omega (arith, end)
