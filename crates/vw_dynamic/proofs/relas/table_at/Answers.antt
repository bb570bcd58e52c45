use Rattle.std.proofs.Common.{refl, sym, ◌∙◌, arith}
use Rattle.vw_bits.proofs.Tables.{table-none}
use Rattle.vw_dynamic.proofs.BoundLemmas.{table_offset-inside}
use Rattle.vw_dynamic.proofs.relas.table_at.Goals as goal

pub returns-in-Some-clause-items : goal.returns-in-Some-clause-items
returns-in-Some-clause-items c = rw (← c.table_offset.ensures, c.in-Some.is, c.unwrap_or.ensures) refl

pub returns-in-Some-clause-inside : goal.returns-in-Some-clause-inside
returns-in-Some-clause-inside c =
    let end = table_offset-inside _ _ _ _ _ c.requires.inside (sym c.table_offset.ensures ∙ c.in-Some.is) in
    omega (arith, end, c.unwrap_or.ensures)

pub returns-in-None-clause-items : goal.returns-in-None-clause-items
returns-in-None-clause-items c = rw (← c.table_offset.ensures, c.in-None.is, table-none) refl
