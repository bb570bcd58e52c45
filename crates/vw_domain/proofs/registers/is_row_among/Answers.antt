use Rattle.std.proofs.Common.{below_more, refl, subst, arith}
use Rattle.vw_values.specs.Values.{IsAmong}
use Rattle.vw_domain.specs.declared.registers.Register.{Register}
use Rattle.vw_domain.proofs.RowLemmas.{read_at}
use Rattle.vw_domain.proofs.registers.is_row_among.Goals as goal

pub loop-i-preserved : goal.loop-i-preserved
loop-i-preserved c =
    below_more _ _ c.loop-i.invariant
    (subst (λ (r : Register). IsAmong c.args.bounds.now r.value) (read_at c.args.row.now c.loop-i.i c.index-row-i.result (omega arith)) (c.if-not-is_among.ensures.0 refl))
