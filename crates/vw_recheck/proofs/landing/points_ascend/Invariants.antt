use Rattle.vw_state.specs.declared.tables.PointState.{PointState}
use Rattle.vw_recheck.proofs.Order.{AscendBehind}
use Rattle.vw_recheck.proofs.landing.points_ascend.Given as goal

abbrev pub invariant-loop-point : goal.invariant-loop-point
invariant-loop-point l = AscendBehind (λ (p : PointState). p.at) l.states l.point-index l.from
