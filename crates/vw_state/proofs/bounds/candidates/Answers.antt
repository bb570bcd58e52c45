use Rattle.std.proofs.Common.{arith}
use Rattle.std.proofs.lemmas.List.{take_rest}
use Rattle.vw_state.proofs.NearBounds.{one_more}
use Rattle.vw_state.proofs.bounds.candidates.Goals as goal

pub loop-at-preserved : goal.loop-at-preserved
loop-at-preserved c =
    one_more c.args.code.now _ c.loop-at.found.items _ _ _ c.loop-at.at (omega (arith, c.loop-at-test.true)) (take_rest c.args.code.now c.loop-at.at)
    c.immediate_at.ensures c.in_ok-push_near.ensures c.loop-at.invariant
