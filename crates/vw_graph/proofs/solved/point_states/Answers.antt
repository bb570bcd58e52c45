use Rattle.std.proofs.Common.{◌∙◌, arith}
use Rattle.vw_graph.proofs.Gathered.{gather_more, later_kept}
use Rattle.vw_graph.proofs.solved.point_states.Goals as goal

pub loop-point-preserved : goal.loop-point-preserved
loop-point-preserved c = record {
  so_far = gather_more c.args.solved c.loop-point.point c.loop-point.states _ _ c.loop-point.invariant.so_far (c.take.ensures.state ∙ c.loop-point.invariant.later c.loop-point.point (omega arith)) c.in_ok-append_point.ensures;
  later = later_kept c.args.solved c.loop-point.solved _ c.loop-point.point c.take.ensures.rest c.loop-point.invariant.later;
}
