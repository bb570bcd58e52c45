use Rattle.std.proofs.Common.{◌≡◌, ℕ, ◌≤◌, take}
use Rattle.vw_solver.specs.Solution.{state_at}
use Rattle.vw_graph.specs.search.Solved.{gather}
use Rattle.vw_graph.proofs.solved.point_states.Given as goal

abbrev pub invariant-loop-point : goal.invariant-loop-point
invariant-loop-point l = record {
  so_far : l.states ≡ gather 0 (take l.point l.fn.solved);
  later : (q : ℕ) → l.point ≤ q → state_at l.solved q ≡ state_at l.fn.solved q;
}
