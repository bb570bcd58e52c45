use Rattle.std.proofs.Common.{◌≤◌}
use Rattle.vw_state.specs.Context.{context_of}
use Rattle.vw_graph.specs.search.Course.{IsInRound}
use Rattle.vw_graph.proofs.Fewer.{left}
use Rattle.vw_graph.proofs.round.all_rounds.Given as goal

abbrev pub invariant-rounds : goal.invariant-rounds
invariant-rounds g l = record {
  counts : l.fn.steps ≤ l.steps;
  in_round : IsInRound (context_of l.loaded l.declared) l.jumps.items l.table l.fn.steps l.steps;
}

abbrev pub decreases-rounds : goal.decreases-rounds
decreases-rounds g l = left (context_of l.loaded l.declared) l.jumps.items
