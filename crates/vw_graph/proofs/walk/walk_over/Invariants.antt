use Rattle.std.proofs.Common.{◌≡◌, ◌+◌}
use Rattle.vw_state.specs.Context.{Context, IsSite, code_of}
use Rattle.vw_graph.specs.search.Jumps.{HasSlots, AreSlots}
use Rattle.vw_graph.specs.search.Walks.{NoneStopsBelow}
use Rattle.vw_graph.proofs.walk.walk_over.Given as goal

abbrev pub invariant-loop-point : goal.invariant-loop-point
invariant-loop-point l = record {
  room : HasSlots (l.site.size + 1) l.slots.items;
  passes : (f : Context) → IsSite f l.site → code_of f ≡ l.code → NoneStopsBelow f l.table l.point;
  slots : (f : Context) → IsSite f l.site → code_of f ≡ l.code → AreSlots f l.table l.slots.items l.point;
}
