use Rattle.std.proofs.Common.{◌≡◌, length}
use Rattle.vw_state.specs.Context.{Context, IsSite}
use Rattle.vw_graph.proofs.Leads.{AreMarkedBelow}
use Rattle.vw_graph.proofs.jumps.mark_targets.Given as goal

abbrev pub invariant-loop-i : goal.invariant-loop-i
invariant-loop-i l = record {
  size : length l.marks.items ≡ length l.fn.marks.items;
  marked : (f : Context) → IsSite f l.site → AreMarkedBelow f l.table l.i l.mark l.fn.marks.items l.marks.items;
}
