use Rattle.std.proofs.Common.{◌≡◌, ℕ, ◌≤◌, length}
use Rattle.vw_state.specs.Context.{Context, IsSite}
use Rattle.vw_graph.specs.search.Jumps.{AreNew}
use Rattle.vw_graph.proofs.Leads.{mark_at}
use Rattle.vw_graph.proofs.jumps.new_points.Given as goal

abbrev pub invariant-loop-point : goal.invariant-loop-point
invariant-loop-point l = record {
  size : length l.marks.items ≡ l.site.size;
  used : (other : ℕ) → mark_at l.marks.items other ≤ l.point;
  new : (f : Context) → IsSite f l.site → AreNew f l.before l.now l.point l.points.keys;
}
