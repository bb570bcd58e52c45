use Rattle.std.proofs.Common.{◌≡◌}
use Rattle.std.specs.Prelude.{Contains, IsTrue}
use Rattle.vw_layout.specs.declared.functions.Function.{Function}
use Rattle.vw_state.specs.Context.{context_of, IsSite}
use Rattle.vw_recheck.specs.Places.{IsEdgeTo}
use Rattle.vw_recheck.proofs.Points.{SafeBelow}
use Rattle.vw_recheck.proofs.table.lowest_in.Given as goal

abbrev pub invariant-loop-point : goal.invariant-loop-point
invariant-loop-point l = record {
  safe : (f : Function) → Contains l.loaded.functions f → IsSite (context_of l.loaded f) l.site → SafeBelow (context_of l.loaded f) l.states l.point-index;
  goes_on : IsTrue l.used.goes_on → IsEdgeTo l.states l.point-index l.used.edges;
  near : l.near ≡ l.point-index;
}
