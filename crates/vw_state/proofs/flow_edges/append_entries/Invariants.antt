use Rattle.std.proofs.Common.{◌≡◌, ◌++◌, map}
use Rattle.vw_domain.specs.Abstract.{abstract_of}
use Rattle.vw_state.specs.Context.{Context, IsSite}
use Rattle.vw_state.specs.Post.{targets_from, carry, with_state}
use Rattle.vw_state.proofs.flow_edges.append_entries.Given as goal

abbrev pub invariant-loop-i : goal.invariant-loop-i
invariant-loop-i l = (f : Context) → IsSite f l.site → l.out ≡ l.fn.out ++ map with_state (carry (targets_from f l.table 0 l.i) (abstract_of l.state))
