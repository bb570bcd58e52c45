use Rattle.std.specs.List.{AllWithin}
use Rattle.vw_state.specs.Context.{Context, IsSite}
use Rattle.vw_state.specs.Solution.{Lands}
use Rattle.vw_recheck.proofs.landing.all_land.Given as goal

abbrev pub invariant-loop-edge : goal.invariant-loop-edge
invariant-loop-edge l = (f : Context) → IsSite f l.site → AllWithin (Lands f l.states) l.edges 0 l.edge-index
