use Rattle.std.proofs.Common.{◌≡◌, ◌++◌, drop}
use Rattle.vw_state.specs.Bounds.{bounds_in}
use Rattle.vw_state.proofs.bounds.candidates.Given as goal

abbrev pub invariant-loop-at : goal.invariant-loop-at
invariant-loop-at l = l.found.items ++ bounds_in (drop l.at l.code) ≡ l.lengths ++ bounds_in l.code
