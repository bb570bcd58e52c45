use Rattle.std.proofs.Common.{ℕ, ◌+◌, ◌<◌, ◌≤◌}
use Rattle.vw_machine.specs.Module.{view_of}
use Rattle.vw_machine.specs.Permitted.{IsReadableAt}
use Rattle.vw_machine.proofs.judging.are_readable.Given as goal

abbrev pub invariant-loop-k : goal.invariant-loop-k
invariant-loop-k l = (q : ℕ) → l.at ≤ q → q < l.at + l.k → IsReadableAt (view_of l.«module») l.world q
