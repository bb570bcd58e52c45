use Rattle.std.proofs.Common.{◌≡◌, ℕ, ◌+◌, ◌<◌, ◌≤◌, true}
use Rattle.vw_machine.specs.Kept.{activation_of}
use Rattle.vw_machine.proofs.judging.are_written.Given as goal

abbrev pub invariant-loop-k : goal.invariant-loop-k
invariant-loop-k l = (q : ℕ) → l.at ≤ q → q < l.at + l.k → (activation_of l.top).written q ≡ true
