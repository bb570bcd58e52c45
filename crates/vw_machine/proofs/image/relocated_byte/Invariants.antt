use Rattle.std.proofs.Common.{ℕ, ◌-◌, ◌<◌, ◌≤◌}
use Rattle.vw_image.specs.Words.{word_at}
use Rattle.vw_machine.specs.Found.{IsRelocated}
use Rattle.vw_machine.proofs.image.relocated_byte.Given as goal

abbrev pub invariant-loop-k : goal.invariant-loop-k
invariant-loop-k l = (j : ℕ) → j < l.k → j ≤ l.place → IsRelocated (word_at l.«module».image (l.place - j) 8) → ⊥
