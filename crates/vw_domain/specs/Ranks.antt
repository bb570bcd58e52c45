-- How often a state can still rise.
use Rattle.std.specs.Prelude.{ℕ, ◌+◌, ◌*◌, ◌≤◌, List, length}
use Rattle.vw_locals.specs.Ranges.{bytes}
use Rattle.vw_domain.specs.declared.parts.Parts.{Parts}
use Rattle.vw_domain.specs.State.{IsState, state_rank}

-- A state rises at most so often: each register and each slot so often as a value and once more, and besides by the
-- depth, the written bytes, the places less their classes, and the fact.
abbrev pub StateRanksAreBounded : Type 0
StateRanksAreBounded =
    (b : List ℕ) (s : Parts) → IsState s
    → state_rank b s ≤ s.probed + (17 + length s.slots) * (length b + 9) + bytes s.written + length s.classes + 1

-- a state whose parts are no larger than n instructions of a function make them
pub record IsOfSize (n : ℕ) (s : Parts) : Type 0 where
  pub some : 1 ≤ n
  pub slots : length s.slots ≤ n
  pub written : bytes s.written ≤ 16 * n
  pub classes : length s.classes ≤ 18 + length s.slots

-- such a state, of a probed depth of at most d, rises at most so often
abbrev pub StateRanksAreSmall : Type 0
StateRanksAreSmall =
    (b : List ℕ) (s : Parts) (d n : ℕ) → IsState s → s.probed ≤ d → IsOfSize n s
    → state_rank b s ≤ d + 64 * (n * (length b + 8))
