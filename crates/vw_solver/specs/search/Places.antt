-- A table of states by point, kept as the places of the states in a list that has none at its front.
use Rattle.std.specs.Prelude.{◌≡◌, ℕ, ◌+◌, ◌^◌, ◌<◌, ◌≤◌, ◌==◌, ◌⊎◌, List, [], ◌∷◌, length, map, Option, None, slice_index_or, if◌then◌else◌}
use Rattle.std.specs.List.{All}

-- the state at a place
abbrev pub state_in : {S : Type 0} → List (Option S) → ℕ → Option S
state_in states place = slice_index_or states place None

-- the table: by point, the state at the point's place
abbrev pub states_by : {S : Type 0} → List ℕ → List (Option S) → List (Option S)
states_by {S} places states = map (state_in states) places

-- how many points have a place of their own
abbrev pub placed_count : List ℕ → ℕ
placed_count [] = 0
placed_count (place ∷ places) = (if place == 0 then 0 else 1) + placed_count places

-- There is no state at place 0, which is that of all points without one, and each other place is of one point.
pub record ArePlaces {S : Type 0} (places : List ℕ) (states : List (Option S)) : Type 0 where
  pub some : 0 < length states
  pub none : state_in states 0 ≡ None
  pub inside : All (λ place. place < length states) places
  pub apart : (j k place : ℕ) → j < length places → k < length places → slice_index_or places j 0 ≡ place → slice_index_or places k 0 ≡ place → (j ≡ k) ⊎ (place ≡ 0)
  pub few : length states ≤ placed_count places + 1
  pub short : length places < 2 ^ 32
