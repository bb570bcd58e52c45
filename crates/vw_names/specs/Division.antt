-- A division of places into classes (an equivalence relation; Davey and Priestley, Introduction to Lattices
-- and Order, chapter 1, on partitions). A place is a number. A division is given by a list, ascending by
-- place: each place that is not the least of its class, with the least place of its class.
use Rattle.std.specs.Prelude.{◌≡◌, ◌≢◌, ◌<◌, ◌≤◌, ◌↔◌, ◌⊎◌, ℕ, List, [], ◌∷◌, nat_eq, if◌then◌else◌, map, length, get_or}
use Rattle.std.specs.List.{All, AllPairs}

-- the least place of a place's class: the one that stands at the place, and else the place itself
abbrev pub root : List (ℕ × ℕ) → ℕ → ℕ
root [] place = place
root (entry ∷ rest) place = if nat_eq entry.0 place then entry.1 else root rest place

-- each place is below the places behind it
abbrev pub IsAscending : List (ℕ × ℕ) → Type 0
IsAscending entries = AllPairs (λ earlier later. earlier.0 < later.0) entries

-- the list is that of a division
pub record IsDivision (entries : List (ℕ × ℕ)) : Type 0 where
  pub ascending : IsAscending entries
  pub falls : All (λ entry. entry.1 < entry.0) entries
  pub settled : (place : ℕ) → root entries (root entries place) ≡ root entries place

-- two places are in one class
abbrev pub Same : List (ℕ × ℕ) → ℕ → ℕ → Type 0
Same division a b = root division a ≡ root division b

-- a coarser division is lower: what the higher one puts together, the lower one does too
abbrev pub division_below : List (ℕ × ℕ) → List (ℕ × ℕ) → Type 0
division_below low high = (a b : ℕ) → Same high a b → Same low a b

-- the common refinement: together are the places that both put together
abbrev pub IsRefinement : List (ℕ × ℕ) → List (ℕ × ℕ) → List (ℕ × ℕ) → Type 0
IsRefinement left right common = (a b : ℕ) → Same common a b ↔ (Same left a b × Same right a b)

-- the place is in a class of its own
abbrev pub IsAlone : List (ℕ × ℕ) → ℕ → Type 0
IsAlone division place = (b : ℕ) → Same division place b → b ≡ place

-- of other places than this one, the same are in one class
abbrev pub IsSameBut : ℕ → List (ℕ × ℕ) → List (ℕ × ℕ) → Type 0
IsSameBut place old new = (a b : ℕ) → a ≢ place → b ≢ place → Same new a b ↔ Same old a b

-- the place is taken out of its class and put into that of the other; where both are one place it is alone
pub record Follows (place other : ℕ) (old new : List (ℕ × ℕ)) : Type 0 where
  pub others : IsSameBut place old new
  pub joined : place ≢ other → Same new place other
  pub alone : place ≡ other → IsAlone new place

-- the place is taken out of its class, and of the other places the same are together
pub record Leaves (place : ℕ) (old new : List (ℕ × ℕ)) : Type 0 where
  pub alone : IsAlone new place
  pub others : IsSameBut place old new

-- each place from `low` to `high` - 1 is taken out of its class, and of the other places the same are together
pub record LeavesBetween (low high : ℕ) (old new : List (ℕ × ℕ)) : Type 0 where
  pub alone : (a : ℕ) → low ≤ a → a < high → IsAlone new a
  pub others : (a b : ℕ) → (a < low) ⊎ (high ≤ a) → (b < low) ⊎ (high ≤ b) → Same new a b ↔ Same old a b

-- each entry with the root `from` has the root `to`
abbrev pub relabeled : ℕ → ℕ → List (ℕ × ℕ) → List (ℕ × ℕ)
relabeled from to entries = map (λ entry. (entry.0, if nat_eq entry.1 from then to else entry.1)) entries

-- the first entry with this root
pub record IsFirstUnder (entries : List (ℕ × ℕ)) (least : ℕ) (at : ℕ) : Type 0 where
  pub within : at < length entries
  pub under : (get_or entries at (0, 0)).1 ≡ least
  pub before : (k : ℕ) → k < at → (get_or entries k (0, 0)).1 ≢ least

-- the entry at `at` is that of the place
pub record HasEntryAt (entries : List (ℕ × ℕ)) (place : ℕ) (at : ℕ) : Type 0 where
  pub within : at < length entries
  pub is_key : (get_or entries at (0, 0)).0 ≡ place

-- the place is one from `low` to `high` - 1, and another place is in its class
pub record IsSharedBetween (entries : List (ℕ × ℕ)) (low high place : ℕ) : Type 0 where
  pub at_least : low ≤ place
  pub less : place < high
  pub other : ℕ
  pub together : Same entries place other
  pub apart : other ≢ place
