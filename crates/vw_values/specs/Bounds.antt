-- Bounds of numbers as ascending lists, and the least member of one that is not below a number.
use Rattle.std.specs.Prelude.{◌≡◌, ℕ, zero, suc, ◌*◌, ◌^◌, ◌<◌, ◌≤◌, ◌⊎◌, nat_le, if◌then◌else◌, Option, Some, None, List, [], ◌∷◌}

-- the first member that is not below k: of an ascending list the least one
abbrev pub first_from : ℕ → List ℕ → Option ℕ
first_from k [] = None
first_from k (m ∷ ms) = if nat_le k m then Some m else first_from k ms

abbrev pub IsMember : List ℕ → ℕ → Type 0
IsMember [] k = ⊥
IsMember (m ∷ ms) k = (m ≡ k) ⊎ IsMember ms k

-- each member is below those behind it
abbrev pub IsAscending : List ℕ → Type 0
IsAscending [] = Unit {0}
IsAscending (m ∷ ms) = ((k : ℕ) → IsMember ms k → m < k) × IsAscending ms

-- u is the least member that is not below k
pub record IsLeastFrom (members : List ℕ) (k u : ℕ) : Type 0 where
  pub member : IsMember members u
  pub above : k ≤ u
  pub least : (j : ℕ) → IsMember members j → k ≤ j → u ≤ j

-- the powers of two from 2 ^ 0 to 2 ^ 33, and other numbers from 1 to 2 ^ 32
pub record IsBounds (members : List ℕ) : Type 0 where
  pub ascending : IsAscending members
  pub powers : (i : ℕ) → i ≤ 33 → IsMember members (2 ^ i)
  pub positive : (m : ℕ) → IsMember members m → 1 ≤ m
  pub range : (m : ℕ) → IsMember members m → (m ≤ 2 ^ 32) ⊎ (m ≡ 2 ^ 33)

-- so many numbers, the first one given and each later one twice the one before
abbrev pub doublings : ℕ → ℕ → List ℕ
doublings zero first = []
doublings (suc n) first = first ∷ doublings n (2 * first)

-- the powers of two from 2 ^ 0 to 2 ^ 33
unfoldable pub powers : List ℕ
powers = doublings 34 1

-- the least power of two that is not below k, and none where k is above 2 ^ 33
abbrev pub pow : ℕ → Option ℕ
pow k = first_from k powers

-- a bound: a power of two from 2 ^ 0 to 2 ^ 33, or one of these members that is 1 to 2 ^ 32
abbrev pub IsBoundOf : List ℕ → ℕ → Type 0
IsBoundOf members m = IsMember powers m ⊎ (IsMember members m × (1 ≤ m) × (m ≤ 2 ^ 32))
