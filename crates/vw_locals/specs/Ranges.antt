-- A set of offsets, kept as its maximal ranges: each with its first and its last offset, ascending.
use Rattle.std.specs.Prelude.{◌≡◌, ◌<ℤ◌, ◌≤ℤ◌, ◌+ℤ◌, ◌-ℤ◌, ℤ, pos, negsuc, ℕ, ◌+◌, int_le, int_lt, Bool, true, false, ◌&&◌, ◌||◌, ◌↔◌, List, [], ◌∷◌, ◌++◌}
use Rattle.std.specs.Int.{int_max, int_min}
use Rattle.std.specs.List.{All, AllPairs}

-- the offset is in one of the ranges
abbrev pub is_written : List (ℤ × ℤ) → ℤ → Bool
is_written [] x = false
is_written (range ∷ rest) x = (int_le range.0 x && int_le x range.1) || is_written rest x

-- no range is empty, and between two there is an offset that is in none
pub record IsRanges (ranges : List (ℤ × ℤ)) : Type 0 where
  pub filled : All (λ range. range.0 ≤ℤ range.1) ranges
  pub apart : AllPairs (λ earlier later. (earlier.1 +ℤ pos 1) <ℤ later.0) ranges

-- more is lower
abbrev pub written_below : List (ℤ × ℤ) → List (ℤ × ℤ) → Type 0
written_below low high = (x : ℤ) → is_written high x ≡ true → is_written low x ≡ true

abbrev pub nat_of : ℤ → ℕ
nat_of (pos n) = n
nat_of (negsuc n) = 0

-- how many offsets are in the ranges
abbrev pub bytes : List (ℤ × ℤ) → ℕ
bytes [] = 0
bytes (range ∷ rest) = nat_of ((range.1 -ℤ range.0) +ℤ pos 1) + bytes rest

-- the offset is one from `low` to `high` - 1
abbrev pub is_between : ℤ → ℤ → ℤ → Bool
is_between low high x = int_le low x && int_lt x high

-- the common part: what is in both
abbrev pub IsCommon : List (ℤ × ℤ) → List (ℤ × ℤ) → List (ℤ × ℤ) → Type 0
IsCommon left right common = (x : ℤ) → is_written common x ≡ true ↔ ((is_written left x ≡ true) × (is_written right x ≡ true))

-- the range of the offsets that are in both ranges, empty where its last is below its first
pub record IsPart (l r part : ℤ × ℤ) : Type 0 where
  pub first : part.0 ≡ int_max l.0 r.0
  pub last : part.1 ≡ int_min l.1 r.1

-- that range comes behind the others, unless it is empty
pub record PutsPart (l r : ℤ × ℤ) (old new : List (ℤ × ℤ)) : Type 0 where
  pub part : ℤ × ℤ
  pub is : IsPart l r part
  pub put : part.0 ≤ℤ part.1 → new ≡ old ++ part ∷ []
  pub left_out : part.1 <ℤ part.0 → new ≡ old

-- each offset of a range is in the set
abbrev pub IsContained : List (ℤ × ℤ) → ℤ × ℤ → Type 0
IsContained ranges range = (x : ℤ) → range.0 ≤ℤ x → x ≤ℤ range.1 → is_written ranges x ≡ true

-- an offset is between the two ranges, of which the first is the lower
abbrev pub IsApart : ℤ × ℤ → ℤ × ℤ → Type 0
IsApart a b = (a.1 +ℤ pos 1) <ℤ b.0

-- there is none
abbrev pub IsReached : ℤ × ℤ → ℤ × ℤ → Type 0
IsReached a b = b.0 ≤ℤ (a.1 +ℤ pos 1)

-- the least range that has both
pub record IsHull (a b hull : ℤ × ℤ) : Type 0 where
  pub first : hull.0 ≡ int_min a.0 b.0
  pub last : hull.1 ≡ int_max a.1 b.1

-- a range is added
abbrev pub IsAdded : ℤ × ℤ → List (ℤ × ℤ) → List (ℤ × ℤ) → Type 0
IsAdded range old new = (x : ℤ) → is_written new x ≡ ((int_le range.0 x && int_le x range.1) || is_written old x)
