-- Maps from integers, as lists of a key and a value with the keys ascending.
use Rattle.std.specs.Prelude.{◌≡◌, ◌<ℤ◌, ◌≤ℤ◌, ◌⊎◌, ℤ, ℕ, zero, suc, ◌+◌, ◌<◌, ◌≤◌, length, slice_index_or, List, [], ◌∷◌, Option, None, Some, if◌then◌else◌}
use Rattle.std.specs.List.{AllPairs, AllWithin}
use Rattle.std.specs.Ordering.{int_eq}

-- each key is below the keys behind it
abbrev pub IsAscending : {V : Type 0} → List (ℤ × V) → Type 0
IsAscending entries = AllPairs (λ earlier later. earlier.0 <ℤ later.0) entries

-- the value at a key, and None where the key is absent
abbrev pub value_at : {V : Type 0} → List (ℤ × V) → ℤ → Option V
value_at [] key = None
value_at (entry ∷ rest) key = if int_eq entry.0 key then Some entry.1 else value_at rest key

-- the key is present, with a value below the given one
abbrev pub IsBelowAt : {V : Type 0} → (V → V → Type 0) → List (ℤ × V) → ℤ → V → Type 0
IsBelowAt {V} below entries key greater = (lower : V) × (value_at entries key ≡ Some lower) × below lower greater

-- an absent key is above every value: each key of the greater map is in the lower map, with a lower value
abbrev pub map_below : {V : Type 0} → (V → V → Type 0) → List (ℤ × V) → List (ℤ × V) → Type 0
map_below {V} below low high = (key : ℤ) (greater : V) → value_at high key ≡ Some greater → IsBelowAt below low key greater

-- the keys ascend, and each value is valid
pub record IsValidMap {V : Type 0} (is_valid : V → Type 0) (entries : List (ℤ × V)) : Type 0 where
  pub ascending : IsAscending entries
  pub values : (key : ℤ) (value : V) → value_at entries key ≡ Some value → is_valid value

-- the ranks of the values, and one more for each key
abbrev pub map_rank : {V : Type 0} → (V → ℕ) → List (ℤ × V) → ℕ
map_rank rank [] = 0
map_rank rank (entry ∷ rest) = 1 + rank entry.1 + map_rank rank rest

-- the key is that of the entry at `at`
pub record FoundAt {V : Type 0} (entries : List (ℤ × V)) (key : ℤ) (at : ℕ) : Type 0 where
  pub within : at < length entries
  pub is_key : (d : ℤ × V) → (slice_index_or entries at d).0 ≡ key

-- no entry has the key, and one would stand at `at`
pub record MissingAt {V : Type 0} (entries : List (ℤ × V)) (key : ℤ) (at : ℕ) : Type 0 where
  pub within : at ≤ length entries
  pub below : AllWithin (λ entry. entry.0 <ℤ key) entries 0 at
  pub above : AllWithin (λ entry. key <ℤ entry.0) entries at (length entries)

-- the map has the key
abbrev pub HasKey : {V : Type 0} → List (ℤ × V) → ℤ → Type 0
HasKey {V} entries key = (value : V) × (value_at entries key ≡ Some value)

-- the keys from `low` to `high` - 1 are absent, and at every other key stands what stood there
pub record CutsKeys {V : Type 0} (low high : ℤ) (old new : List (ℤ × V)) : Type 0 where
  pub ascending : IsAscending new
  pub inside : (key : ℤ) → low ≤ℤ key → key <ℤ high → value_at new key ≡ None
  pub outside : (key : ℤ) → (key <ℤ low) ⊎ (high ≤ℤ key) → value_at new key ≡ value_at old key

-- the entry at `at` has another value
abbrev pub with_value : {V : Type 0} → List (ℤ × V) → ℕ → V → List (ℤ × V)
with_value [] at value = []
with_value (entry ∷ rest) zero value = (entry.0, value) ∷ rest
with_value (entry ∷ rest) (suc at) value = entry ∷ with_value rest at value
