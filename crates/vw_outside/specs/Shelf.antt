-- Meanings of a shelf: named files that are opened and read from the front.
use Rattle.std.specs.Prelude.{◌≡◌, ℕ, ◌-◌, ◌^◌, ◌<◌, ◌≤◌, ◌↔◌, ◌⊎◌, List, [], length, take, drop, Option, Some, None, IfSome}

-- A counter of 64 bits counted an event: it is higher, or stands still at its type's end.
abbrev pub Rose : ℕ → ℕ → Type 0
Rose old new = (old < new) ⊎ (new ≡ 2 ^ 64 - 1)

-- A counter of 64 bits did not fall.
abbrev pub NeverFell : ℕ → ℕ → Type 0
NeverFell old new = (old ≤ new) × (new ≤ 2 ^ 64 - 1)

-- No bytes are told.
abbrev pub untold : Option (List ℕ)
untold = None

-- The same files are told, each with the same bytes.
abbrev pub SameFiles : (List ℕ → Option (List ℕ)) → (List ℕ → Option (List ℕ)) → Type 0
SameFiles old new = (name : List ℕ) → new name ≡ old name

-- The next `count` of the bytes left stand at the front of a buffer, and the others are left.
-- None came exactly at the end, or for an empty buffer.
pub record Moved (bytes : List ℕ) (left : Option (List ℕ)) (buffer : List ℕ) (count : ℕ) : Type 0 where
  pub available : count ≤ length bytes
  pub front : take count buffer ≡ take count bytes
  pub rest : left ≡ Some (drop count bytes)
  pub ends : (count ≡ 0) ↔ ((bytes ≡ []) ⊎ (length buffer ≡ 0))

-- What a read of `count` bytes means: how many fit, and, where the bytes left are told, which.
pub record Gave (left_old left_new : Option (List ℕ)) (buffer : List ℕ) (count : ℕ) : Type 0 where
  pub fits : count ≤ length buffer
  pub moved : IfSome left_old (λ bytes. Moved bytes left_new buffer count)
