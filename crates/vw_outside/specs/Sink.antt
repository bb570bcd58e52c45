-- Meanings of a sink: a place that takes bytes at its end.
use Rattle.std.specs.Prelude.{◌≡◌, ℕ, ◌<◌, ◌≤◌, List, ◌++◌, length, take, Option, Some, IfSome}

-- Where the bytes written are told, they are those of before and then `piece`.
abbrev pub Appended : Option (List ℕ) → Option (List ℕ) → List ℕ → Type 0
Appended old new piece = IfSome old (λ bytes. new ≡ Some (bytes ++ piece))

-- What a write of the first `count` bytes of `piece` means; of a piece that is not empty it takes
-- at least one.
pub record Took (old new : Option (List ℕ)) (piece : List ℕ) (count : ℕ) : Type 0 where
  pub fits : count ≤ length piece
  pub some : 0 < length piece → 0 < count
  pub appended : Appended old new (take count piece)

-- A front part of `piece` was appended, maybe none of it or all.
abbrev pub AppendedFront : Option (List ℕ) → Option (List ℕ) → List ℕ → Type 0
AppendedFront old new piece = (count : ℕ) × (count ≤ length piece) × Appended old new (take count piece)
