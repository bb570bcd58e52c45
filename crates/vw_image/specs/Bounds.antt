-- What the rules give of pairs of segments and of relocations of a file.
use Rattle.std.specs.Prelude.{◌≡◌, ℕ, true, false, List, [], ◌∷◌}
use Rattle.std.specs.List.{AllByRecursion}
use Rattle.vw_bits.specs.Places.{in_memory}
use Rattle.vw_bits.specs.declared.records.Segment.{Segment}
use Rattle.vw_dynamic.specs.declared.dynamic.Relocation.{Relocation}
use Rattle.vw_image.specs.Image.{touches}

-- a relation holds of each item and each one behind it
unfoldable pub Pairwise : {X : Type 0} → (X → X → Type 0) → List X → Type 0
Pairwise R [] = Unit {0}
Pairwise R (x ∷ more) = AllByRecursion (R x) more × Pairwise R more

-- no byte is in the memory of both
abbrev pub AreApart : Segment → Segment → Type 0
AreApart s t = (a : ℕ) → in_memory a 1 s ≡ true → in_memory a 1 t ≡ false

-- no byte is in the memory of two of them
abbrev pub AllApart : List Segment → Type 0
AllApart segments = Pairwise AreApart segments

-- no byte is changed by both
abbrev pub AreSeparate : Relocation → Relocation → Type 0
AreSeparate r s = touches r.place 8 s ≡ false

-- no byte is changed by two of them
abbrev pub AllSeparate : List Relocation → Type 0
AllSeparate relocations = Pairwise AreSeparate relocations
