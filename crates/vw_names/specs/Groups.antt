-- The list of the classes of a division that have two places or more.
use Rattle.std.specs.Prelude.{◌≡◌, ◌≢◌, ◌<◌, ◌≤◌, ◌↔◌, ℕ, List, [], ◌∷◌, ◌++◌, length, slice_index_or, slice_set}
use Rattle.std.specs.List.{All, Any, AllPairs, AllWithin, insert}
use Rattle.vw_names.specs.Division.{Same}
use Rattle.vw_names.specs.Spot.{number}
use Rattle.vw_names.specs.declared.spot.Spot.{Spot}

-- the list has the place with this number
abbrev pub Has : List Spot → ℕ → Type 0
Has group place = Any (λ spot. number spot ≡ place) group

-- the number of the first place of a list, 0 where it has none
abbrev pub first_place : List Spot → ℕ
first_place [] = 0
first_place (spot ∷ rest) = number spot

-- the list is one class of the division, of two places or more, in their order
pub record IsGroup (division : List (ℕ × ℕ)) (group : List Spot) : Type 0 where
  pub ascending : AllPairs (λ earlier later. number earlier < number later) group
  pub several : 2 ≤ length group
  pub whole : (place : ℕ) → Has group place ↔ Same division place (first_place group)

-- the classes of two places or more, in the order of their first places
pub record AreGroups (division : List (ℕ × ℕ)) (groups : List (List Spot)) : Type 0 where
  pub each : All (IsGroup division) groups
  pub ordered : AllPairs (λ earlier later. first_place earlier < first_place later) groups
  pub complete : (a b : ℕ) → a ≢ b → Same division a b → Any (λ group. Has group a) groups

-- A place is put behind the list that begins with `least`, or, where none does, behind `least` in a list of
-- its own, in the order of first places.
pub data PutsPlace (place least : ℕ) (old : List (List Spot)) : List (List Spot) → Type 0 where
  grown : (at : ℕ) (group : List Spot) (spot : Spot) → at < length old → slice_index_or old at group ≡ group → first_place group ≡ least → number spot ≡ place → PutsPlace place least old (slice_set old at (group ++ spot ∷ []))
  begun : (at : ℕ) (first spot : Spot) → at ≤ length old → AllWithin (λ group. first_place group < least) old 0 at → AllWithin (λ group. least < first_place group) old at (length old) → number first ≡ least → number spot ≡ place → PutsPlace place least old (insert old at (first ∷ spot ∷ []))
