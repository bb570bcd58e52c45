-- Tables of a function: some of its points with a state each.
use Rattle.std.specs.Prelude.{ℕ, suc, ◌≤◌, ◌==◌, List, [], ◌∷◌, Option, option_map}
use Rattle.std.specs.List.{find, All}
use Rattle.vw_domain.specs.declared.parts.Parts.{Parts}
use Rattle.vw_domain.specs.State.{Fits}
use Rattle.vw_state.specs.declared.tables.PointState.{PointState}

-- the state that a table gives a point; None: it gives it none
abbrev pub state_of : List PointState → ℕ → Option Parts
state_of table point = option_map (λ p. p.state) (find (λ p. p.at == point) table)

-- the points ascend, and none is below `from` or above `last`
abbrev pub RisesWithin : ℕ → ℕ → List PointState → Type 0
RisesWithin from last [] = Unit {0}
RisesWithin from last (p ∷ rest) = (from ≤ p.at) × (p.at ≤ last) × RisesWithin (suc p.at) last rest

-- the bounds of each state's values are among these
abbrev pub AllFit : List ℕ → List PointState → Type 0
AllFit bounds table = All (λ p. Fits bounds p.state) table
