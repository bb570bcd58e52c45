-- The solver's table of a function, and what the rounds find in it.
use Rattle.std.specs.Prelude.{◌≡◌, ℕ, suc, ◌≤◌, List, [], ◌∷◌, Option, Some, None}
use Rattle.vw_solver.specs.Solution.{state_at}
use Rattle.vw_domain.specs.declared.parts.Parts.{Parts}
use Rattle.vw_state.specs.declared.tables.PointState.{PointState}
use Rattle.vw_state.specs.Context.{Context}
use Rattle.vw_state.specs.Checks.{FailsGraph}

-- the points that have a state, of a table whose first point is `from`
abbrev pub gather : ℕ → List (Option Parts) → List PointState
gather from [] = []
gather from (None ∷ rest) = gather (suc from) rest
gather from (Some s ∷ rest) = record { at = from; state = s } ∷ gather (suc from) rest

-- a point with its state, where it has one
abbrev pub held : ℕ → Option Parts → List PointState
held point None = []
held point (Some s) = record { at = point; state = s } ∷ []

-- no point that has a state fails a check of the graph
abbrev pub NoneStops : Context → List (Option Parts) → Type 0
NoneStops f table = (at : ℕ) (state : Parts) → state_at table at ≡ Some state → (check : ℕ) → FailsGraph f at state check → ⊥

-- the lowest point that has a state and fails one, with its lowest check
pub record StopsFirst (f : Context) (table : List (Option Parts)) (at check : ℕ) : Type 0 where
  pub state : Parts
  pub there : state_at table at ≡ Some state
  pub fails : FailsGraph f at state check
  pub lowest : (other : ℕ) (s : Parts) → state_at table other ≡ Some s → (c : ℕ) → FailsGraph f other s c → at ≤ other
