-- Where a function fails.
use Rattle.std.specs.Prelude.{◌≡◌, ℕ, ◌≤◌, List, Some}
use Rattle.vw_domain.specs.declared.parts.Parts.{Parts}
use Rattle.vw_state.specs.declared.tables.PointState.{PointState}
use Rattle.vw_state.specs.Context.{Context}
use Rattle.vw_state.specs.Tables.{state_of}
use Rattle.vw_state.specs.Checks.{StopsAt}
use Rattle.vw_state.specs.Rounds.{IsRound, IsStable}
use Rattle.vw_checks.specs.Checks.{Fails, LowestFailing}

-- the lowest point of the table at which a check fails, with the lowest number there
pub record FailsFirst (f : Context) (table : List PointState) (at check : ℕ) : Type 0 where
  pub state : Parts
  pub there : state_of table at ≡ Some state
  pub fails : LowestFailing f at state (Some check)
  pub lowest : (other : ℕ) (s : Parts) → state_of table other ≡ Some s → (c : ℕ) → Fails f other s c → at ≤ other

-- The place of a function.
pub data IsPlaceIn (f : Context) (at check : ℕ) : Type 0 where
  -- where the rounds stop: the lowest point of the last round's table at which check 1 or 2 fails
  stops : (number : ℕ) (pairs : List (ℕ × ℕ)) (table : List PointState) → IsRound f number pairs table → StopsAt f table at check → IsPlaceIn f at check
  -- where the rounds are stable, so that neither fails: the lowest point of the least table at which another
  -- check fails, with the lowest number there
  fails : (number : ℕ) (pairs : List (ℕ × ℕ)) (table : List PointState) → IsRound f number pairs table → IsStable f pairs table → FailsFirst f table at check → IsPlaceIn f at check
