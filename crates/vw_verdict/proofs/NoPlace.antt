-- A function with a safe table has no place.
use Rattle.std.proofs.Common.{ℕ, List}
use Rattle.vw_domain.specs.declared.parts.Parts.{Parts}
use Rattle.vw_state.specs.declared.tables.PointState.{PointState}
use Rattle.vw_state.specs.Context.{Context}
use Rattle.vw_state.specs.Checks.{FailsGraph}
use Rattle.vw_state.specs.Rounds.{IsRound}
use Rattle.vw_checks.specs.Checks.{Fails}
use Rattle.vw_checks.specs.Safe.{HasSafeTable, NoneFails}
use Rattle.vw_verdict.specs.Places.{IsPlaceIn, stops, fails}

-- where the function has a safe table, no check fails at a point of a round's table
abbrev pub RoundsPass : Context → Type 0
RoundsPass f = (number : ℕ) (pairs : List (ℕ × ℕ)) (table : List PointState) → IsRound f number pairs table → HasSafeTable f → NoneFails f table

-- the checks that stop the rounds are among all
abbrev pub StopsAreChecks : Type 0
StopsAreChecks = (f : Context) (at number : ℕ) (state : Parts) → FailsGraph f at state number → Fails f at state number

pub no_place : (f : Context) → RoundsPass f → StopsAreChecks → HasSafeTable f → (at check : ℕ) → IsPlaceIn f at check → ⊥
no_place f law among safe at check (stops number pairs table round stop) = law number pairs table round safe at stop.state stop.there check (among f at check stop.state stop.fails)
no_place f law among safe at check (fails number pairs table round stable first) = law number pairs table round safe at first.state first.there check first.fails.0
