-- Safe tables of a function.
use Rattle.std.specs.Prelude.{◌≡◌, ℕ, List, Some}
use Rattle.vw_domain.specs.declared.parts.Parts.{Parts}
use Rattle.vw_state.specs.declared.tables.PointState.{PointState}
use Rattle.vw_state.specs.Context.{Context}
use Rattle.vw_state.specs.Tables.{state_of}
use Rattle.vw_state.specs.Solution.{Solves}
use Rattle.vw_checks.specs.Checks.{Passes}

-- no check fails at a point of the table
abbrev pub NoneFails : Context → List PointState → Type 0
NoneFails f table = (at : ℕ) (state : Parts) → state_of table at ≡ Some state → Passes f at state

-- a solution at whose points no check fails
pub record IsSafeTable (f : Context) (table : List PointState) : Type 0 where
  pub solution : Solves f table
  pub passes : NoneFails f table

-- the function has a safe table
pub record HasSafeTable (f : Context) : Type 0 where
  pub table : List PointState
  pub is_safe : IsSafeTable f table
