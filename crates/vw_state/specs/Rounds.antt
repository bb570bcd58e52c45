-- Rounds: a round solves the equations with the jumps through registers that the table of the round before tells of, until
-- it tells of no more.
use Rattle.std.specs.Prelude.{◌≡◌, ℕ, suc, ◌+◌, ◌⊎◌, List, [], Some, Contains}
use Rattle.vw_insn.specs.declared.instruction.Insn.{Insn}
use Rattle.vw_stmt.specs.declared.operands.Var.{Var}
use Rattle.vw_stmt.specs.declared.statement.Flow.TheVariants as flow
use Rattle.vw_lift.specs.Lifted.{flow_of}
pub use Rattle.vw_solver.specs.Seed.{AreDistinct}
use Rattle.vw_domain.specs.declared.parts.Parts.{Parts}
use Rattle.vw_state.specs.declared.tables.PointState.{PointState}
use Rattle.vw_state.specs.Code.{BeginsAt}
use Rattle.vw_state.specs.Context.{Context, code_of}
use Rattle.vw_state.specs.Post.{destinations, form_behind}
use Rattle.vw_state.specs.Tables.{state_of}
use Rattle.vw_state.specs.Solution.{IsLeastWith}
use Rattle.vw_state.specs.Checks.{PassesGraph, StopsAt}

-- a jump through a register stands at a point of the table, and its state tells that it goes to `to`
pub record JumpsTo (f : Context) (table : List PointState) (at to : ℕ) : Type 0 where
  pub state : Parts
  pub there : state_of table at ≡ Some state
  pub instruction : Insn
  pub len : ℕ
  pub stands : BeginsAt (code_of f) at instruction len
  pub src : Var
  pub jumps : flow_of instruction ≡ flow.JumpReg src
  pub goes : Contains (destinations f src (form_behind f (at + len) instruction state)) to

-- the pairs are those of the table's jumps through registers and their points, and no others
pub record AreJumps (f : Context) (table : List PointState) (pairs : List (ℕ × ℕ)) : Type 0 where
  pub only : (at to : ℕ) → Contains pairs (at, to) → JumpsTo f table at to
  pub all : (at to : ℕ) → JumpsTo f table at to → Contains pairs (at, to)

-- The round with a number, its pairs and its table. The pairs are a set: none stands twice, and their order tells nothing.
-- The first round has none. Another follows where no check stops the one before, and its table tells of a jump that is not
-- among its pairs; then the pairs are all that the table tells of.
pub data IsRound (f : Context) : ℕ → List (ℕ × ℕ) → List PointState → Type 0 where
  first_round : (table : List PointState) → IsLeastWith f [] table → IsRound f 1 [] table
  next_round : (number : ℕ) (pairs more : List (ℕ × ℕ)) (before table : List PointState) (at to : ℕ)
      → IsRound f number pairs before → PassesGraph f before → AreJumps f before more → AreDistinct more
      → Contains more (at, to) → (Contains pairs (at, to) → ⊥) → IsLeastWith f more table → IsRound f (suc number) more table

-- a check of the graph fails at a point of the table
pub record Stops (f : Context) (table : List PointState) : Type 0 where
  pub at : ℕ
  pub check : ℕ
  pub stops : StopsAt f table at check

-- no check of the graph fails, and the table tells of no jump that is not among the pairs
pub record IsStable (f : Context) (pairs : List (ℕ × ℕ)) (table : List PointState) : Type 0 where
  pub passes : PassesGraph f table
  pub stays : AreJumps f table pairs

-- the last round, with its pairs and its table
pub record IsLastRound (f : Context) (pairs : List (ℕ × ℕ)) (table : List PointState) : Type 0 where
  pub number : ℕ
  pub round : IsRound f number pairs table
  pub ends : Stops f table ⊎ IsStable f pairs table

-- the least table of a function: that of its last round
pub record IsLeast (f : Context) (table : List PointState) : Type 0 where
  pub pairs : List (ℕ × ℕ)
  pub last : IsLastRound f pairs table
