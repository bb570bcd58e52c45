-- The laws on which those of the rounds rest, in one place.
use Rattle.std.specs.Prelude.{◌≡◌, ℕ, ◌+◌, Contains}
use Rattle.vw_insn.specs.declared.instruction.Insn.{Insn}
use Rattle.vw_stmt.specs.declared.operands.Var.{Var}
use Rattle.vw_stmt.specs.declared.statement.Flow.TheVariants as flow
use Rattle.vw_lift.specs.Lifted.{flow_of}
use Rattle.vw_domain.specs.declared.parts.Parts.{Parts}
use Rattle.vw_domain.specs.State.{IsValidState, state_below}
use Rattle.vw_state.specs.Checks.{FailsGraph}
use Rattle.vw_state.specs.Code.{BeginsAt}
use Rattle.vw_state.specs.Context.{Context, code_of}
use Rattle.vw_state.specs.Post.{destinations, form_behind}

-- what is proved of the instructions at a point and of the jumps through registers
pub record RoundLaws (f : Context) : Type 0 where
  -- one instruction begins at a point
  pub alone : (at : ℕ) (i j : Insn) (len other : ℕ) → BeginsAt (code_of f) at i len → BeginsAt (code_of f) at j other
      → (i ≡ j) × (len ≡ other)
  -- a jump goes with a greater state, at which no check of the graph fails, wherever it goes with a lower one
  pub jumps : (at to : ℕ) (low high : Parts) (i : Insn) (len : ℕ) (src : Var)
      → IsValidState f.bounds low → IsValidState f.bounds high → state_below low high
      → BeginsAt (code_of f) at i len → flow_of i ≡ flow.JumpReg src → ((check : ℕ) → FailsGraph f at high check → ⊥)
      → Contains (destinations f src (form_behind f (at + len) i low)) to
      → Contains (destinations f src (form_behind f (at + len) i high)) to
