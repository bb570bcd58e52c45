-- The laws on which those of the edges rest, in one place.
use Rattle.std.specs.Prelude.{◌≡◌, ℕ, List}
use Rattle.vw_insn.specs.declared.instruction.Insn.{Insn}
use Rattle.vw_insn.specs.Listed.{IsListed}
use Rattle.vw_stmt.specs.declared.operands.Var.{Var}
use Rattle.vw_lift.specs.Lifted.{lifted}
use Rattle.vw_lift.specs.Simulation.{HasWord, IsInForm}
use Rattle.vw_rows.specs.Numbers.{IsBytes}
use Rattle.vw_rows.specs.Spelling.{Spells}
use Rattle.vw_domain.specs.declared.parts.Parts.{Parts}
use Rattle.vw_domain.specs.Abstract.{Abstract}
use Rattle.vw_domain.specs.Forms.{OrderIsThatOfForms}
use Rattle.vw_domain.specs.FormLaws.{StatesHaveForms, StateOfForms, MayGoIsDecided, ListsKeepStateForms, EndsKeepStateForms, CallsKeepStateForms, ProbesKeepStateForms, EdgesKeepStateForms}
use Rattle.vw_domain.specs.EquationLaws.{ListsRise, EndsRise, BranchesRise, CallsRise, ProbesRise}
use Rattle.vw_state.specs.Context.{Context, code_of}
use Rattle.vw_state.specs.Post.{PostBy, edges_by}

-- what is proved of the equations, of the forms of states, of instructions that are spelled and of the edges of a point
pub record EdgeLaws : Type 0 where
  pub lists_rise : ListsRise
  pub lists_keep : ListsKeepStateForms
  pub ends_rise : EndsRise
  pub ends_keep : EndsKeepStateForms
  pub branches_rise : BranchesRise
  pub branches_keep : EdgesKeepStateForms
  pub decided : MayGoIsDecided
  pub calls_rise : CallsRise
  pub calls_keep : CallsKeepStateForms
  pub probes_rise : ProbesRise
  pub probes_keep : ProbesKeepStateForms
  pub order : OrderIsThatOfForms
  pub forms : StatesHaveForms
  pub built : StateOfForms
  pub listed : (bytes : List ℕ) (i : Insn) → Spells bytes i → IsListed i
  pub in_form : (i : Insn) → IsListed i → HasWord i → IsInForm (lifted i)
  pub are : (f : Context) (targets : Var → Abstract → List ℕ) (at : ℕ) (state : Parts) → IsBytes (code_of f) → PostBy f targets at state (edges_by f targets at state)
  pub only : (f : Context) (targets : Var → Abstract → List ℕ) (at : ℕ) (state : Parts) (edges : List (ℕ × Parts)) → IsBytes (code_of f) → PostBy f targets at state edges
      → edges ≡ edges_by f targets at state
