-- Checks of the graph and jumps of greater states: below a table of jumps that a value tells of there are fronts of that
-- table alone.
use Rattle.std.proofs.Common.{◌≡◌, ℕ, zero, suc, ◌+◌, ◌≤◌, List, ◌∷◌, Option, Some, None, sym, ◌∙◌, ap, subst, arith, inl, inr}
use Rattle.std.specs.Prelude.{Contains}
use Rattle.vw_insn.specs.declared.instruction.Insn.{Insn}
use Rattle.vw_stmt.specs.declared.operands.Var.{Var}
use Rattle.vw_stmt.specs.declared.statement.Flow.{Flow}
use Rattle.vw_stmt.specs.declared.statement.Flow.TheVariants as flow
use Rattle.vw_lift.specs.Lifted.{flow_of}
use Rattle.vw_names.specs.declared.spot.Spot.TheVariants.{Reg as RegisterOf}
use Rattle.vw_values.specs.declared.value.Value.{Value}
use Rattle.vw_values.specs.declared.value.Value.TheVariants.{JumpDest}
use Rattle.vw_values.specs.Values.{value_below}
use Rattle.vw_domain.specs.declared.parts.Parts.{Parts}
use Rattle.vw_domain.specs.Abstract.{Abstract, IsBelow}
use Rattle.vw_domain.specs.Addresses.{value_of}
use Rattle.vw_domain.specs.Operands.{index_of}
use Rattle.vw_domain.specs.State.{IsValidState, state_below}
use Rattle.vw_state.specs.declared.jumps.JumpTable.{JumpTable}
use Rattle.vw_state.specs.Checks.{StaysInside, Leaves, FailsGraph, lacks_code, leaves}
use Rattle.vw_state.specs.Code.{BeginsAt}
use Rattle.vw_state.specs.Context.{Context, code_of}
use Rattle.vw_state.specs.EdgeLaws.{EdgeLaws}
use Rattle.vw_state.specs.Laws.{HasSites}
use Rattle.vw_state.specs.Post.{jump_table, entry_target, with_target, targets_from, table_targets, destinations, form_behind}
use Rattle.vw_state.proofs.EdgeRises.{below_behind}
use Rattle.vw_state.proofs.RoundLists.{contains_none, contains_cases, contains_head, contains_tail}

module _ (f : Context) where
  -- ---- fronts of a table

  same_target : (low high : JumpTable) → low.base ≡ high.base → (i : ℕ) → entry_target f low i ≡ entry_target f high i
  same_target low high same i = ap (λ (base : ℕ). entry_target f (record { base = base; count = 0 }) i) same

  more_behind : (first : Option ℕ) (points others : List ℕ) (to : ℕ) → (Contains points to → Contains others to) → Contains (with_target first points) to → Contains (with_target first others) to
  more_behind None points others to more c = more c
  more_behind (Some point) points others to more c = elim (contains_cases point to points c) [
    | inl same ↦ let P : ℕ → Type 0 = λ n. Contains (point ∷ others) n in subst P same (contains_head point others)
    | inr later ↦ contains_tail point to others (more later)
  ]

  more_targets : (low high : JumpTable) → low.base ≡ high.base → (count more i to : ℕ) → count ≤ more → Contains (targets_from f low i count) to → Contains (targets_from f high i more) to
  more_targets low high same zero more i to fits c = absurd (contains_none to c)
  more_targets low high same (suc count) zero i to fits c = absurd (omega arith)
  more_targets low high same (suc count) (suc more) i to fits c =
      let C : Option ℕ → Type 0 = λ first. Contains (with_target first (targets_from f low (suc i) count)) to in
      more_behind (entry_target f high i) (targets_from f low (suc i) count) (targets_from f high (suc i) more) to
      (more_targets low high same count more (suc i) to (omega arith))
      (subst C (same_target low high same i) c)

  -- ---- values below

  front_stays : (a k : ℕ) (low : Value) → value_below low (JumpDest a k) → StaysInside f (jump_table (JumpDest a k)) → StaysInside f (jump_table low)
  front_stays a k (JumpDest b j) below stays = λ i less none.
      stays i (omega (arith, less, below.1)) (sym (same_target (record { base = b; count = j }) (record { base = a; count = k }) below.0 i) ∙ none)
  front_stays a k low below stays = absurd below

  lower_stays : (low high : Value) → value_below low high → StaysInside f (jump_table high) → StaysInside f (jump_table low)
  lower_stays low (JumpDest a k) below stays = front_stays a k low below stays
  lower_stays low high below stays = absurd stays

  front_targets : (a k : ℕ) (low : Value) (to : ℕ) → value_below low (JumpDest a k) → Contains (table_targets f (jump_table low)) to → Contains (table_targets f (jump_table (JumpDest a k))) to
  front_targets a k (JumpDest b j) to below c = more_targets (record { base = b; count = j }) (record { base = a; count = k }) below.0 j k 0 to below.1 c
  front_targets a k low to below c = absurd below

  lower_targets : (low high : Value) (to : ℕ) → value_below low high → ((StaysInside f (jump_table high) → ⊥) → ⊥) → Contains (table_targets f (jump_table low)) to → Contains (table_targets f (jump_table high)) to
  lower_targets low (JumpDest a k) to below stays c = front_targets a k low to below c
  lower_targets low high to below stays c = absurd (stays (λ inside. inside))

  -- ---- forms below

  pub greater_leaves : (next : ℕ) (low high : Abstract) (fl : Flow) → IsBelow low high → Leaves f next low fl → Leaves f next high fl
  greater_leaves next low high (flow.Jump rel) below leave = leave
  greater_leaves next low high (flow.Branch cond rel) below leave = leave
  greater_leaves next low high (flow.JumpReg src) below leave = λ stays. leave (lower_stays (value_of low (index_of src)) (value_of high (index_of src)) (below.values (RegisterOf (index_of src))) stays)
  greater_leaves next low high fl below leave = absurd leave

  module _ (laws : EdgeLaws) (sites : HasSites f) (at : ℕ) (low high : Parts) (valid_low : IsValidState f.bounds low) (valid_high : IsValidState f.bounds high) (below : state_below low high) where
    below_forms : (i : Insn) (len : ℕ) → BeginsAt (code_of f) at i len → IsBelow (form_behind f (at + len) i low) (form_behind f (at + len) i high)
    below_forms i len stands = below_behind laws f sites (at + len) _ i stands.spelled low high valid_low valid_high below

    pub greater_fails : (check : ℕ) → FailsGraph f at low check → FailsGraph f at high check
    greater_fails check (lacks_code none) = lacks_code none
    greater_fails check (leaves some leave) =
        let i = leave.instruction in
        let next : ℕ = at + leave.len in
        leaves some (record {
          instruction = i;
          len = leave.len;
          stands = leave.stands;
          leaves = greater_leaves next (form_behind f next i low) (form_behind f next i high) (flow_of i) (below_forms i leave.len leave.stands) leave.leaves;
        })

    -- where no check fails at the greater state, it is not so that the jump leaves
    never_leaves : ((check : ℕ) → FailsGraph f at high check → ⊥) → (i : Insn) (len : ℕ) → BeginsAt (code_of f) at i len → (fl : Flow) → flow_of i ≡ fl → Leaves f (at + len) (form_behind f (at + len) i high) fl → ⊥
    never_leaves passes i len stands fl is leave =
        let L : Flow → Type 0 = λ x. Leaves f (at + len) (form_behind f (at + len) i high) x in
        passes 2 (leaves (λ none. none i len stands) (record { instruction = i; len = len; stands = stands; leaves = subst L (sym is) leave }))

    pub greater_jumps : (to : ℕ) (i : Insn) (len : ℕ) (src : Var) → BeginsAt (code_of f) at i len → flow_of i ≡ flow.JumpReg src → ((check : ℕ) → FailsGraph f at high check → ⊥)
        → Contains (destinations f src (form_behind f (at + len) i low)) to → Contains (destinations f src (form_behind f (at + len) i high)) to
    greater_jumps to i len src stands is passes c =
        let r : ℕ = index_of src in
        lower_targets (value_of (form_behind f (at + len) i low) r) (value_of (form_behind f (at + len) i high) r) to ((below_forms i len stands).values (RegisterOf r))
        (never_leaves passes i len stands (flow.JumpReg src) is) c
