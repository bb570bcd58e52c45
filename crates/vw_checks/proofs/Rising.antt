-- Where no check fails at a state, none fails at a lower one.
use Rattle.std.proofs.Common.{◌≡◌, ◌⊎◌, inl, inr, ℕ, ◌+◌, ◌≤◌, List, [], ◌∷◌, ◌++◌, Bool, true, false, Some, None, refl, sym, subst, arith}
use Rattle.std.specs.List.{AllByRecursion}
use Rattle.std.specs.Prelude.{pos, ◌-ℤ◌, Option}
use Rattle.vw_rows.specs.Numbers.{IsBytes}
use Rattle.vw_insn.specs.declared.instruction.Insn.{Insn}
use Rattle.vw_names.specs.declared.spot.Spot.TheVariants.{Reg as RegisterOf}
use Rattle.vw_stmt.specs.Lifted.{IsLifted}
use Rattle.vw_stmt.specs.declared.statement.Flow.{Flow}
use Rattle.vw_stmt.specs.declared.statement.Flow.TheVariants as flow
use Rattle.vw_stmt.specs.declared.statement.Stmt.{Stmt}
use Rattle.vw_stmt.specs.declared.statement.Stmt.TheVariants as stmt
use Rattle.vw_lift.specs.Lifted.{steps, flow_of, lifted}
use Rattle.vw_layout.specs.declared.calls.CallTarget.{CallTarget}
use Rattle.vw_layout.specs.declared.calls.CallTarget.TheVariants as target
use Rattle.vw_stack.specs.declared.offset.Offset.{Offset}
use Rattle.vw_stack.specs.declared.offset.Offset.TheVariants as offset
use Rattle.vw_domain.specs.declared.parts.Parts.{Parts}
use Rattle.vw_domain.specs.Abstract.{Abstract, abstract_of, IsBelow}
use Rattle.vw_domain.specs.Addresses.{Address, Frame, address_of, value_of}
use Rattle.vw_domain.specs.Checks.{HasHeapBase}
use Rattle.vw_domain.specs.Sites.{Site}
use Rattle.vw_domain.specs.EquationLaws.{NoFlow, StatementsRise, StatementsKeepForms, ChecksRise, TransferChecksRise, ValueChecksRise}
use Rattle.vw_domain.specs.FormLaws.{StatesHaveForms, HasDisplacement}
use Rattle.vw_domain.specs.FormRanges.{IsForm}
use Rattle.vw_domain.specs.Forms.{OrderIsThatOfForms}
use Rattle.vw_domain.specs.Operands.{index_of}
use Rattle.vw_domain.specs.State.{IsValidState, state_below}
use Rattle.vw_domain.specs.Statements.{apply, applies}
use Rattle.vw_state.specs.Code.{BeginsAt}
use Rattle.vw_state.specs.Context.{Context, code_of, site_at}
use Rattle.vw_state.specs.Laws.{HasSites}
use Rattle.vw_state.specs.Checks.{FailsGraph}
use Rattle.vw_state.specs.Checks.{lacks_code as no_code, leaves as goes_out}
use Rattle.vw_state.proofs.RoundChecks.{greater_leaves}
use Rattle.vw_checks.specs.Accesses.{ReadFails, WriteFails, TouchFails, PushFailsAt}
use Rattle.vw_checks.specs.Checks.{called_target, MayEnter, TransferFails, StmtFails, StmtsFail, FlowFails, FlowPasses, InsnFails, Fails, lacks_code, at_insn, Passes}
use Rattle.vw_checks.proofs.Conditions.{None as NoneFails, flow_passes, flow_none, stmt_passes, stmt_none}

enter_rises : (s t : Abstract) (entered : Option CallTarget) → (HasHeapBase t → HasHeapBase s) → MayEnter entered t → MayEnter entered s
enter_rises s t None base may = may
enter_rises s t (Some target.Probe) base may = tt
enter_rises s t (Some (target.Function number)) base may = base may
enter_rises s t (Some (target.Stub stub)) base may = base may

-- the laws of the equations
module _ (rise : StatementsRise) (forms : StatementsKeepForms) (checks : ChecksRise) (transfers : TransferChecksRise) (values : ValueChecksRise) (f : Context) (sites : HasSites f) (next : ℕ) where
  flow_rises : (s t : Abstract) → IsBelow s t → (fl : Flow) → FlowPasses f next t fl → FlowPasses f next s fl
  flow_rises s t below flow.Next passes = tt
  flow_rises s t below (flow.Jump rel) passes = passes
  flow_rises s t below (flow.Branch cond rel) passes = passes
  flow_rises s t below (flow.JumpReg src) passes = λ leaves. passes (greater_leaves f next s t (flow.JumpReg src) below leaves)
  flow_rises s t below (flow.Call rel) passes =
      let law = transfers (site_at f next) s t below in
      (law.1 passes.0, enter_rises s t (called_target f next rel) law.2 passes.1)
  flow_rises s t below (flow.CallReg src) passes =
      let law = transfers (site_at f next) s t below in
      let r = index_of src in
      let function = values (value_of s r) (value_of t r) (below.values (RegisterOf r)) passes.1.0 in
      (law.1 passes.0, (function, law.2 passes.1.1))
  flow_rises s t below flow.Ret passes = (transfers (site_at f next) s t below).0 passes
  flow_rises s t below flow.Stop passes = tt

  stmt_rises : (s t : Abstract) → IsForm f.bounds s → IsForm f.bounds t → IsBelow s t → (x : Stmt) → NoneFails (StmtFails f next t x) → NoneFails (StmtFails f next s x)
  stmt_rises s t low high below (stmt.Flow fl) none = flow_none f next s fl (flow_rises s t below fl (flow_passes f next t fl none))
  stmt_rises s t low high below x none = stmt_none f next s x tt (checks (site_at f next) s t x (sites next) low high below (stmt_passes f next t x none))

  stmts_rise : (s t : Abstract) → IsForm f.bounds s → IsForm f.bounds t → IsBelow s t → (stmts : List Stmt) → AllByRecursion IsLifted stmts → NoneFails (StmtsFail f next t stmts) → NoneFails (StmtsFail f next s stmts)
  stmts_rise s t low high below [] lifted none number h = h
  stmts_rise s t low high below (x ∷ stmts) lifted none number (inl h) = stmt_rises s t low high below x (λ k g. none k (inl g)) number h
  stmts_rise s t low high below (x ∷ stmts) lifted none number (inr h) =
      stmts_rise (apply (site_at f next) x s) (apply (site_at f next) x t) (forms (site_at f next) s x (sites next) low lifted.0) (forms (site_at f next) t x (sites next) high lifted.0)
      (rise (site_at f next) s t x (sites next) low high lifted.0 below) stmts lifted.1 (λ k g. none k (inr g)) number h

with_flow : (stmts : List Stmt) (fl : Flow) → AllByRecursion IsLifted stmts → AllByRecursion IsLifted (stmts ++ stmt.Flow fl ∷ [])
with_flow [] fl all = (tt, tt)
with_flow (x ∷ stmts) fl all = (all.0, with_flow stmts fl all.1)

-- the statements of spelled instructions are lifted ones
abbrev pub StatementsAreLifted : Type 0
StatementsAreLifted = (code : List ℕ) (at : ℕ) (i : Insn) (len : ℕ) → IsBytes code → BeginsAt code at i len → AllByRecursion HasDisplacement (steps i) × AllByRecursion IsLifted (steps i)

module _ (rise : StatementsRise) (forms : StatementsKeepForms) (checks : ChecksRise) (transfers : TransferChecksRise) (values : ValueChecksRise) (have : StatesHaveForms) (order : OrderIsThatOfForms) (spelled : StatementsAreLifted) where
  pub passes_rise : (f : Context) (at : ℕ) (low high : Parts) → IsBytes (code_of f) → HasSites f → IsValidState f.bounds low → IsValidState f.bounds high → state_below low high → Passes f at high → Passes f at low
  passes_rise f at low high bytes sites is_low is_high below passes _ (lacks_code lacks) = passes 1 (lacks_code lacks)
  passes_rise f at low high bytes sites is_low is_high below passes _ (at_insn i len number begins h) =
      stmts_rise rise forms checks transfers values f sites (at + len) (abstract_of low) (abstract_of high) (have f.bounds low is_low).form (have f.bounds high is_high).form
      ((order low high is_low.state is_high.state).0 below) (lifted i) (with_flow (steps i) (flow_of i) (spelled (code_of f) at i len bytes begins).1)
      (λ k g. passes k (at_insn i len k begins g)) number h

-- ---- checks 1 and 2 by themselves

write_numbers : (st : Abstract) (a : Address) (n number : ℕ) → WriteFails st a n number → 3 ≤ number
write_numbers st a n number (inl h) = omega (arith, h.0)
write_numbers st a n number (inr (inl h)) = omega (arith, h.0)
write_numbers st a n number (inr (inr h)) = omega (arith, h.0)

read_numbers : (site : Site) (st : Abstract) (a : Address) (n number : ℕ) → ReadFails site st a n number → 3 ≤ number
read_numbers site st a n number (inl h) = omega (arith, h.0)
read_numbers site st a n number (inr h) = omega (arith, h.0)

touch_numbers : (site : Site) (st : Abstract) (write : Bool) (a : Address) (n number : ℕ) → TouchFails site st write a n number → 3 ≤ number
touch_numbers site st true a n number h = write_numbers st a n number h
touch_numbers site st false a n number h = read_numbers site st a n number h

push_numbers : (st : Abstract) (o : Offset) (number : ℕ) → PushFailsAt st o number → 3 ≤ number
push_numbers st offset.Unknown number h = omega (arith, h)
push_numbers st (offset.Known c) number h = write_numbers st (Frame (c -ℤ pos 8)) 8 number h

module _ (f : Context) (next : ℕ) where
  transfer_numbers : (st : Abstract) (fl : Flow) (number : ℕ) → TransferFails f next st fl number → 3 ≤ number
  transfer_numbers st flow.Next number h = absurd h
  transfer_numbers st (flow.Jump rel) number h = absurd h
  transfer_numbers st (flow.Branch cond rel) number h = absurd h
  transfer_numbers st (flow.JumpReg src) number h = absurd h
  transfer_numbers st (flow.Call rel) number (inl h) = push_numbers st (st.offsets 4) number h
  transfer_numbers st (flow.Call rel) number (inr h) = omega (arith, h.0)
  transfer_numbers st (flow.CallReg src) number (inl h) = push_numbers st (st.offsets 4) number h
  transfer_numbers st (flow.CallReg src) number (inr h) = omega (arith, h.0)
  transfer_numbers st flow.Ret number h = omega (arith, h.0)
  transfer_numbers st flow.Stop number h = absurd h

  access_numbers : (st : Abstract) (x : Stmt) → NoFlow x → (number : ℕ) → StmtFails f next st x number → 3 ≤ number
  access_numbers st (stmt.Load dst size to signed mem) plain number h = read_numbers (site_at f next) st (address_of (site_at f next) st mem) size number h
  access_numbers st (stmt.Store mem size src) plain number h = write_numbers st (address_of (site_at f next) st mem) size number h
  access_numbers st (stmt.Touch mem size write) plain number h = touch_numbers (site_at f next) st write (address_of (site_at f next) st mem) size number h
  access_numbers st (stmt.Flow fl) plain number h = absurd plain
  access_numbers st _ plain number h = absurd h

  flow_numbers : (st : Abstract) (fl : Flow) (number : ℕ) → FlowFails f next st fl number → 2 ≤ number
  flow_numbers st fl number (inl h) = omega (arith, h.0)
  flow_numbers st fl number (inr h) = let more = transfer_numbers st fl number h in omega (arith, more)

  stmt_numbers : (st : Abstract) (x : Stmt) (number : ℕ) → StmtFails f next st x number → 2 ≤ number
  stmt_numbers st (stmt.Flow fl) number h = flow_numbers st fl number h
  stmt_numbers st x number h = let more = access_numbers st x tt number h in omega (arith, more)

  stmts_numbers : (st : Abstract) (stmts : List Stmt) (number : ℕ) → StmtsFail f next st stmts number → 2 ≤ number
  stmts_numbers st [] number h = absurd h
  stmts_numbers st (x ∷ stmts) number (inl h) = stmt_numbers st x number h
  stmts_numbers st (x ∷ stmts) number (inr h) = stmts_numbers (apply (site_at f next) x st) stmts number h

-- check 1 does not depend on the state
pub code_rises : (f : Context) (at : ℕ) (low high : Parts) (number : ℕ) → number ≤ 1 → Fails f at low number → Fails f at high number
code_rises f at low high _ small (lacks_code lacks) = lacks_code lacks
code_rises f at low high _ small (at_insn i len number begins h) = let more = stmts_numbers f (at + len) (abstract_of low) (lifted i) number h in absurd (omega (arith, small, more))

-- a check below 3 that fails at a statement with a state is check 2, and fails with a greater state too
module _ (rise : StatementsRise) (forms : StatementsKeepForms) where
  abbrev IsFirst : ℕ → (ℕ → Type 0) → Type 0
  IsFirst number Fails = (3 ≤ number) ⊎ ((number ≡ 2) × Fails 2)

  module _ (f : Context) (sites : HasSites f) (next : ℕ) where
    first_flow : (s t : Abstract) → IsBelow s t → (fl : Flow) (number : ℕ) → FlowFails f next s fl number → IsFirst number (FlowFails f next t fl)
    first_flow s t below fl number (inl h) = inr (h.0, inl (refl, greater_leaves f next s t fl below h.1))
    first_flow s t below fl number (inr h) = inl (transfer_numbers f next s fl number h)

    first_stmt : (s t : Abstract) → IsBelow s t → (x : Stmt) (number : ℕ) → StmtFails f next s x number → IsFirst number (StmtFails f next t x)
    first_stmt s t below (stmt.Flow fl) number h = first_flow s t below fl number h
    first_stmt s t below x number h = inl (access_numbers f next s x tt number h)

    first_stmts : (s t : Abstract) → IsForm f.bounds s → IsForm f.bounds t → IsBelow s t → (stmts : List Stmt) → AllByRecursion IsLifted stmts → (number : ℕ) → StmtsFail f next s stmts number → IsFirst number (StmtsFail f next t stmts)
    first_stmts s t low high below [] lifted number h = absurd h
    first_stmts s t low high below (x ∷ stmts) lifted number (inl h) = elim (first_stmt s t below x number h) [ inl more ↦ inl more | inr two ↦ inr (two.0, inl two.1) ]
    first_stmts s t low high below (x ∷ stmts) lifted number (inr h) =
        let site = site_at f next in
        let later = first_stmts (apply site x s) (apply site x t) (forms site s x (sites next) low lifted.0) (forms site t x (sites next) high lifted.0) (rise site s t x (sites next) low high lifted.0 below) stmts lifted.1 number h in
        elim later [ inl more ↦ inl more | inr two ↦ inr (two.0, inr two.1) ]

first_insn : (f : Context) (at : ℕ) (high : Parts) (i : Insn) (len number : ℕ) → BeginsAt (code_of f) at i len → number ≤ 2 → (3 ≤ number) ⊎ ((number ≡ 2) × InsnFails f (at + len) high i 2) → Fails f at high number
first_insn f at high i len number begins small (inl more) = absurd (omega (arith, small, more))
first_insn f at high i len number begins small (inr two) = subst (λ (n : ℕ). Fails f at high n) (sym two.0) (at_insn i len 2 begins two.1)

-- checks 1 and 2 that fail at a state fail at a greater one
module _ (rise : StatementsRise) (forms : StatementsKeepForms) (have : StatesHaveForms) (order : OrderIsThatOfForms) (spelled : StatementsAreLifted) where
  pub first_rise : (f : Context) (at : ℕ) (low high : Parts) → IsBytes (code_of f) → HasSites f → IsValidState f.bounds low → IsValidState f.bounds high → state_below low high → (number : ℕ) → number ≤ 2 → Fails f at low number → Fails f at high number
  first_rise f at low high bytes sites is_low is_high below _ small (lacks_code lacks) = lacks_code lacks
  first_rise f at low high bytes sites is_low is_high below _ small (at_insn i len number begins h) =
      first_insn f at high i len number begins small
      (first_stmts rise forms f sites (at + len) (abstract_of low) (abstract_of high) (have f.bounds low is_low).form (have f.bounds high is_high).form ((order low high is_low.state is_high.state).0 below)
      (lifted i) (with_flow (steps i) (flow_of i) (spelled (code_of f) at i len bytes begins).1) number h)

-- what fails at the last flow of some statements
flow_last : (f : Context) (next : ℕ) (stmts : List Stmt) (fl : Flow) (st : Abstract) (n : ℕ) → FlowFails f next (applies (site_at f next) stmts st) fl n → StmtsFail f next st (stmts ++ stmt.Flow fl ∷ []) n
flow_last f next [] fl st n h = inl h
flow_last f next (x ∷ stmts) fl st n h = inr (flow_last f next stmts fl (apply (site_at f next) x st) n h)

-- the checks that stop the rounds are among all
pub graph_fails : (f : Context) (at n : ℕ) (state : Parts) → FailsGraph f at state n → Fails f at state n
graph_fails f at n state (no_code lacks) = lacks_code lacks
graph_fails f at n state (goes_out some out) =
    at_insn out.instruction out.len 2 out.stands (flow_last f (at + out.len) (steps out.instruction) (flow_of out.instruction) (abstract_of state) 2 (inl (refl, out.leaves)))
