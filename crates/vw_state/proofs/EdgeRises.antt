-- The edges of a greater state are greater, and edges carry valid states: by the laws of the equations and of the forms
-- of states.
use Rattle.std.proofs.Common.{ℕ, zero, suc, ◌+◌, Bool, true, false, List, [], ◌∷◌, ◌++◌, map, Option, Some, None, refl, sym, ap, subst, arith, inl, inr}
use Rattle.std.specs.Prelude.{ℤ, Contains}
use Rattle.std.specs.List.{AllByRecursion}
use Rattle.std.proofs.lemmas.Bool.{cases_Bool}
use Rattle.std.proofs.lemmas.List.Elements.{All-from_recursion, Contains-append_left, Contains-append_right}
use Rattle.vw_insn.specs.declared.operations.Cond.{Cond}
use Rattle.vw_insn.specs.declared.instruction.Insn.{Insn}
use Rattle.vw_stmt.specs.declared.operands.Var.{Var}
use Rattle.vw_stmt.specs.declared.statement.Flow.{Flow}
use Rattle.vw_stmt.specs.declared.statement.Flow.TheVariants as flow
use Rattle.vw_lift.specs.Lifted.{steps, flow_of}
use Rattle.vw_rows.specs.Numbers.{IsBytes}
use Rattle.vw_rows.specs.Spelling.{Spells}
use Rattle.vw_domain.specs.declared.parts.Parts.{Parts}
use Rattle.vw_domain.specs.Abstract.{Abstract, IsBelow, abstract_of}
use Rattle.vw_domain.specs.State.{IsValidState, state_below}
use Rattle.vw_domain.specs.Statements.{finish}
use Rattle.vw_domain.specs.Branches.{rule_at, frame_places, may_go}
use Rattle.vw_domain.specs.Changes.{is_kept}
use Rattle.vw_domain.specs.Calls.{after_call}
use Rattle.vw_domain.specs.FormRanges.{IsStateForm}
use Rattle.vw_domain.specs.StateOf.{state_of}
use Rattle.vw_state.specs.EdgeLaws.{EdgeLaws}
use Rattle.vw_state.specs.Context.{Context, code_of, site_at}
use Rattle.vw_state.specs.Laws.{HasSites, EdgesRise, EdgesAreValid}
use Rattle.vw_state.specs.Post.{relative_point, inside, calls_probe, edge_to, carry, branch_edge, after_direct, flow_forms, form_behind, insn_forms, with_state, insn_edges, PostBy, nothing, begins, seconds, edges_by, edges_with}
use Rattle.vw_state.proofs.Displacements.{all_append, spelled_steps}

abbrev Edge : Type 0
Edge = ℕ × Abstract

-- one of the edges goes to the same point, with a greater state
record HasGreater (highs : List Edge) (edge : Edge) : Type 0 where
  form : Abstract
  there : Contains {X = Edge} highs (edge.0, form)
  below : IsBelow edge.1 form

wider : (xs ys : List Edge) → ((e : Edge) → Contains xs e → Contains ys e) → (lows : List Edge) → AllByRecursion (HasGreater xs) lows → AllByRecursion (HasGreater ys) lows
wider xs ys more [] all = tt
wider xs ys more (e ∷ lows) all =
    (record { form = all.0.form; there = more (e.0, all.0.form) all.0.there; below = all.0.below }, wider xs ys more lows all.1)

greater_first : (point : ℕ) (s t : Abstract) (rest : List Edge) → IsBelow s t → HasGreater ((point, t) ∷ rest) (point, s)
greater_first point s t rest below = record { form = t; there = (0, omega arith, refl); below = below }

greater_to : (to : Option ℕ) (s t : Abstract) → IsBelow s t → AllByRecursion (HasGreater (edge_to to t)) (edge_to to s)
greater_to None s t below = tt
greater_to (Some point) s t below = (greater_first point s t [] below, tt)

greater_carry : (points : List ℕ) (s t : Abstract) → IsBelow s t → AllByRecursion (HasGreater (carry points t)) (carry points s)
greater_carry [] s t below = tt
greater_carry (point ∷ points) s t below = (
  greater_first point s t (carry points t) below,
  wider (carry points t) ((point, t) ∷ carry points t) (Contains-append_right ((point, t) ∷ []) (carry points t)) (carry points s) (greater_carry points s t below),
)

greater_both : (xs ys low_xs low_ys : List Edge) → AllByRecursion (HasGreater xs) low_xs → AllByRecursion (HasGreater ys) low_ys → AllByRecursion (HasGreater (xs ++ ys)) (low_xs ++ low_ys)
greater_both xs ys low_xs low_ys h k =
    all_append (HasGreater (xs ++ ys)) low_xs low_ys (wider xs (xs ++ ys) (Contains-append_left xs ys) low_xs h) (wider ys (xs ++ ys) (Contains-append_right xs ys) low_ys k)

module _ (laws : EdgeLaws) (f : Context) (sites : HasSites f) where
  abbrev Form : Abstract → Type 0
  Form st = IsStateForm f.bounds st

  abbrev CarriesForm : Edge → Type 0
  CarriesForm edge = Form edge.1

  -- ---- the edges of an instruction, by forms

  module _ (next : ℕ) where
    forms_to : (to : Option ℕ) (st : Abstract) → Form st → AllByRecursion CarriesForm (edge_to to st)
    forms_to None st form = tt
    forms_to (Some point) st form = (form, tt)

    forms_carry : (points : List ℕ) (st : Abstract) → Form st → AllByRecursion CarriesForm (carry points st)
    forms_carry [] st form = tt
    forms_carry (point ∷ points) st form = (form, forms_carry points st form)

    form_end : (st : Abstract) → Form st → Form (finish st)
    form_end st form = laws.ends_keep (site_at f next) st (sites next) form

    forms_branch : (st : Abstract) → Form st → (cond : Cond) (taken : Bool) (to : Option ℕ) → AllByRecursion CarriesForm (branch_edge f next st (rule_at cond taken st.fact) to)
    forms_branch st form cond taken to = elim (cases_Bool (may_go (site_at f next) frame_places st (rule_at cond taken st.fact))) [
      | inl goes ↦ rw goes (forms_to to _ (laws.branches_keep (site_at f next) st frame_places cond taken (sites next) form))
      | inr stays ↦ rw stays tt
    ]

    greater_branch : (s t : Abstract) → Form s → Form t → IsBelow s t → (cond : Cond) (taken : Bool) (to : Option ℕ)
        → AllByRecursion (HasGreater (branch_edge f next t (rule_at cond taken t.fact) to)) (branch_edge f next s (rule_at cond taken s.fact) to)
    greater_branch s t form_s form_t below cond taken to = elim (cases_Bool (may_go (site_at f next) frame_places s (rule_at cond taken s.fact))) [
      | inl goes ↦
          let low = (laws.decided (site_at f next) f.bounds s (rule_at cond taken s.fact) form_s).0 goes in
          let up = laws.branches_rise (site_at f next) s t frame_places cond taken (sites next) form_s.form form_t.form below low in
          let goes_too = (laws.decided (site_at f next) f.bounds t (rule_at cond taken t.fact) form_t).1 up.0 in
          rw (goes, goes_too) (greater_to to _ _ up.1)
      | inr stays ↦ rw stays tt
    ]

    form_direct : (rel : ℤ) (st : Abstract) → Form st → Form (after_direct f next rel st)
    form_direct rel st form = elim (cases_Bool (calls_probe f next rel)) [
      | inl probes ↦ rw probes (laws.probes_keep f.bounds st form)
      | inr calls ↦ rw calls (laws.calls_keep f.bounds st is_kept form)
    ]

    below_direct : (rel : ℤ) (s t : Abstract) → Form s → IsBelow s t → IsBelow (after_direct f next rel s) (after_direct f next rel t)
    below_direct rel s t form below = elim (cases_Bool (calls_probe f next rel)) [
      | inl probes ↦ rw probes (laws.probes_rise f.bounds s t form.form below)
      | inr calls ↦ rw calls (laws.calls_rise f.bounds s t form.form below)
    ]

    forms_flow : (targets : Var → Abstract → List ℕ) (st : Abstract) → Form st → (fl : Flow) → AllByRecursion CarriesForm (flow_forms f targets next st fl)
    forms_flow targets st form flow.Next = (form_end st form, tt)
    forms_flow targets st form (flow.Jump rel) = forms_to (inside f.size (relative_point next rel)) (finish st) (form_end st form)
    forms_flow targets st form (flow.Branch cond rel) =
        all_append CarriesForm _ _ (forms_branch (finish st) (form_end st form) cond true (inside f.size (relative_point next rel))) (forms_branch (finish st) (form_end st form) cond false (Some next))
    forms_flow targets st form (flow.JumpReg src) = forms_carry (targets src st) (finish st) (form_end st form)
    forms_flow targets st form (flow.Call rel) = (form_direct rel st form, tt)
    forms_flow targets st form (flow.CallReg src) = (laws.calls_keep f.bounds st is_kept form, tt)
    forms_flow targets st form flow.Ret = tt
    forms_flow targets st form flow.Stop = tt

    greater_flow : (points : List ℕ) (s t : Abstract) → Form s → Form t → IsBelow s t → (fl : Flow)
        → AllByRecursion (HasGreater (flow_forms f (λ src st. points) next t fl)) (flow_forms f (λ src st. points) next s fl)
    greater_flow points s t form_s form_t below fl = by_flow fl
      where
        up : IsBelow (finish s) (finish t)
        up = laws.ends_rise f.bounds s t form_s.form below

        by_flow : (fl : Flow) → AllByRecursion (HasGreater (flow_forms f (λ src st. points) next t fl)) (flow_forms f (λ src st. points) next s fl)
        by_flow flow.Next = (greater_first next (finish s) (finish t) [] up, tt)
        by_flow (flow.Jump rel) = greater_to (inside f.size (relative_point next rel)) (finish s) (finish t) up
        by_flow (flow.Branch cond rel) =
            greater_both _ _ _ _
            (greater_branch (finish s) (finish t) (form_end s form_s) (form_end t form_t) up cond true (inside f.size (relative_point next rel)))
            (greater_branch (finish s) (finish t) (form_end s form_s) (form_end t form_t) up cond false (Some next))
        by_flow (flow.JumpReg src) = greater_carry points (finish s) (finish t) up
        by_flow (flow.Call rel) = (greater_first next (after_direct f next rel s) (after_direct f next rel t) [] (below_direct rel s t form_s below), tt)
        by_flow (flow.CallReg src) = (greater_first next (after_call s) (after_call t) [] (laws.calls_rise f.bounds s t form_s.form below), tt)
        by_flow flow.Ret = tt
        by_flow flow.Stop = tt

    module _ (bytes : List ℕ) (i : Insn) (spelled : Spells bytes i) where
      form_of_behind : (state : Parts) → IsValidState f.bounds state → Form (form_behind f next i state)
      form_of_behind state valid =
          let fields = spelled_steps laws.listed laws.in_form bytes i spelled in
          laws.lists_keep (site_at f next) (abstract_of state) (steps i) (sites next) (laws.forms f.bounds state valid) fields.1 fields.0

      pub below_behind : (low high : Parts) → IsValidState f.bounds low → IsValidState f.bounds high → state_below low high → IsBelow (form_behind f next i low) (form_behind f next i high)
      below_behind low high valid_low valid_high below =
          let fields = spelled_steps laws.listed laws.in_form bytes i spelled in
          laws.lists_rise (site_at f next) (abstract_of low) (abstract_of high) (steps i) (sites next) (laws.forms f.bounds low valid_low).form (laws.forms f.bounds high valid_high).form fields.1
          ((laws.order low high valid_low.state valid_high.state).0 below)

      pub insn_forms_stay : (targets : Var → Abstract → List ℕ) (state : Parts) → IsValidState f.bounds state → AllByRecursion CarriesForm (insn_forms f targets next state i)
      insn_forms_stay targets state valid = forms_flow targets (form_behind f next i state) (form_of_behind state valid) (flow_of i)

      greater_insn : (points : List ℕ) (low high : Parts) → IsValidState f.bounds low → IsValidState f.bounds high → state_below low high
          → AllByRecursion (HasGreater (insn_forms f (λ src st. points) next high i)) (insn_forms f (λ src st. points) next low i)
      greater_insn points low high valid_low valid_high below =
          greater_flow points (form_behind f next i low) (form_behind f next i high) (form_of_behind low valid_low) (form_of_behind high valid_high) (below_behind low high valid_low valid_high below) (flow_of i)

  -- ---- the same by states

  abbrev CarriesState : ℕ × Parts → Type 0
  CarriesState edge = IsValidState f.bounds edge.1

  abbrev HasGreaterState : List (ℕ × Parts) → ℕ × Parts → Type 0
  HasGreaterState highs edge = (u : Parts) × Contains {X = ℕ × Parts} highs (edge.0, u) × state_below edge.1 u

  valid_states : (edges : List Edge) → AllByRecursion CarriesForm edges → AllByRecursion CarriesState (map with_state edges)
  valid_states [] all = tt
  valid_states (e ∷ edges) all = ((laws.built f.bounds e.1 all.0).0, valid_states edges all.1)

  there_with_state : (edges : List Edge) (e : Edge) → Contains edges e → Contains (map with_state edges) (with_state e)
  there_with_state [] e (k, within, is) = absurd (omega (arith, within))
  there_with_state (first ∷ edges) e (zero, within, is) = (0, omega arith, ap with_state is)
  there_with_state (first ∷ edges) e (suc k, within, is) =
      let c = there_with_state edges e (k, omega (arith, within), is) in (suc c.0, omega (arith, c.1), c.2)

  below_states : (highs : List Edge) → AllByRecursion CarriesForm highs → (lows : List Edge) → AllByRecursion CarriesForm lows → AllByRecursion (HasGreater highs) lows → AllByRecursion (HasGreaterState (map with_state highs)) (map with_state lows)
  below_states highs good [] all greater = tt
  below_states highs good (e ∷ lows) all greater =
      let c = greater.0 in
      let high : Form c.form = subst CarriesForm c.there.2 (All-from_recursion CarriesForm highs good c.there.0 (e.0, c.form) c.there.1) in
      let low_state = laws.built f.bounds e.1 all.0 in
      let high_state = laws.built f.bounds c.form high in
      let P : Abstract → Abstract → Type 0 = λ s t. IsBelow s t in
      let forms : IsBelow (abstract_of (state_of e.1)) (abstract_of (state_of c.form)) =
      subst (λ (t : Abstract). P (abstract_of (state_of e.1)) t) (sym high_state.1) (subst (λ (s : Abstract). P s c.form) (sym low_state.1) c.below) in
      ((state_of c.form, there_with_state highs (e.0, c.form) c.there, (laws.order (state_of e.1) (state_of c.form) low_state.0.state high_state.0.state).1 forms), below_states highs good lows all.1 greater.1)

  -- ---- the edges of a point

  module _ (bytes : IsBytes (code_of f)) where
    post_valid : (targets : Var → Abstract → List ℕ) (at : ℕ) (state : Parts) → IsValidState f.bounds state → (edges : List (ℕ × Parts)) → PostBy f targets at state edges → AllByRecursion CarriesState edges
    post_valid targets at state valid edges (nothing none) = tt
    post_valid targets at state valid edges (begins i len stands) = valid_states _ (insn_forms_stay (at + len) _ i stands.spelled targets state valid)

    pub edges_valid : EdgesAreValid f
    edges_valid pairs at state valid =
        let targets : Var → Abstract → List ℕ = λ src st. seconds at pairs in
        All-from_recursion CarriesState (edges_with f pairs at state) (post_valid targets at state valid (edges_with f pairs at state) (laws.are f targets at state bytes))

    post_rises : (points : List ℕ) (at : ℕ) (low high : Parts) → IsValidState f.bounds low → IsValidState f.bounds high → state_below low high → (edges : List (ℕ × Parts)) → PostBy f (λ src st. points) at low edges
        → AllByRecursion (HasGreaterState (edges_by f (λ src st. points) at high)) edges
    post_rises points at low high valid_low valid_high below edges (nothing none) = tt
    post_rises points at low high valid_low valid_high below edges (begins i len stands) =
        let next : ℕ = at + len in
        let targets : Var → Abstract → List ℕ = λ src st. points in
        let same = laws.only f targets at high (insn_edges f targets next high i) bytes (begins i len stands) in
        subst (λ (highs : List (ℕ × Parts)). AllByRecursion (HasGreaterState highs) (insn_edges f targets next low i)) same
        (below_states (insn_forms f targets next high i) (insn_forms_stay next _ i stands.spelled targets high valid_high) (insn_forms f targets next low i) (insn_forms_stay next _ i stands.spelled targets low valid_low)
        (greater_insn next _ i stands.spelled points low high valid_low valid_high below))

    pub edges_rise : EdgesRise f
    edges_rise pairs at low high valid_low valid_high below =
        let points : List ℕ = seconds at pairs in
        let targets : Var → Abstract → List ℕ = λ src st. points in
        All-from_recursion (HasGreaterState (edges_with f pairs at high)) (edges_with f pairs at low)
        (post_rises points at low high valid_low valid_high below (edges_with f pairs at low) (laws.are f targets at low bytes))
