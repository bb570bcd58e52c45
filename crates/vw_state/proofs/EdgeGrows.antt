-- An edge carries at most one slot and sixteen written bytes more than the state that it leaves, and a greater depth only
-- behind the probe of the stack.
use Rattle.std.proofs.Common.{◌≡◌, ◌≢◌, ◌⊎◌, ℕ, zero, suc, ◌+◌, ◌^◌, ◌≤◌, Bool, true, false, if◌then◌else◌, List, [], ◌∷◌, length, map, Option, Some, None, refl, sym, ap, subst, arith, inl, inr}
use Rattle.std.specs.Prelude.{ℤ, pos, ◌-ℤ◌, is_some, slice_get}
use Rattle.std.specs.Int.{from_bool}
use Rattle.std.specs.Option.{option_map_or}
use Rattle.std.specs.Str.{bytes_eq}
use Rattle.std.specs.List.{AllByRecursion, list_any}
use Rattle.std.proofs.lemmas.Bool.{cases_Bool, or_left, or_right, false≢true}
use Rattle.std.proofs.lemmas.Int.{ints}
use Rattle.std.proofs.lemmas.List.Elements.{All-from_recursion}
use Rattle.vw_image.specs.Image.{Contents}
use Rattle.vw_image.specs.Stubs.{stub_at}
use Rattle.vw_image.specs.declared.stub.Stub.{Stub}
use Rattle.vw_image.specs.declared.stub.StubTo.{StubTo}
use Rattle.vw_image.specs.declared.stub.StubTo.TheVariants.{Import, Inside}
use Rattle.vw_layout.specs.Calls.{probe_name, is_probed, is_probe_stub}
use Rattle.vw_insn.specs.declared.registers.Width.{Width}
use Rattle.vw_stmt.specs.declared.operands.Var.{Var}
use Rattle.vw_stmt.specs.declared.statement.Flow.{Flow}
use Rattle.vw_stmt.specs.declared.statement.Flow.TheVariants as flow
use Rattle.vw_stmt.specs.declared.statement.Stmt.{Stmt}
use Rattle.vw_stmt.specs.declared.statement.Stmt.TheVariants as stmt
use Rattle.vw_lift.specs.Lifted.{steps, flow_of}
use Rattle.vw_lift.specs.Simulation.{writes_memory}
use Rattle.vw_rows.specs.Numbers.{IsBytes}
use Rattle.vw_values.specs.declared.value.Value.{Value}
use Rattle.vw_lattice.specs.Entries.{value_at, HasKey}
use Rattle.vw_domain.specs.declared.parts.Parts.{Parts}
use Rattle.vw_domain.specs.Abstract.{Abstract, abstract_of, slot_size}
use Rattle.vw_domain.specs.State.{IsValidState, AreSlots, wide_key, narrow_key}
use Rattle.vw_domain.specs.StateOf.{state_of}
use Rattle.vw_domain.specs.Changes.{call, is_kept, is_register}
use Rattle.vw_domain.specs.Statements.{finish}
use Rattle.vw_domain.specs.Branches.{Rule, rule_at, frame_places, may_go}
use Rattle.vw_domain.specs.Calls.{after_call, after_probe}
use Rattle.vw_domain.specs.FormRanges.{IsStateForm}
use Rattle.vw_state.specs.EdgeLaws.{EdgeLaws}
use Rattle.vw_state.specs.Context.{Context, code_of, site_at}
use Rattle.vw_state.specs.Laws.{HasSites, depth_limit, Grows, EdgesGrow}
use Rattle.vw_state.specs.Post.{relative_point, inside, calls_probe, called_address, edge_to, carry, branch_edge, after_direct, flow_forms, form_behind, insn_forms, with_state, PostBy, nothing, begins, seconds, edges_with}
use Rattle.vw_state.proofs.Counts.{in_range, one_in_range, bytes_grow, entries_grow}
use Rattle.vw_state.proofs.Displacements.{all_append, spelled_form, spelled_steps}
use Rattle.vw_state.proofs.EdgeRises.{insn_forms_stay}
use Rattle.vw_state.proofs.FormGains.{AddsNothing, AddsLittle, same_parts, nothing_first, nothing_last, before_last_adds_nothing, edge_adds_nothing, list_adds, call_adds}

-- ---- a module whose code calls the probe imports it

any_of : {X : Type 0} (p : X → Bool) (xs : List X) (n : ℕ) → option_map_or p (slice_get xs n) false ≡ true → list_any p xs ≡ true
any_of p [] n h = absurd (false≢true h)
any_of p (x ∷ xs) zero h = or_left (p x) (list_any p xs) h
any_of p (x ∷ xs) (suc n) h = or_right (p x) (list_any p xs) (any_of p xs n h)

abbrev imports_probe : Contents → Bool
imports_probe image = list_any (bytes_eq probe_name) image.imports

stub_imported : (image : Contents) (to : StubTo) → is_probed image.imports to ≡ true → imports_probe image ≡ true
stub_imported image (Import n) h = any_of (bytes_eq probe_name) image.imports n h
stub_imported image (Inside a) h = absurd (false≢true h)

probe_imported : (image : Contents) (a : ℕ) → is_probe_stub image a ≡ true → imports_probe image ≡ true
unfolding is_probe_stub
probe_imported image a h = by_stub (stub_at image a) h
  where
    by_stub : (stub : Option Stub) → option_map_or (λ s. is_probed image.imports s.to) stub false ≡ true → imports_probe image ≡ true
    by_stub None e = absurd (false≢true e)
    by_stub (Some s) e = stub_imported image s.to e

call_imported : (image : Contents) (address : Option ℕ) → option_map_or (is_probe_stub image) address false ≡ true → imports_probe image ≡ true
call_imported image None h = absurd (false≢true h)
call_imported image (Some a) h = probe_imported image a h

abbrev Edge : Type 0
Edge = ℕ × Abstract

module _ (f : Context) where
  -- ---- flows

  abbrev AddLittle : Abstract → List Edge → Type 0
  AddLittle s edges = AllByRecursion (λ (e : Edge). AddsLittle (depth_limit f) s e.1) edges

  abbrev AreDeep : List Edge → Type 0
  AreDeep edges = AllByRecursion (λ (e : Edge). e.1.probed ≤ 2 ^ 32) edges

  limit_is : (imports : Bool) → imports_probe f.image ≡ imports → depth_limit f ≡ (if imports then 2 ^ 32 else 0)
  limit_is imports e = ap (λ (b : Bool). if b then 2 ^ 32 else 0) e

  to_adds : (s t : Abstract) → AddsLittle (depth_limit f) s t → (to : Option ℕ) → AddLittle s (edge_to to t)
  to_adds s t adds None = tt
  to_adds s t adds (Some point) = (adds, tt)

  carry_adds : (s t : Abstract) → AddsLittle (depth_limit f) s t → (points : List ℕ) → AddLittle s (carry points t)
  carry_adds s t adds [] = tt
  carry_adds s t adds (point ∷ points) = (adds, carry_adds s t adds points)

  -- from s, with m behind the statements
  module _ (next : ℕ) (targets : Var → Abstract → List ℕ) (s m : Abstract) where
    branch_adds : AddsLittle (depth_limit f) s (finish m) → (rule : Option (Width × Rule)) (to : Option ℕ) → AddLittle s (branch_edge f next (finish m) rule to)
    branch_adds adds rule to = elim (cases_Bool (may_go (site_at f next) frame_places (finish m) rule)) [
      | inl goes ↦ rw goes (to_adds s _ (nothing_last (depth_limit f) s (finish m) _ adds (edge_adds_nothing (site_at f next) frame_places (finish m) rule)) to)
      | inr stays ↦ rw stays tt
    ]

    return_adds : AddsNothing s m → (kept : ℕ → Bool) → AddsLittle (depth_limit f) s (call m kept (m.offsets 4))
    return_adds before kept = nothing_first (depth_limit f) s m _ before (call_adds (depth_limit f) m kept (m.offsets 4))

    probe_adds : AddsNothing s m → imports_probe f.image ≡ true → (after_probe m).probed ≤ 2 ^ 32 → AddsLittle (depth_limit f) s (after_probe m)
    probe_adds before imports deep =
        let adds = return_adds before is_register in
        let limit = limit_is true imports in
        record { slot = adds.slot; byte = adds.byte; slots = adds.slots; written = adds.written; probed = omega arith }

    direct_adds : AddsNothing s m → (rel : ℤ) → (after_direct f next rel m).probed ≤ 2 ^ 32 → AddsLittle (depth_limit f) s (after_direct f next rel m)
    direct_adds before rel = by_test (calls_probe f next rel) refl
      where
        by_test : (probes : Bool) → calls_probe f next rel ≡ probes → (if probes then after_probe m else after_call m).probed ≤ 2 ^ 32
            → AddsLittle (depth_limit f) s (if probes then after_probe m else after_call m)
        by_test true e deep = probe_adds before (call_imported f.image (called_address f next rel) e) deep
        by_test false e deep = return_adds before is_kept

    -- a flow writes memory only in a call, before which nothing is written
    flow_adds : AddsLittle (depth_limit f) s m → (fl : Flow) → (writes_memory (stmt.Flow fl) ≡ true → AddsNothing s m)
        → AreDeep (flow_forms f targets next m fl) → AddLittle s (flow_forms f targets next m fl)
    flow_adds adds fl = by_flow fl
      where
        at_end : AddsLittle (depth_limit f) s (finish m)
        at_end = nothing_last (depth_limit f) s m (finish m) adds (same_parts m (finish m) refl refl refl)

        by_flow : (fl : Flow) → (writes_memory (stmt.Flow fl) ≡ true → AddsNothing s m) → AreDeep (flow_forms f targets next m fl) → AddLittle s (flow_forms f targets next m fl)
        by_flow flow.Next before deep = (at_end, tt)
        by_flow (flow.Jump rel) before deep = to_adds s (finish m) at_end (inside f.size (relative_point next rel))
        by_flow (flow.Branch cond rel) before deep =
            all_append (λ (e : Edge). AddsLittle (depth_limit f) s e.1) _ _
            (branch_adds at_end (rule_at cond true (finish m).fact) (inside f.size (relative_point next rel)))
            (branch_adds at_end (rule_at cond false (finish m).fact) (Some next))
        by_flow (flow.JumpReg src) before deep = carry_adds s (finish m) at_end (targets src m)
        by_flow (flow.Call rel) before deep = (direct_adds (before refl) rel deep.0, tt)
        by_flow (flow.CallReg src) before deep = (return_adds (before refl) is_kept, tt)
        by_flow flow.Ret before deep = tt
        by_flow flow.Stop before deep = tt

  -- ---- states

  has_key : {V : Type 0} (slots : List (ℤ × V)) (key : ℤ) → is_some (value_at slots key) ≡ true → HasKey slots key
  has_key {V} slots key h = by_value (value_at slots key) refl h
    where
      by_value : (v : Option V) → value_at slots key ≡ v → is_some v ≡ true → HasKey slots key
      by_value None e h = absurd (false≢true h)
      by_value (Some v) e h = (v, e)

  -- the size of a slot by which of its two keys is there
  abbrev size_of : Bool → Bool → ℕ
  size_of narrow wide = if narrow then 4 else (if wide then 8 else 0)

  some_key : (narrow wide : Bool) → size_of narrow wide ≢ 0 → 1 ≤ from_bool wide + from_bool narrow
  some_key true wide h = omega arith
  some_key false true h = omega arith
  some_key false false h = absurd (h refl)

  keys_grow : (narrow wide old_narrow old_wide : Bool) (more : ℕ) → (wide ≡ true → narrow ≡ true → ⊥)
      → (size_of narrow wide ≢ 0 → (size_of old_narrow old_wide ≢ 0) ⊎ (1 ≤ more))
      → from_bool wide + from_bool narrow ≤ (from_bool old_wide + from_bool old_narrow) + more
  keys_grow true true old_narrow old_wide more apart grows = absurd (apart refl refl)
  keys_grow true false old_narrow old_wide more apart grows = elim (grows (λ e. absurd (omega arith))) [
    | inl before ↦ let one = some_key old_narrow old_wide before in omega arith
    | inr new ↦ omega arith
  ]
  keys_grow false true old_narrow old_wide more apart grows = elim (grows (λ e. absurd (omega arith))) [
    | inl before ↦ let one = some_key old_narrow old_wide before in omega arith
    | inr new ↦ omega arith
  ]
  keys_grow false false old_narrow old_wide more apart grows = omega arith

  slots_grow : (old new : List (ℤ × Value)) → AreSlots new → (slot : ℤ) → ((o : ℤ) → slot_size new o ≢ 0 → (slot_size old o ≢ 0) ⊎ (o ≡ slot)) → length new ≤ length old + 1
  slots_grow old new is slot grows =
      entries_grow old new is.ascending (pos 0 -ℤ pos (2 ^ 32)) (2 ^ 33 + 1)
      (λ key v found. let w = is.within key (v, found) in let low = w.0 in let high = w.1 in (omega (arith, ints), omega (arith, ints))) slot
      (λ o.
      keys_grow (is_some (value_at new (narrow_key o))) (is_some (value_at new (wide_key o))) (is_some (value_at old (narrow_key o))) (is_some (value_at old (wide_key o))) (in_range (slot, slot) o)
      (λ wide narrow. is.apart o (has_key new (wide_key o) wide) (has_key new (narrow_key o) narrow))
      (λ there. elim (grows o there) [
        | inl before ↦ inl before
        | inr same ↦ let one = one_in_range (slot, slot) o (omega (arith, ints)) (omega (arith, ints)) in inr (omega arith)
      ]))

  state_grows : (old new : Parts) → IsValidState f.bounds old → IsValidState f.bounds new → AddsLittle (depth_limit f) (abstract_of old) (abstract_of new) → Grows f old new
  state_grows old new is_old is_new adds = record {
    slots = slots_grow old.slots new.slots is_new.state.slots adds.slot adds.slots;
    written = bytes_grow old.written new.written is_old.state.ranges is_new.state.ranges (pos 0 -ℤ pos (2 ^ 32)) (2 ^ 32)
        (λ x h. let w = is_new.state.frame x h in let high = w.1 in (w.0, omega (arith, ints))) adds.byte adds.written;
    probed = adds.probed;
  }

  -- ---- the edges of a point

  abbrev HaveForms : List Edge → Type 0
  HaveForms edges = AllByRecursion (λ (e : Edge). IsStateForm f.bounds e.1) edges

  forms_are_deep : (edges : List Edge) → HaveForms edges → AreDeep edges
  forms_are_deep [] forms = tt
  forms_are_deep (e ∷ edges) forms = (forms.0.probed, forms_are_deep edges forms.1)

  module _ (laws : EdgeLaws) (sites : HasSites f) (bytes : IsBytes (code_of f)) where
    abbrev GrowsFrom : Parts → ℕ × Parts → Type 0
    GrowsFrom state edge = Grows f state edge.1

    states_grow : (state : Parts) → IsValidState f.bounds state → (edges : List Edge) → HaveForms edges → AddLittle (abstract_of state) edges → AllByRecursion (GrowsFrom state) (map with_state edges)
    states_grow state valid [] forms all = tt
    states_grow state valid (e ∷ edges) forms all =
        let built = laws.built f.bounds e.1 forms.0 in
        (state_grows state (state_of e.1) valid built.0 (subst (λ (t : Abstract). AddsLittle (depth_limit f) (abstract_of state) t) (sym built.1) all.0), states_grow state valid edges forms.1 all.1)

    post_grows : (targets : Var → Abstract → List ℕ) (at : ℕ) (state : Parts) → IsValidState f.bounds state → (edges : List (ℕ × Parts)) → PostBy f targets at state edges → AllByRecursion (GrowsFrom state) edges
    post_grows targets at state valid edges (nothing none) = tt
    post_grows targets at state valid edges (begins i len stands) =
        let next : ℕ = at + len in
        let forms = insn_forms_stay laws f sites next _ i stands.spelled targets state valid in
        let list = spelled_form laws.listed laws.in_form _ i stands.spelled in
        let last : Stmt = stmt.Flow (flow_of i) in
        states_grow state valid (insn_forms f targets next state i) forms
        (flow_adds next targets (abstract_of state) (form_behind f next i state)
        (list_adds (depth_limit f) (site_at f next) (steps i) (last ∷ []) (abstract_of state) (spelled_steps laws.listed laws.in_form _ i stands.spelled).1 list.stores) (flow_of i)
        (λ writes. before_last_adds_nothing (site_at f next) (steps i) last (abstract_of state) writes list.stores)
        (forms_are_deep (insn_forms f targets next state i) forms))

    pub edges_grow : EdgesGrow f
    edges_grow pairs at state valid =
        let targets : Var → Abstract → List ℕ = λ src st. seconds at pairs in
        All-from_recursion (GrowsFrom state) (edges_with f pairs at state) (post_grows targets at state valid (edges_with f pairs at state) (laws.are f targets at state bytes))
