-- Safe tables of states are safe tables of their abstract forms.
use Rattle.std.proofs.Common.{◌≡◌, ℕ, zero, suc, ◌+◌, ◌*◌, ◌%◌, ◌^◌, ◌<◌, ◌≤◌, inl, inr, ⊎_elim, ◌==◌, ◌||◌, Bool, true, false, if◌then◌else◌, ℤ, pos, negsuc, List, [], ◌∷◌, ◌++◌, length, map, take, drop, Option, Some, None, refl, sym, ap, ◌∙◌, subst, arith}
use Rattle.std.specs.Prelude.{Contains, ◌↔◌, nat_lt, is_some, option_map, option_and_then}
use Rattle.std.specs.List.{All, AllByRecursion, find}
use Rattle.std.specs.Option.{option_map_or}
use Rattle.std.proofs.lemmas.Bool.{false≢true, eqb-true}
use Rattle.std.proofs.lemmas.Bool.Decides.{nat_tests}
use Rattle.std.proofs.lemmas.List.{length-drop}
use Rattle.vw_bits.specs.Words.{sign_extended}
use Rattle.vw_insn.specs.declared.instruction.Insn.{Insn}
use Rattle.vw_insn.specs.declared.operations.Cond.{Cond}
use Rattle.vw_insn.specs.declared.registers.Width.{Width}
use Rattle.vw_insn.specs.Listed.{IsListed}
use Rattle.vw_stmt.specs.declared.operands.Var.{Var}
use Rattle.vw_stmt.specs.declared.statement.Flow.{Flow}
use Rattle.vw_stmt.specs.declared.statement.Flow.TheVariants as flow
use Rattle.vw_stmt.specs.Lifted.{IsLifted}
use Rattle.vw_lift.specs.Lifted.{steps, flow_of}
use Rattle.vw_decode.specs.Lexing.{Found, insn_found, length_found, read}
use Rattle.vw_rows.specs.Numbers.{IsBytes}
use Rattle.vw_rows.specs.Spelling.{Spells}
use Rattle.vw_image.specs.Image.{Contents}
use Rattle.vw_image.specs.Stubs.{stub_at}
use Rattle.vw_image.specs.declared.stub.Stub.{Stub}
use Rattle.vw_image.specs.declared.stub.StubTo.{StubTo}
use Rattle.vw_image.specs.declared.stub.StubTo.TheVariants.{Import, Inside}
use Rattle.vw_layout.specs.Calls.{is_entry, is_destination, module_stub, is_probed, is_probe_stub, call_target}
use Rattle.vw_layout.specs.Layout.{IsWhole}
use Rattle.vw_layout.specs.declared.calls.CallTarget.{CallTarget}
use Rattle.vw_layout.specs.declared.calls.CallTarget.TheVariants as target
use Rattle.vw_layout.specs.declared.functions.Function.{Function}
use Rattle.vw_layout.specs.declared.layout.Module.{Module as Declared}
use Rattle.vw_values.specs.declared.value.Value.TheVariants as value
use Rattle.vw_domain.specs.declared.parts.Parts.{Parts}
use Rattle.vw_domain.specs.Abstract.{Abstract, IsBelow, abstract_of}
use Rattle.vw_domain.specs.Addresses.{value_of}
use Rattle.vw_domain.specs.Branches.{Rule, rule_at, may_go, frame_places, edge_state}
use Rattle.vw_domain.specs.Calls.{after_call, after_probe}
use Rattle.vw_domain.specs.Changes.{is_kept}
use Rattle.vw_domain.specs.Checks.{PassesAll, MayPush, HasHeapBase}
use Rattle.vw_domain.specs.FormLaws.{StatesHaveForms, EntryIsState, HasDisplacement, ListsKeepStateForms, EndsKeepStateForms, CallsKeepStateForms, ProbesKeepStateForms, EdgesKeepStateForms, StateOfForms, MayGoIsDecided}
use Rattle.vw_domain.specs.FormRanges.{IsStateForm}
use Rattle.vw_domain.specs.Forms.{OrderIsThatOfForms}
use Rattle.vw_domain.specs.Operands.{index_of}
use Rattle.vw_domain.specs.Sites.{Plain}
use Rattle.vw_domain.specs.State.{entry_state}
use Rattle.vw_domain.specs.StateOf as form
use Rattle.vw_domain.specs.Statements.{applies, finish}
use Rattle.vw_state.specs.declared.tables.FunctionTable.{FunctionTable}
use Rattle.vw_state.specs.declared.tables.PointState.{PointState}
use Rattle.vw_state.specs.declared.tables.Tables.{Tables as Given}
use Rattle.vw_state.specs.Checks.{StaysInside}
use Rattle.vw_state.specs.Code.{BeginsAt}
use Rattle.vw_state.specs.Context.{Context, code_of, context_of, site_at}
use Rattle.vw_state.specs.declared.jumps.JumpTable.{JumpTable}
use Rattle.vw_state.specs.Laws.{HasSites}
use Rattle.vw_state.specs.Post.{PostBy, nothing, begins, relative_point, inside, address_in, called_address, calls_probe, jump_table, entry_target, targets_from, table_targets, destinations, edge_to, carry, branch_edge, after_direct, flow_forms, form_behind, insn_forms, insn_edges, with_state, edges_by}
use Rattle.vw_state.specs.Solution.{Lands as LandsIn}
use Rattle.vw_state.specs.Sites.{site_word}
use Rattle.vw_state.specs.Tables.{state_of}
use Rattle.vw_checks.specs.Checks.{called_target, MayEnter, MayEnterBy, FlowPasses, InstructionsAreChecked, lacks_code, at_insn}
use Rattle.vw_checks.specs.Modules.{TablesOf, AreSafe as AreSafeStates}
use Rattle.vw_checks.specs.Safe.{IsSafeTable}
use Rattle.vw_machine.specs.declared.world.World.{World}
use Rattle.vw_machine.specs.Module.{view_of}
use Rattle.vw_sandbox.specs.MapOf.{table_at, entry_of, callee_of, callee_read, callee_in, map_of}
use Rattle.vw_sandbox.specs.Tables.{Tables, Bounds, Lands, IsProbeAt, IsCalleeAt, IsSpelled, Calls, EdgeLands, Follows, IsSafeAt, AreSafe, IsMapOf}
use Rattle.vw_sandbox.proofs.Jumps.{entry_leads, each_target, each_edge, told_by, stays, function_told}
use Rattle.vw_machine.proofs.CodeLemmas.{found_of}
use Rattle.vw_sandbox.proofs.Modules.{HoldsCode, code_bytes, IsBytes-drop}
use Rattle.vw_sandbox.proofs.Rules.{any_passes, is_some_of, or_cases}
use Rattle.vw_state.proofs.Displacements.{spelled_word}
use Rattle.vw_sandbox.proofs.Spellings.{begins_some}
use Rattle.vw_sandbox.proofs.StubReads.{ReadsOnly, ReadsNone}

-- the tables by the forms of their states
abbrev pub forms_of : List FunctionTable → Tables
forms_of tables entry at = option_map abstract_of (state_of (table_at tables entry) at)

-- the bounds of each function of the module
abbrev pub bounds_of : Declared → Bounds
bounds_of m f = (context_of m f).bounds

-- ---- what the crates below say

pub record StateLaws : Type 0 where
  pub posts : (c : Context) (targets : Var → Abstract → List ℕ) (at : ℕ) (state : Parts) → IsBytes (code_of c) → PostBy c targets at state (edges_by c targets at state)
  pub sites : (m : Declared) (f : Function) → IsWhole m → IsBytes m.image.bytes → Contains m.functions f → HasSites (context_of m f)
  pub displaced : (code : List ℕ) (at : ℕ) (i : Insn) (len : ℕ) → IsBytes code → BeginsAt code at i len → AllByRecursion HasDisplacement (steps i) × AllByRecursion IsLifted (steps i)
  pub listed : (bytes : List ℕ) (i : Insn) → Spells bytes i → IsListed i
  pub checks : InstructionsAreChecked
  pub forms : StatesHaveForms
  pub built : StateOfForms
  pub order : OrderIsThatOfForms
  pub entry : EntryIsState
  pub lists : ListsKeepStateForms
  pub ends : EndsKeepStateForms
  pub calls : CallsKeepStateForms
  pub probes : ProbesKeepStateForms
  pub edges : EdgesKeepStateForms
  pub decided : MayGoIsDecided
  pub some : (image : Contents) (functions : List Function) (address : ℕ) → is_some (call_target image functions address) ≡ (is_entry functions address || is_some (module_stub image functions address))
  pub probe : (image : Contents) (functions : List Function) (address : ℕ) → (call_target image functions address ≡ Some target.Probe) ↔ (is_probe_stub image address ≡ true)
  pub stub : (image : Contents) (functions : List Function) (address : ℕ) (stub : Stub) → module_stub image functions address ≡ Some stub → (stub_at image address ≡ Some stub) × (is_destination functions stub.to ≡ true)
  pub only : ReadsOnly
  pub none : ReadsNone

-- ---- lists and options

some_is : {A : Type 0} {a b : A} → Some a ≡ Some b → a ≡ b
some_is e = cc

none_some : {A : Type 0} {x : A} → ◌≡◌ {A = Option A} None (Some x) → ⊥
none_some e = cc

mapped_from : {A B : Type 0} (f : A → B) (o : Option A) (y : B) → option_map f o ≡ Some y → (x : A) × (o ≡ Some x) × (f x ≡ y)
mapped_from f None y e = absurd (none_some e)
mapped_from f (Some x) y e = (x, refl, some_is e)

some_mapped : {A B : Type 0} (f : A → B) (o : Option A) → is_some o ≡ is_some (option_map f o)
some_mapped f None = refl
some_mapped f (Some x) = refl

by_recursion : {X Y : Type 0} (f : X → Y) (P : Y → Type 0) (xs : List X) → All P (map f xs) → AllByRecursion (λ x. P (f x)) xs
by_recursion f P [] h = tt
by_recursion f P (x ∷ xs) h = (h 0 (f x) (omega arith), by_recursion f P xs (λ k d l. h (suc k) d (omega (arith, l))))

left_all : {X : Type 0} (P : X → Type 0) (xs ys : List X) → AllByRecursion P (xs ++ ys) → AllByRecursion P xs
left_all P [] ys h = tt
left_all P (x ∷ xs) ys h = (h.0, left_all P xs ys h.1)

right_all : {X : Type 0} (P : X → Type 0) (xs ys : List X) → AllByRecursion P (xs ++ ys) → AllByRecursion P ys
right_all P [] ys h = h
right_all P (x ∷ xs) ys h = right_all P xs ys h.1

same_entry : (n : ℕ) → (n == n) ≡ true
same_entry n = grind (arith, nat_tests)

-- ---- targets

inside_by : (size n p : ℕ) (b : Bool) → nat_lt n size ≡ b → (if b then Some n else None) ≡ Some p → (n ≡ p) × (p < size)
inside_by size n p true less is = let same : n ≡ p = some_is is in (same, grind (arith, nat_tests, less, same))
inside_by size n p false less is = absurd (none_some is)

-- a target inside is the offset of a byte
inside_is : (size : ℕ) (to : ℤ) (p : ℕ) → inside size to ≡ Some p → (pos p ≡ to) × (p < size)
inside_is size (pos n) p is = let at = inside_by size n p (nat_lt n size) refl is in (ap pos (sym at.0), at.1)
inside_is size (negsuc n) p is = absurd (none_some is)

address_is : (to : ℤ) (a : ℕ) → address_in to ≡ Some a → pos a ≡ to
address_is (pos n) a is = by_test (nat_lt n (2 ^ 64)) is
  where
    by_test : (b : Bool) → (if b then Some n else None) ≡ Some a → pos a ≡ pos n
    by_test true e = ap pos (sym (some_is e))
    by_test false e = absurd (none_some e)
address_is (negsuc n) a is = absurd (none_some is)

-- ---- the table of a function

-- no other function begins where this one does
abbrev pub IsAlone : List Function → Function → Type 0
IsAlone functions f = (g : Function) → Contains functions g → g.entry ≡ f.entry → g ≡ f

table_for : (m : Declared) (functions : List Function) (tables : List FunctionTable) (f : Function) → IsAlone functions f → Contains functions f
    → TablesOf IsSafeTable m functions tables → IsSafeTable (context_of m f) (table_at tables f.entry)
table_for m [] tables f alone (k, within, is) safe = absurd (omega arith)
table_for m (g ∷ functions) [] f alone listed safe = absurd safe
table_for m (g ∷ functions) (t ∷ tables) f alone listed safe =
    by_test (t.entry == f.entry) refl (λ there. table_for m functions tables f (λ h among. alone h (suc among.0, omega (arith, among.1), among.2)) there safe.2)
  where
    later : Contains (g ∷ functions) f → (t.entry == f.entry) ≡ false → Contains functions f
    later (zero, within, is) e =
        let same : t.entry ≡ f.entry = safe.0 ∙ ap (λ (h : Function). h.entry) is in
        let test : (t.entry == f.entry) ≡ true = grind (arith, nat_tests) in
        absurd (false≢true (sym e ∙ test))
    later (suc k, within, is) e = (k, omega arith, is)

    by_test : (b : Bool) → (t.entry == f.entry) ≡ b → (Contains functions f → IsSafeTable (context_of m f) (option_map_or (λ t. t.states) (find (λ t. t.entry == f.entry) tables) []))
        → IsSafeTable (context_of m f) (option_map_or (λ t. t.states) (if b then Some t else find (λ t. t.entry == f.entry) tables) [])
    by_test true e rest =
        subst (λ (h : Function). IsSafeTable (context_of m h) t.states) (alone g (0, omega arith, refl) (sym safe.0 ∙ eqb-true t.entry f.entry e)) safe.1
    by_test false e rest = rest (later listed e)

-- ---- the tables of a module

module _ (laws : StateLaws) (m : Declared) (tables : Given) (whole : IsWhole m) (of_bytes : IsBytes m.image.bytes) (safe : AreSafeStates m tables) (alone : (f : Function) → Contains m.functions f → IsAlone m.functions f)
    (bytes : (f : Function) → Contains m.functions f → IsBytes (code_of (context_of m f))) (held : (f : Function) → Contains m.functions f → HoldsCode (view_of m) f (code_of (context_of m f)))
    (ends : (f : Function) → Contains m.functions f → f.entry + f.size ≤ 2 ^ 64) where
  abbrev abstracts : Tables
  abstracts = forms_of tables.functions

  -- ---- what a call enters

  function_at : (place : ℕ) → is_entry m.functions place ≡ true → (g : Function) × Contains m.functions g × (g.entry ≡ place)
  function_at place at =
      let found = any_passes (λ (g : Function). g.entry == place) m.functions at in
      (found.0, found.1, eqb-true found.0.entry place found.2)

  callee_is : (place : ℕ) (target : CallTarget) → call_target m.image m.functions place ≡ Some target → IsCalleeAt m (bounds_of m) abstracts place
  callee_is place target enters =
      let known : (is_entry m.functions place || is_some (module_stub m.image m.functions place)) ≡ true = sym (laws.some m.image m.functions place) ∙ ap is_some enters in
      ⊎_elim
      (λ (e : is_entry m.functions place ≡ true). inl (function_at place e))
      (λ (e : is_some (module_stub m.image m.functions place) ≡ true). inr (is_some_of (module_stub m.image m.functions place) e))
      (or_cases (is_entry m.functions place) (is_some (module_stub m.image m.functions place)) known)

  abbrev probed : Option Stub → Bool
  probed o = option_map_or (λ stub. is_probed m.image.imports stub.to) o false

  no_probe : (place : ℕ) → is_probe_stub m.image place ≡ false → IsProbeAt m (bounds_of m) abstracts place → ⊥
  unfolding is_probe_stub
  no_probe place none probe =
      let there = (laws.stub m.image m.functions place probe.stub probe.there).0 in
      let is : is_probed m.image.imports probe.stub.to ≡ true = ap (is_probed m.image.imports) probe.to_import ∙ probe.is_probe in
      false≢true (sym none ∙ (ap probed there ∙ is))

  probe_is : (place : ℕ) → is_probe_stub m.image place ≡ true → IsProbeAt m (bounds_of m) abstracts place
  unfolding is_probe_stub module_stub
  probe_is place is = by_stub (stub_at m.image place) refl is
    where
      kept : Option Stub → Option Stub
      kept o = option_and_then (λ stub. if is_destination m.functions stub.to then Some stub else None) o

      by_goal : (stub : Stub) (to : StubTo) → stub.to ≡ to → stub_at m.image place ≡ Some stub → is_probed m.image.imports to ≡ true → IsProbeAt m (bounds_of m) abstracts place
      by_goal stub (Import number) to there p = record {
        stub = stub;
        there = ap kept there ∙ ap (λ (g : StubTo). if is_destination m.functions g then Some stub else None) to;
        number = number;
        to_import = to;
        is_probe = p;
      }
      by_goal stub (Inside address) to there p = absurd (false≢true p)

      by_stub : (o : Option Stub) → stub_at m.image place ≡ o → probed o ≡ true → IsProbeAt m (bounds_of m) abstracts place
      by_stub None there p = absurd (false≢true p)
      by_stub (Some stub) there p = by_goal stub stub.to refl there p

  -- ---- one function

  module _ (f : Function) (listed : Contains m.functions f) where
    abbrev c : Context
    c = context_of m f

    abbrev table : List PointState
    table = table_at tables.functions f.entry

    safe_table : IsSafeTable c table
    safe_table = table_for m m.functions tables.functions f (alone f listed) listed safe

    has_sites : HasSites c
    has_sites = laws.sites m f whole of_bytes listed

    abbrev Arrives : Abstract → ℕ → Type 0
    Arrives st to = Lands m (bounds_of m) abstracts f st to

    -- the state with a form lands, and so does the form
    abbrev LandsAs : ℕ × Abstract → Type 0
    LandsAs edge = LandsIn c table (with_state edge)

    lands_at : (to : ℕ) (st : Abstract) → IsStateForm c.bounds st → LandsAs (to, st) → Arrives st to
    lands_at to st is l =
        let built = laws.built c.bounds st is in
        record {
          high = abstract_of l.cover;
          there = ap (option_map abstract_of) l.there;
          above = subst (λ (s : Abstract). IsBelow s (abstract_of l.cover)) built.1 ((laws.order (form.state_of st) l.cover built.0.state l.fits.state).0 l.is_below);
          form = laws.forms c.bounds l.cover l.fits;
        }

    enters : Arrives (abstract_of entry_state) 0
    enters =
        let l = safe_table.solution.begins in
        record {
          high = abstract_of l.cover;
          there = ap (option_map abstract_of) l.there;
          above = (laws.order entry_state l.cover (laws.entry c.bounds).state l.fits.state).0 l.is_below;
          form = laws.forms c.bounds l.cover l.fits;
        }

    -- ---- behind the other statements of an instruction

    module _ (next : ℕ) (st : Abstract) (is : IsStateForm c.bounds st) where
      finished : IsStateForm c.bounds (finish st)
      finished = laws.ends (site_at c next) st (has_sites next) is

      abbrev Goes : Flow → Type 0
      Goes k = Follows m (bounds_of m) abstracts f next st k

      jumps : (rel : ℤ) (o : Option ℕ) → inside c.size (relative_point next rel) ≡ o → (o ≡ None → ⊥) → AllByRecursion LandsAs (edge_to o (finish st)) → Goes (flow.Jump rel)
      jumps rel None e some l = absurd (some refl)
      jumps rel (Some to) e some l = (to, (inside_is c.size (relative_point next rel) to e).0, lands_at to (finish st) finished l.0)

      module _ (cond : Cond) (taken : Bool) where
        abbrev rule : Option (Width × Rule)
        rule = rule_at cond taken (finish st).fact

        abbrev carried : Abstract
        carried = edge_state (site_at c next) frame_places (finish st) rule

        taken_edge : (b : Bool) → b ≡ true → (to : ℕ) → AllByRecursion LandsAs (if b then edge_to (Some to) carried else []) → LandsAs (to, carried)
        taken_edge true e to l = l.0
        taken_edge false e to l = absurd (false≢true e)

        edge_lands : (to : ℕ) → AllByRecursion LandsAs (branch_edge c next (finish st) rule (Some to)) → EdgeLands m (bounds_of m) abstracts f next st frame_places rule to
        edge_lands to l may =
            let goes : may_go (site_at c next) frame_places (finish st) rule ≡ true = (laws.decided (site_at c next) c.bounds (finish st) rule finished).1 may in
            lands_at to carried (laws.edges (site_at c next) (finish st) frame_places cond taken (has_sites next) finished) (taken_edge (may_go (site_at c next) frame_places (finish st) rule) goes to l)

      branches : (cond : Cond) (rel : ℤ) (o : Option ℕ) → inside c.size (relative_point next rel) ≡ o → (o ≡ None → ⊥)
          → AllByRecursion LandsAs (branch_edge c next (finish st) (rule cond true) o ++ branch_edge c next (finish st) (rule cond false) (Some next)) → Goes (flow.Branch cond rel)
      branches cond rel None e some l = absurd (some refl)
      branches cond rel (Some to) e some l =
          let at = inside_is c.size (relative_point next rel) to e in
          let front = branch_edge c next (finish st) (rule cond true) (Some to) in
          let back = branch_edge c next (finish st) (rule cond false) (Some next) in
          (to, at.0, at.1, frame_places, edge_lands cond true to (left_all LandsAs front back l), edge_lands cond false next (right_all LandsAs front back l))

      -- what may be entered that is not the probe
      abbrev Ordinary : ℕ → Type 0
      Ordinary place = IsCalleeAt m (bounds_of m) abstracts place × HasHeapBase st

      ordinary : (place : ℕ) → is_probe_stub c.image place ≡ false → (o : Option CallTarget) → call_target c.image c.functions place ≡ o → MayEnter o st → Ordinary place
      ordinary place none None e may = absurd may
      ordinary place none (Some target.Probe) e may = absurd (false≢true (sym none ∙ (laws.probe c.image c.functions place).0 e))
      ordinary place none (Some (target.Function number)) e may = (callee_is place (target.Function number) e, may)
      ordinary place none (Some (target.Stub stub)) e may = (callee_is place (target.Stub stub) e, may)

      calls : (rel : ℤ) → MayPush st → MayEnter (called_target c next rel) st → LandsAs (next, after_direct c next rel st) → Goes (flow.Call rel)
      calls rel push may l = by_address (called_address c next rel) refl may
        where
          by_probe : (place : ℕ) → called_address c next rel ≡ Some place → MayEnter (call_target c.image c.functions place) st → (b : Bool) → is_probe_stub c.image place ≡ b → Calls m (bounds_of m) abstracts f next st place
          by_probe place named may true e =
              let probes : calls_probe c next rel ≡ true = ap (λ (o : Option ℕ). option_map_or (is_probe_stub c.image) o false) named ∙ e in
              let after : LandsAs (next, after_probe st) = subst (λ (b : Bool). LandsAs (next, if b then after_probe st else after_call st)) probes l in
              inr (probe_is place e, push, lands_at next (after_probe st) (laws.probes c.bounds st is) after)
          by_probe place named may false e =
              let probes : calls_probe c next rel ≡ false = ap (λ (o : Option ℕ). option_map_or (is_probe_stub c.image) o false) named ∙ e in
              let after : LandsAs (next, after_call st) = subst (λ (b : Bool). LandsAs (next, if b then after_probe st else after_call st)) probes l in
              let enters = ordinary place e (call_target c.image c.functions place) refl may in
              inl (enters.0, no_probe place e, enters.1, push, lands_at next (after_call st) (laws.calls c.bounds st is_kept is) after)

          by_address : (o : Option ℕ) → called_address c next rel ≡ o → MayEnter (option_and_then (call_target c.image c.functions) o) st → Goes (flow.Call rel)
          by_address None named may = absurd may
          by_address (Some place) named may = (place, address_is _ place named, by_probe place named may (is_probe_stub c.image place) refl)

      -- a jump through a table, each of whose entries has an edge
      jumps_by : (src : Var) → ((StaysInside c (jump_table (value_of st (index_of src))) → ⊥) → ⊥) → AllByRecursion LandsAs (carry (destinations c src st) (finish st)) → Goes (flow.JumpReg src)
      jumps_by src inside l =
          let known = stays c (jump_table (value_of st (index_of src))) inside in
          let table = known.0 in
          let points : AllByRecursion (λ to. LandsAs (to, finish st)) (targets_from c table 0 table.count) =
          each_edge LandsAs (targets_from c table 0 table.count) (finish st) (subst (λ (o : Option JumpTable). AllByRecursion LandsAs (carry (table_targets c o) (finish st))) known.1 l) in
          (table.base, table.count, told_by (value_of st (index_of src)) table known.1, λ i less. by_target table points i less (entry_target c table i) refl (known.2 i less))
        where
          by_target : (table : JumpTable) → AllByRecursion (λ to. LandsAs (to, finish st)) (targets_from c table 0 table.count) → (i : ℕ) → i < table.count
              → (o : Option ℕ) → entry_target c table i ≡ o → (entry_target c table i ≡ None → ⊥)
              → (x : ℕ) × (site_word c.image (table.base + 4 * i) 4 ≡ Plain x) × (to : ℕ) × ((table.base + sign_extended x 4) % 2 ^ 64 ≡ f.entry + to) × Arrives (finish st) to
          by_target table points i less None e some = absurd (some e)
          by_target table points i less (Some to) e some =
              let led = entry_leads c table i to has_sites (ends f listed) e in
              (led.x, led.at_site, to, led.sum, lands_at to (finish st) finished (each_target (λ to. LandsAs (to, finish st)) c table 0 table.count points i to less (ap (entry_target c table) (omega arith) ∙ e)))

      -- a call of the function of an entry whose tag is known
      calls_by : (src : Var) → MayPush st → MayEnterBy src st → LandsAs (next, after_call st) → Goes (flow.CallReg src)
      calls_by src push may l =
          let told = function_told (value_of st (index_of src)) may.0 in
          (told.0, told.1, told.2, may.1, push, lands_at next (after_call st) (laws.calls c.bounds st is_kept is) l)

      follows : (k : Flow) → FlowPasses c next st k → AllByRecursion LandsAs (flow_forms c (destinations c) next st k) → Goes k
      follows flow.Next p l = lands_at next (finish st) finished l.0
      follows (flow.Jump rel) p l = jumps rel (inside c.size (relative_point next rel)) refl p l
      follows (flow.Branch cond rel) p l = branches cond rel (inside c.size (relative_point next rel)) refl p l
      follows (flow.JumpReg src) p l = jumps_by src p l
      follows (flow.Call rel) p l = calls rel p.0 p.1 l.0
      follows (flow.CallReg src) p l = calls_by src p.0 p.1 l.0
      follows flow.Ret p l = p
      follows flow.Stop p l = tt

    -- ---- one point

    code_size : length (code_of c) ≡ f.size
    code_size = sym (held f listed).sized

    module _ (at : ℕ) (state : Parts) (there : state_of table at ≡ Some state) where
      begins_there : (edges : List (ℕ × Parts)) → PostBy c (destinations c) at state edges → (i : Insn) × (len : ℕ) × BeginsAt (code_of c) at i len
      begins_there edges (nothing none) = absurd (safe_table.passes at state there 1 (lacks_code none))
      begins_there edges (begins i len b) = (i, len, b)

      pub safe_at : IsSafeAt m (bounds_of m) abstracts f at (abstract_of state)
      safe_at =
          let found = begins_there (edges_by c (destinations c) at state) (laws.posts c (destinations c) at state (bytes f listed)) in
          let i = found.0 in
          let len = found.1 in
          let b = found.2 in
          record {
            i = i;
            len = len;
            stands = stands i len b;
            listed = laws.listed (take len (drop at (code_of c))) i b.spelled;
            word = spelled_word b.spelled;
            passes = λ is. (passing i len b).0;
            follows = λ is.
                follows (at + len) (form_behind c (at + len) i state) (behind i len b is) (flow_of i) (passing i len b).1
                (by_recursion with_state (LandsIn c table) (insn_forms c (destinations c) (at + len) state i) (safe_table.solution.closed at state there (insn_edges c (destinations c) (at + len) state i) (begins i len b)));
          }
        where
          stands : (i : Insn) (len : ℕ) → BeginsAt (code_of c) at i len → IsSpelled m (bounds_of m) abstracts f at i len
          stands i len b =
              let within = b.inside in
              let some = begins_some b in
              record {
                begins = omega (arith, within, some, code_size);
                inside = omega (arith, within, code_size);
                spelled = λ w. subst (λ (xs : List ℕ). Spells xs i) (sym (code_bytes (held f listed) w at len within)) b.spelled;
              }

          passing : (i : Insn) (len : ℕ) → BeginsAt (code_of c) at i len → PassesAll (site_at c (at + len)) (abstract_of state) (steps i) × FlowPasses c (at + len) (form_behind c (at + len) i state) (flow_of i)
          passing i len b = laws.checks c (at + len) state i (λ number fails. safe_table.passes at state there number (at_insn i len number b fails))

          behind : (i : Insn) (len : ℕ) → BeginsAt (code_of c) at i len → IsStateForm c.bounds (abstract_of state) → IsStateForm c.bounds (form_behind c (at + len) i state)
          behind i len b is =
              let fields = laws.displaced (code_of c) at i len (bytes f listed) b in
              laws.lists (site_at c (at + len)) (abstract_of state) (steps i) (has_sites (at + len)) is fields.1 fields.0

    each : (at : ℕ) (st : Abstract) → abstracts f.entry at ≡ Some st → IsSafeAt m (bounds_of m) abstracts f at st
    each at st there =
        let known = mapped_from abstract_of (state_of table at) st there in
        subst (λ (s : Abstract). IsSafeAt m (bounds_of m) abstracts f at s) known.2 (safe_at at known.0 known.1)

    -- ---- the callee of a call

    no_world : World
    no_world = record { load = 0; heap = 0; globals = 0; stack_low = 0; stack_high = 0; host_return = 0; hosts = [] }

    -- the instruction that is spelled at a point is the one that is read there
    module _ (at : ℕ) (i : Insn) (len : ℕ) (spelled : IsSpelled m (bounds_of m) abstracts f at i len) where
      abbrev rest : List ℕ
      rest = drop at (code_of c)

      here : Spells (take len rest) i
      here =
          let within : at + len ≤ length (code_of c) = (let end = spelled.inside in omega (arith, end, code_size)) in
          subst (λ (xs : List ℕ). Spells xs i) (code_bytes (held f listed) no_world at len within) (spelled.spelled no_world)

      fits : len ≤ length rest
      fits = let end = spelled.inside in omega (arith, end, code_size, length-drop at (code_of c))

      read_there : (found : Found) × (read rest ≡ Some found) × (insn_found found ≡ i) × (length_found rest found ≡ len)
      read_there = by_read (read rest) refl
        where
          by_read : (o : Option Found) → read rest ≡ o → (found : Found) × (read rest ≡ Some found) × (insn_found found ≡ i) × (length_found rest found ≡ len)
          by_read None e = absurd ((laws.none rest (IsBytes-drop at (code_of c) (bytes f listed))).0 e len i here)
          by_read (Some found) e = let is = laws.only rest found len i e fits here in (found, e, is.0, is.1)

    callee_is_told : (at : ℕ) (st : Abstract) (i : Insn) (len : ℕ) (src : Var) (t g : ℕ) → abstracts f.entry at ≡ Some st → IsSpelled m (bounds_of m) abstracts f at i len → flow_of i ≡ flow.CallReg src
        → value_of (applies (site_at c (at + len)) (steps i) st) (index_of src) ≡ value.TableFn t g → (map_of m tables).callee f.entry at ≡ Some (t, g)
    callee_is_told at st i len src t g there spelled calls named =
        let known = mapped_from abstract_of (state_of table at) st there in
        let state = known.0 in
        let found = read_there at i len spelled in
        let of_entry = found_of (λ (h : Function). h.entry == f.entry) m.functions f listed (same_entry f.entry) in
        let same : of_entry.0 ≡ f = alone f listed of_entry.0 of_entry.1 (eqb-true of_entry.0.entry f.entry of_entry.2) in
        let by_function = ap (λ (o : Option Function). option_and_then (λ h. callee_in (context_of m h) table at) o) (of_entry.3 ∙ ap Some same) in
        let by_state = ap (λ (o : Option Parts). option_and_then (λ s. callee_read c at s (read (drop at (code_of c)))) o) known.1 in
        let by_found = ap (callee_read c at state) found.1 in
        let by_insn =
        ap (λ (j : Insn). callee_of (flow_of j) (form_behind c (at + length_found (drop at (code_of c)) found.0) j state)) found.2
        ∙ ap (λ n. callee_of (flow_of i) (form_behind c (at + n) i state)) found.3 in
        let by_form = ap (λ (s : Abstract). callee_of (flow_of i) (applies (site_at c (at + len)) (steps i) s)) known.2 in
        let by_flow = ap (λ k. callee_of k (applies (site_at c (at + len)) (steps i) st)) calls in
        by_function ∙ by_state ∙ by_found ∙ by_insn ∙ by_form ∙ by_flow ∙ ap entry_of named

  pub abstracts_are_safe : AreSafe m (bounds_of m) abstracts
  abstracts_are_safe = record {
    bounded = λ f listed. (laws.sites m f whole of_bytes listed 0).bounds;
    entered = enters;
    each = λ f at st listed there. each f listed at st there;
  }

  pub map_is : IsMapOf m (bounds_of m) abstracts (map_of m tables)
  map_is = record {
    points = λ f at listed. some_mapped abstract_of (state_of (table_at tables.functions f.entry) at);
    callees = λ f at st i len src t g listed there spelled calls named. callee_is_told f listed at st i len src t g there spelled calls named;
  }
