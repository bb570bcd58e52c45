-- A step of an instruction at a point where what is asserted is kept.
use Rattle.std.proofs.Common.{◌≡◌, ◌≢◌, ℕ, ◌+◌, ◌-◌, ◌⊎◌, inl, inr, ◌==◌, Bool, true, false, if◌then◌else◌, List, [], ◌∷◌, ◌++◌, Some, refl, sym, ap, ◌∙◌, subst, arith, lit<}
use Rattle.std.specs.Prelude.{Contains}
use Rattle.std.specs.List.{AllByRecursion}
use Rattle.std.proofs.lemmas.Bool.{false≢true}
use Rattle.std.proofs.lemmas.Bool.Decides.{nat_tests}
use Rattle.vw_insn.specs.declared.instruction.Insn.{Insn}
use Rattle.vw_insn.specs.Effect.{Access, Write as Written, After, Transfer, Next, To, Enter, Back, Stop, Way, Ordinary, Return, Direct, Indirect, way, reads}
use Rattle.vw_insn.specs.Words.{Registers}
use Rattle.vw_rows.specs.Spelling.{Spells}
use Rattle.vw_stmt.specs.Accesses.{places_of}
use Rattle.vw_image.specs.declared.stub.Stub.{Stub}
use Rattle.vw_image.specs.declared.stub.StubTo.TheVariants.{Import}
use Rattle.vw_layout.specs.declared.functions.Function.{Function}
use Rattle.vw_layout.specs.Tables.{is_empty_tag}
use Rattle.vw_machine.specs.declared.world.World.{World}
use Rattle.vw_machine.specs.declared.choice.Choice.{Choice}
use Rattle.vw_machine.specs.declared.event.Event.{Event}
use Rattle.vw_machine.specs.declared.event.Event.TheVariants.{Read, Write}
use Rattle.vw_machine.specs.Laws.{IsFramed}
use Rattle.vw_machine.specs.Module.{ModuleView, bytes_from}
use Rattle.vw_machine.specs.State.{Activation, MachineState, after_writes}
use Rattle.vw_machine.specs.Standing.{Here, Code, IsOf, IsSpelledAt, IsHostAt}
use Rattle.vw_machine.specs.Step.{Ending, Went, Returned, Trapped, arrive, after_insn, accesses, does_trap, entered as activation_at, go, step}
use Rattle.vw_machine.specs.Events.{events, read_events, write_events, transfer_events}
use Rattle.vw_machine.specs.Permitted.{Permitted, MayDo, MayWrite, StaysInside}
use Rattle.vw_sandbox.specs.Claims.{IsKept, IsProbeStub, InsnPassesHeap, StepPassesHeap, EachEvent}
use Rattle.vw_sandbox.specs.Sandboxed.{Onward}
use Rattle.vw_sandbox.specs.Maps.{Map, IsPointAt, InsnKeepsToMap, StepKeepsToMap}
use Rattle.vw_sandbox.specs.Assertions.{Moment, IsOfWords, SameFrom, SavesRegisters, IsEntered, after_at, moment_after, IsPushed, Lands, Resumes, ResumesProbed, IsBehind, CallsDirect, of_callee, of_probe, CallsIndirect, GoesBy, IsPointKept, AreKept}
use Rattle.vw_sandbox.proofs.Suspended.{state_with, Chain, host, call, IsPlainStub, Holds, Doing, in_function, outside, probing}
use Rattle.vw_sandbox.proofs.Chains.{writes_below, marked_entry, framed, chain_kept, chain_marking, back_at}
use Rattle.vw_sandbox.proofs.SetUp.{IsSetUp, IsCallable, contains_of_get, function_or_none, code_not_home, image_not_home, host_not_home}

-- ---- lists of events

all_append : (P : Event → Type 0) (xs ys : List Event) → AllByRecursion P xs → AllByRecursion P ys → AllByRecursion P (xs ++ ys)
all_append P [] ys h k = k
all_append P (x ∷ xs) ys h k = (h.0, all_append P xs ys h.1 k)

every_if : (P : Event → Type 0) (t : Bool) (es : List Event) → (t ≡ false → AllByRecursion P es) → AllByRecursion P (if t then [] else es)
every_if P true es p = tt
every_if P false es p = p refl

read_all : (P : Event → Type 0) (rs : List Access) → AllByRecursion (λ a. P (Read a.at a.size)) rs → AllByRecursion P (read_events rs)
read_all P [] h = tt
read_all P (r ∷ rs) h = (h.0, read_all P rs h.1)

write_all : (P : Event → Type 0) (ws : List Written) → AllByRecursion (λ v. P (Write v.at v.size)) ws → AllByRecursion P (write_events (places_of ws))
write_all P [] h = tt
write_all P (v ∷ ws) h = (h.0, write_all P ws h.1)

each_read : (P : Event → Type 0) → ((a n : ℕ) → P (Read a n)) → (rs : List Access) → AllByRecursion (λ a. P (Read a.at a.size)) rs
each_read P h [] = tt
each_read P h (r ∷ rs) = (h r.at r.size, each_read P h rs)

each_write : (P : Event → Type 0) → ((a n : ℕ) → P (Write a n)) → (ws : List Written) → AllByRecursion (λ v. P (Write v.at v.size)) ws
each_write P h [] = tt
each_write P h (v ∷ ws) = (h v.at v.size, each_write P h ws)

module _ (m : ModuleView) (w : World) (top : Activation) where
  may_write : (k : Way) (a n : ℕ) → MayWrite m w top a n → MayDo m w top k (Write a n)
  may_write Ordinary a n h = h
  may_write Return a n h = h
  may_write Direct a n h = h
  may_write Indirect a n h = h

  may_write_all : (k : Way) (ws : List Written) → AllByRecursion (λ v. MayWrite m w top v.at v.size) ws → AllByRecursion (λ v. MayDo m w top k (Write v.at v.size)) ws
  may_write_all k [] h = tt
  may_write_all k (v ∷ ws) h = (may_write k v.at v.size h.0, may_write_all k ws h.1)

  keep_read : (map : Map) (rip : ℕ) (k : Way) (a n : ℕ) → InsnKeepsToMap m w map top rip k (Read a n)
  keep_read map rip Ordinary a n = tt
  keep_read map rip Return a n = tt
  keep_read map rip Direct a n = tt
  keep_read map rip Indirect a n = tt

  keep_write : (map : Map) (rip : ℕ) (k : Way) (a n : ℕ) → InsnKeepsToMap m w map top rip k (Write a n)
  keep_write map rip Ordinary a n = tt
  keep_write map rip Return a n = tt
  keep_write map rip Direct a n = tt
  keep_write map rip Indirect a n = tt

  pass_read : (registers : Registers) (k : Way) (a n : ℕ) → InsnPassesHeap m w registers k (Read a n)
  pass_read registers Ordinary a n = tt
  pass_read registers Return a n = tt
  pass_read registers Direct a n = tt
  pass_read registers Indirect a n = tt

  pass_write : (registers : Registers) (k : Way) (a n : ℕ) → InsnPassesHeap m w registers k (Write a n)
  pass_write registers Ordinary a n = tt
  pass_write registers Return a n = tt
  pass_write registers Direct a n = tt
  pass_write registers Indirect a n = tt

not_equal : (a b : ℕ) → a ≢ b → (a == b) ≡ false
not_equal a b ne = grind (arith, nat_tests)

is_equal : (a b : ℕ) → a ≡ b → (a == b) ≡ true
is_equal a b e = grind (arith, nat_tests)

-- a step keeps to the sandbox, and where it goes on, `Rest` holds
pub record IsSafe (m : ModuleView) (w : World) (map : Map) (entered : Registers) (Rest : MachineState → Type 0) (s : MachineState) (here : Here) (choice : Choice) : Type 0 where
  pub permitted : EachEvent m w (Permitted m w s here) s here choice
  pub keeps_to_map : EachEvent m w (StepKeepsToMap m w map s.rip s.active here) s here choice
  pub passes_heap : EachEvent m w (StepPassesHeap m w s.registers here) s here choice
  pub onward : Onward entered Rest (step m w s here choice)

module _ (m : ModuleView) (w : World) (map : Map) (At : Function → ℕ → Registers → Activation → Moment → Type 0) (setup : IsSetUp m w) (kept : AreKept m w map At) (entered : Registers) where
  abbrev pub Ends : Ending → Type 0
  Ends e = Onward entered (Doing m w map At entered) e

  pub arrives : (s : MachineState) → s.rip ≢ w.host_return → Doing m w map At entered s → Ends (arrive w s)
  arrives s ne d = subst (λ t. Ends (if t then Returned s else Went s)) (sym (not_equal s.rip w.host_return ne)) d

  arrives_home : (s : MachineState) → s.rip ≡ w.host_return → IsKept entered s.registers → Ends (arrive w s)
  arrives_home s e d = subst (λ t. Ends (if t then Returned s else Went s)) (sym (is_equal s.rip w.host_return e)) d

  pub onward_if : (t : Bool) (e : Ending) → (t ≡ false → Ends e) → Ends (if t then Trapped else e)
  onward_if true e p = tt
  onward_if false e p = p refl

  -- ---- returns, of an instruction or a function of the host

  pub returns : {top : Activation} {rest : List Activation} {of_top : Registers} {others : List Registers} (now : Moment) (to : ℕ)
      → Chain m w map At now.bytes entered (top ∷ rest) (of_top ∷ others) → to ≡ top.back → now.registers 4 ≡ top.rsp0 + 8 → SavesRegisters of_top now.registers → IsOfWords now
      → Ends (arrive w (state_with now to rest))
  returns now to (host f) e rsp saved words =
      arrives_home (state_with now to []) (e ∙ f.back) (record { rsp = rsp ∙ ap (λ x. x + 8) f.rsp; saved = saved })
  returns now to (call {caller = caller} {rest = rest} {of_caller = of_caller} {others = others} waits chain) e rsp saved words =
      let at_to : to ≡ w.load + waits.function.entry + waits.point = e ∙ waits.behind.at in
      arrives (state_with now to (caller ∷ rest)) (code_not_home setup waits.function waits.point to waits.of_caller_function.0 waits.behind.inside at_to)
      (in_function refl (record {
        of_top = of_caller;
        others = others;
        chain = chain;
        function = waits.function;
        point = waits.point;
        has_state = waits.behind.has_state;
        at = at_to;
        running = record { of_top = waits.of_caller_function; framed = waits.framed; return = back_at m w map At entered now.bytes chain; words = words };
        holds = waits.resumes now words rsp saved (λ q l. refl);
      }))

  -- ---- a function, a stub or a function of the host is entered

  pub enters_function : (g : Function) → Contains m.functions g → (top : Activation) (rest : List Activation) (others : List Registers) (now : Moment) (to : ℕ)
      → to ≡ w.load + g.entry → top.entry ≡ to → IsEntered m w top now → Chain m w map At now.bytes entered (top ∷ rest) (now.registers ∷ others) → Ends (arrive w (state_with now to (top ∷ rest)))
  enters_function g listed top rest others now to to_is top_is begun chain =
      let of_top : IsOf m w top g = (listed, top_is ∙ to_is) in
      let first = (kept.keeps g listed 0 (kept.begins g listed)).begins in
      arrives (state_with now to (top ∷ rest)) (code_not_home setup g 0 to listed first (omega (arith, to_is)))
      (in_function refl (record {
        of_top = now.registers;
        others = others;
        chain = chain;
        function = g;
        point = 0;
        has_state = kept.begins g listed;
        at = omega (arith, to_is);
        running = record {
          of_top = of_top;
          framed = record { low = begun.low; high = begun.high; written = λ a is. absurd (false≢true (sym (ap (λ (f : ℕ → Bool). f a) begun.fresh) ∙ is)) };
          return = begun.return;
          words = begun.words;
        };
        holds = kept.enters g listed top now of_top begun;
      }))

  pub enters_outside : (top : Activation) (rest : List Activation) (others : List Registers) (now : Moment) (to : ℕ)
      → to ≢ w.host_return → top.entry ≡ to → IsEntered m w top now → Chain m w map At now.bytes entered (top ∷ rest) (now.registers ∷ others)
      → IsPlainStub m w map At to ⊎ IsHostAt m w to → Ends (arrive w (state_with now to (top ∷ rest)))
  enters_outside top rest others now to home top_is begun chain place =
      arrives (state_with now to (top ∷ rest)) home (outside refl (record { others = others; chain = chain; is_entered = begun; at_entry = sym top_is; place = place }))

  -- a stub stands elsewhere than the host's return address
  stub_not_home : (place : ℕ) (stub : Stub) (to : ℕ) → m.stub place ≡ Some stub → to ≡ w.load + place → to ≢ w.host_return
  stub_not_home place stub to there at same = image_not_home setup place 1 0 (setup.stub place stub there) (lit< tt) (omega (arith, at, same))

  -- what begins at a place that can be called
  pub enters_callable : (place : ℕ) (top : Activation) (rest : List Activation) (others : List Registers) (now : Moment) (to : ℕ)
      → to ≡ w.load + place → ¬ IsProbeStub m w to → ((f : Function) × Contains m.functions f × (f.entry ≡ place)) ⊎ ((stub : Stub) × (m.stub place ≡ Some stub))
      → top.entry ≡ to → IsEntered m w top now → Chain m w map At now.bytes entered (top ∷ rest) (now.registers ∷ others) → Ends (arrive w (state_with now to (top ∷ rest)))
  enters_callable place top rest others now to at plain (inl (g, listed, is)) top_is begun chain =
      enters_function g listed top rest others now to (at ∙ ap (λ p. w.load + p) (sym is)) top_is begun chain
  enters_callable place top rest others now to at plain (inr (stub, there)) top_is begun chain =
      by_function (function_or_none m.functions place)
    where
      not_probe : (number : ℕ) → stub.to ≡ Import number → (b : Bool) → m.is_probe number ≡ b → b ≡ false
      not_probe number goes true is = absurd (plain (record { place = place; at = at; stub = stub; there = there; number = number; to_import = goes; is_probe = is }))
      not_probe number goes false is = refl

      by_function : ((f : Function) × Contains m.functions f × (f.entry ≡ place)) ⊎ ((f : Function) → Contains m.functions f → f.entry ≢ place) → Ends (arrive w (state_with now to (top ∷ rest)))
      by_function (inl (g, listed, is)) = enters_function g listed top rest others now to (at ∙ ap (λ p. w.load + p) (sym is)) top_is begun chain
      by_function (inr none) =
          enters_outside top rest others now to (stub_not_home place stub to there at) top_is begun chain
          (inl (record {
            alone = record { place = place; at = at; stub = stub; there = there; no_function = λ g listed same. none g listed (omega (arith, at, same)) };
            plain = λ number goes. not_probe number goes (m.is_probe number) refl;
          }))

  -- ---- an instruction

  module _ (now : Moment) (rip : ℕ) (top : Activation) (rest : List Activation) (h : Holds m w map At entered now rip top rest) where
    abbrev f : Function
    f = h.function

    abbrev s : MachineState
    s = state_with now rip (top ∷ rest)

    pub here : IsPointKept m w map At f h.point
    here = kept.keeps f h.running.of_top.0 h.point h.has_state

    -- what stands there
    pub code_stands : IsSpelledAt m w top rip here.i here.len
    code_stands =
        let at = h.at in
        let first = here.begins in
        let last = here.inside in
        let offset : rip - w.load ≡ f.entry + h.point = omega arith in
        record {
          function = f;
          of_top = h.running.of_top;
          begins = (omega arith, omega arith);
          ends = (omega arith, omega arith);
          spelled = subst (λ (p : ℕ). Spells (bytes_from (m.byte w) p here.len) here.i) (sym offset) here.spelled;
        }

    module _ (choice : Choice) where
      abbrev i : Insn
      i = here.i

      abbrev len : ℕ
      len = here.len

      abbrev after : After
      after = after_insn m w s i len choice

      abbrev later : Moment
      later = moment_after m w now after

      abbrev caller : Activation
      caller = after_writes w top after.writes

      abbrev traps : Bool
      traps = does_trap w i (accesses (reads i (rip + len) now.registers) after.writes) choice

      -- the same with the address of the point
      record StepAt (at : ℕ) : Type 0 where
        reads_permitted : AllByRecursion (λ a. MayDo m w top (way i) (Read a.at a.size)) (reads i (at + len) now.registers)
        writes_permitted : AllByRecursion (λ v. MayWrite m w top v.at v.size) (after_at m w top now at i len choice).writes
        words : IsOfWords (moment_after m w now (after_at m w top now at i len choice))
        goes_on :
            does_trap w i (accesses (reads i (at + len) now.registers) (after_at m w top now at i len choice).writes) choice ≡ false
            → GoesBy m w map At f h.point (h.point + len) h.of_top top (after_writes w top (after_at m w top now at i len choice).writes)
            now (moment_after m w now (after_at m w top now at i len choice)) (at + len)
            (way i) (after_at m w top now at i len choice).transfer

      one : StepAt rip
      one =
          let k = here.each h.of_top top now h.running h.holds choice in
          subst StepAt (sym h.at) (record { reads_permitted = k.reads_permitted; writes_permitted = k.writes_permitted; words = k.words; goes_on = k.goes_on })

      same_above : SameFrom top.rsp0 now.bytes later.bytes
      same_above = writes_below m w setup.laid top now.bytes after.writes one.writes_permitted

      chain_after : Chain m w map At later.bytes entered (caller ∷ rest) (h.of_top ∷ h.others)
      chain_after = chain_marking m w map At entered later.bytes after.writes top (chain_kept m w map At entered now.bytes later.bytes same_above h.chain)

      caller_framed : IsFramed w caller
      caller_framed = framed w top after.writes h.running.framed

      caller_of : IsOf m w caller f
      caller_of = (h.running.of_top.0, marked_entry w top after.writes ∙ h.running.of_top.1)

      -- what is owed for a way and a transfer, where the step does not trap
      record Owed (k : Way) (t : Transfer) : Type 0 where
        may : AllByRecursion (MayDo m w top k) (transfer_events (rip + len) t)
        keeps : AllByRecursion (InsnKeepsToMap m w map top rip k) (transfer_events (rip + len) t)
        passes : AllByRecursion (InsnPassesHeap m w now.registers k) (transfer_events (rip + len) t)
        ends : Ends (go w s top rest after (rip + len) t)

      stays_inside : (to : ℕ) → Lands m w map At f h.of_top caller later to → StaysInside m w top to
      stays_inside to lands =
          let at = lands.at in
          let inside = lands.inside in
          (f, h.running.of_top, (omega arith, omega arith))

      at_point : (to : ℕ) → Lands m w map At f h.of_top caller later to → IsPointAt m w map top to
      at_point to lands = record { function = f; of_top = h.running.of_top; point = lands.point; has_state = lands.has_state; at = lands.at }

      goes_to : (to : ℕ) → Lands m w map At f h.of_top caller later to → Ends (arrive w (state_with later to (caller ∷ rest)))
      goes_to to lands =
          arrives (state_with later to (caller ∷ rest)) (code_not_home setup f lands.point to h.running.of_top.0 lands.inside lands.at)
          (in_function refl (record {
            of_top = h.of_top;
            others = h.others;
            chain = chain_after;
            function = f;
            point = lands.point;
            has_state = lands.has_state;
            at = lands.at;
            running = record { of_top = caller_of; framed = caller_framed; return = back_at m w map At entered later.bytes chain_after; words = one.words };
            holds = lands.holds;
          }))

      -- ---- calls

      abbrev next : ℕ
      next = rip + len

      abbrev callee : ℕ → Activation
      callee to = activation_at after next to

      callee_begun : (to : ℕ) → IsPushed m w caller later next → later.registers 7 ≡ w.heap → IsEntered m w (callee to) later
      callee_begun to pushed heap =
          let below = pushed.below in
          let high = caller_framed.high in
          record { rsp = refl; low = pushed.low; high = omega arith; fresh = refl; return = pushed.return; rdi = heap; words = one.words }

      chain_called : (to : ℕ) → IsPushed m w caller later next → IsBehind m w map At f (h.point + len) next → Resumes m w map At f (h.point + len) h.of_top caller later
          → Chain m w map At later.bytes entered (callee to ∷ caller ∷ rest) (later.registers ∷ h.of_top ∷ h.others)
      chain_called to pushed behind resumes =
          call
          (record {
            function = f;
            of_caller_function = caller_of;
            framed = caller_framed;
            point = h.point + len;
            behind = behind;
            low = pushed.low;
            below = pushed.below;
            return = pushed.return;
            resumes = resumes;
          })
          chain_after

      enters_probe : (to : ℕ) → IsPushed m w caller later next → IsBehind m w map At f (h.point + len) next → (probe : IsProbeStub m w to) → ((g : Function) → Contains m.functions g → to ≢ w.load + g.entry)
          → ResumesProbed m w map At f (h.point + len) h.of_top caller later → Ends (arrive w (state_with later to (callee to ∷ caller ∷ rest)))
      enters_probe to pushed behind probe none resumes =
          arrives (state_with later to (callee to ∷ caller ∷ rest)) (stub_not_home probe.place probe.stub to probe.there probe.at)
          (probing refl (record {
            of_caller = h.of_top;
            others = h.others;
            chain = chain_after;
            function = f;
            of_caller_function = caller_of;
            framed = caller_framed;
            point = h.point + len;
            behind = behind;
            resumes = resumes;
            rsp = refl;
            below = pushed.below;
            words = one.words;
            at_entry = refl;
            place = inl (record { alone = record { place = probe.place; at = probe.at; stub = probe.stub; there = probe.there; no_function = none }; number = probe.number; to_import = probe.to_import; is_probe = probe.is_probe });
          }))

      calls_direct : (to : ℕ) → IsPushed m w caller later next → IsBehind m w map At f (h.point + len) next → CallsDirect m w map At f (h.point + len) h.of_top caller now later to → Owed Direct (Enter to)
      calls_direct to pushed behind (of_callee (place, at, kind) plain before heap resumes) =
          record {
            may = ((place, at, kind), tt);
            keeps = (tt, tt);
            passes = (inl before, tt);
            ends = enters_callable place (callee to) (caller ∷ rest) (h.of_top ∷ h.others) later to at plain kind refl (callee_begun to pushed heap) (chain_called to pushed behind resumes);
          }
      calls_direct to pushed behind (of_probe probe none resumes) =
          record {
            may = ((probe.place, probe.at, inr (probe.stub, probe.there)), tt);
            keeps = (tt, tt);
            passes = (inr probe, tt);
            ends = enters_probe to pushed behind probe none resumes;
          }

      calls_indirect : (to : ℕ) → IsPushed m w caller later next → IsBehind m w map At f (h.point + len) next → CallsIndirect m w map At f h.point (h.point + len) h.of_top caller now later to → Owed Indirect (Enter to)
      calls_indirect to pushed behind calls =
          let typed = calls.typed in
          let listed = contains_of_get m.tables typed.number typed.table typed.declared in
          let not_empty : is_empty_tag typed.entry.tag ≡ false = ap is_empty_tag typed.tagged ∙ calls.not_empty in
          record {
            may = (record { table = typed.table; declared = listed; entry = typed.entry; of_table = typed.of_table; not_empty = not_empty; pointer = typed.pointer }, tt);
            keeps = (record { function = f; of_top = h.running.of_top; point = h.point; at = h.at; typed = typed }, tt);
            passes = (inl calls.heap_before, tt);
            ends = by_kind (setup.pointer typed.table typed.entry to listed typed.of_table not_empty typed.pointer);
          }
        where
          by_kind : IsHostAt m w to ⊎ IsCallable m w to → Ends (arrive w (state_with later to (callee to ∷ caller ∷ rest)))
          by_kind (inl there) =
              enters_outside (callee to) (caller ∷ rest) (h.of_top ∷ h.others) later to (host_not_home setup there.0 to there.1) refl (callee_begun to pushed calls.heap) (chain_called to pushed behind calls.resumes) (inr there)
          by_kind (inr (place, at, plain, kind)) =
              enters_callable place (callee to) (caller ∷ rest) (h.of_top ∷ h.others) later to at plain kind refl (callee_begun to pushed calls.heap) (chain_called to pushed behind calls.resumes)

      -- ---- each way and transfer

      by_way : (k : Way) (t : Transfer) → GoesBy m w map At f h.point (h.point + len) h.of_top top caller now later next k t → Owed k t
      by_way Ordinary Next g = record { may = (stays_inside next g, tt); keeps = (at_point next g, tt); passes = (tt, tt); ends = goes_to next g }
      by_way Ordinary (To to) g = record { may = (stays_inside to g, tt); keeps = (at_point to g, tt); passes = (tt, tt); ends = goes_to to g }
      by_way Ordinary (Enter to) g = absurd g
      by_way Ordinary (Back to) g = absurd g
      by_way Ordinary Stop g = record { may = tt; keeps = tt; passes = tt; ends = tt }
      by_way Return Next g = absurd g
      by_way Return (To to) g = absurd g
      by_way Return (Enter to) g = absurd g
      by_way Return (Back to) g =
          record {
            may = (g.0, tt);
            keeps = (tt, tt);
            passes = (tt, tt);
            ends = returns later to (chain_kept m w map At entered now.bytes later.bytes same_above h.chain) g.0 g.1 g.2 one.words;
          }
      by_way Return Stop g = absurd g
      by_way Direct Next g = absurd g
      by_way Direct (To to) g = absurd g
      by_way Direct (Enter to) g = calls_direct to g.0 g.1 g.2
      by_way Direct (Back to) g = absurd g
      by_way Direct Stop g = absurd g
      by_way Indirect Next g = absurd g
      by_way Indirect (To to) g = absurd g
      by_way Indirect (Enter to) g = calls_indirect to g.0 g.1 g.2
      by_way Indirect (Back to) g = absurd g
      by_way Indirect Stop g = absurd g

      owed : traps ≡ false → Owed (way i) after.transfer
      owed free = by_way (way i) after.transfer (one.goes_on free)

      -- of accesses and transfer
      events_all : (P : Event → Type 0) → AllByRecursion P (read_events (reads i next now.registers)) → AllByRecursion P (write_events (places_of after.writes)) → (traps ≡ false → AllByRecursion P (transfer_events next after.transfer)) → AllByRecursion P (events m w s (Code i len) choice)
      events_all P a b c = all_append P _ _ (all_append P _ _ a b) (every_if P traps _ c)

      pub code_step : IsSafe m w map entered (Doing m w map At entered) s (Code i len) choice
      code_step =
          record {
            permitted = events_all (MayDo m w top (way i)) (read_all (MayDo m w top (way i)) _ one.reads_permitted) (write_all (MayDo m w top (way i)) _ (may_write_all m w top (way i) after.writes one.writes_permitted)) (λ free. (owed free).may);
            keeps_to_map = events_all (InsnKeepsToMap m w map top rip (way i)) (read_all _ _ (each_read (InsnKeepsToMap m w map top rip (way i)) (keep_read m w top map rip (way i)) _)) (write_all _ _ (each_write (InsnKeepsToMap m w map top rip (way i)) (keep_write m w top map rip (way i)) _)) (λ free. (owed free).keeps);
            passes_heap = events_all (InsnPassesHeap m w now.registers (way i)) (read_all _ _ (each_read (InsnPassesHeap m w now.registers (way i)) (pass_read m w top now.registers (way i)) _)) (write_all _ _ (each_write (InsnPassesHeap m w now.registers (way i)) (pass_write m w top now.registers (way i)) _)) (λ free. (owed free).passes);
            onward = onward_if traps _ (λ free. (owed free).ends);
          }
