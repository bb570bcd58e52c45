-- Steps of stubs, of functions of the host, and of the probe.
use Rattle.std.proofs.Common.{◌≡◌, ◌≢◌, ℕ, ◌+◌, ◌-◌, ◌%◌, ◌^◌, ◌<◌, ◌≤◌, ◌⊎◌, inl, inr, ◌==◌, ◌&&◌, Bool, true, false, if◌then◌else◌, List, [], ◌∷◌, length, Some, refl, sym, ap, ◌∙◌, subst, arith, lit<}
use Rattle.std.specs.Prelude.{Contains, nat_lt, slice_get, slice_index}
use Rattle.std.specs.List.{AllByRecursion}
use Rattle.std.proofs.lemmas.Bool.{false≢true, eqb-true}
use Rattle.std.proofs.lemmas.Bool.Decides.{nat_tests}
use Rattle.std.proofs.Math.Nat.{mod-lt, mod-eq_of_lt}
use Rattle.vw_insn.specs.Effect.{raised}
use Rattle.vw_insn.specs.Words.{Registers, put}
use Rattle.vw_image.specs.declared.stub.StubTo.TheVariants.{Import}
use Rattle.vw_layout.specs.declared.functions.Function.{Function}
use Rattle.vw_machine.specs.declared.world.World.{World}
use Rattle.vw_machine.specs.declared.choice.Choice.{Choice}
use Rattle.vw_machine.specs.declared.event.Event.{Event}
use Rattle.vw_machine.specs.Choices.{number_of, flags_in}
use Rattle.vw_machine.specs.Module.{ModuleView}
use Rattle.vw_machine.specs.State.{Bytes, Activation, MachineState, is_in_stack}
use Rattle.vw_machine.specs.Standing.{Here, Stub, Host, Probe, IsInside, IsHostAt, IsProbeAt, NoStubAt, StandsFor}
use Rattle.vw_machine.specs.Step.{is_saved, slot_word, host_number, host_registers, is_left, host_bytes, probe_traps, arrive}
use Rattle.vw_machine.specs.Permitted.{Permitted}
use Rattle.vw_sandbox.specs.Claims.{StepPassesHeap}
use Rattle.vw_sandbox.specs.Maps.{Map, StepKeepsToMap}
use Rattle.vw_sandbox.specs.Assertions.{Moment, SameFrom, IsEntered, AreKept}
use Rattle.vw_machine.proofs.Regions.{stack_ends}
use Rattle.vw_sandbox.proofs.Suspended.{state_with, Chain, IsStubAlone, IsPlainStub, IsProbing, Outside, Probing, Doing, in_function, probing}
use Rattle.vw_sandbox.proofs.Chains.{chain_kept, chain_entry, back_at}
use Rattle.vw_sandbox.proofs.SetUp.{IsSetUp, code_not_home, host_not_image, host_not_home}
use Rattle.vw_sandbox.proofs.Going.{IsSafe, Ends, arrives, onward_if, returns, enters_function, enters_outside}

every_if : (P : Event → Type 0) (t : Bool) (es : List Event) → AllByRecursion P es → AllByRecursion P (if t then [] else es)
every_if P true es p = tt
every_if P false es p = p

module _ (m : ModuleView) (w : World) (map : Map) (At : Function → ℕ → Registers → Activation → Moment → Type 0) (setup : IsSetUp m w) (kept : AreKept m w map At) (entered : Registers) where
  abbrev Safe : MachineState → Here → Choice → Type 0
  Safe s here choice = IsSafe m w map entered (Doing m w map At entered) s here choice

  -- ---- what stands at a stub, and at an address of the host

  no_function_at_stub : (top : Activation) (rip : ℕ) → rip ≡ top.entry → IsStubAlone m w map At rip → ¬ IsInside m w top rip
  no_function_at_stub top rip at alone code = alone.no_function code.function code.of_top.0 (at ∙ code.of_top.1)

  pub stub_stands : (top : Activation) (rip : ℕ) → rip ≡ top.entry → (alone : IsStubAlone m w map At rip) → StandsFor m w top rip (Stub alone.stub.slot)
  stub_stands top rip at alone =
      (no_function_at_stub top rip at alone, record { entered = at; place = alone.place; at = alone.at; stub = alone.stub; there = alone.there; has_slot = refl })

  no_function_at_host : (top : Activation) (rip number : ℕ) → slice_get w.hosts number ≡ Some rip → ¬ IsInside m w top rip
  no_function_at_host top rip number is code =
      let f = code.function in
      let low : w.load + f.entry ≤ rip = code.inside.0 in
      let high : rip < w.load + f.entry + f.size = code.inside.1 in
      host_not_image setup number rip f.entry f.size (rip - (w.load + f.entry)) is (setup.code f code.of_top.0) (omega arith) (omega arith)

  no_stub_at_host : (top : Activation) (rip number : ℕ) → slice_get w.hosts number ≡ Some rip → NoStubAt m w top rip
  no_stub_at_host top rip number is slot stub =
      let at = stub.at in
      host_not_image setup number rip stub.place 1 0 is (setup.stub stub.place stub.stub stub.there) (lit< tt) (omega arith)

  pub host_stands : (top : Activation) (rip : ℕ) → IsHostAt m w rip → StandsFor m w top rip Host
  host_stands top rip host = (no_function_at_host top rip host.0 host.1, no_stub_at_host top rip host.0 host.1, host)

  pub probe_stands : (top : Activation) (rip : ℕ) → IsProbeAt m w rip → StandsFor m w top rip Probe
  probe_stands top rip probe = (no_function_at_host top rip probe.0 probe.1, no_stub_at_host top rip probe.0 probe.1, probe)

  -- ---- a stub

  pub stub_step : (now : Moment) (rip : ℕ) (top : Activation) (rest : List Activation) (choice : Choice) (h : Outside m w map At entered now rip top rest) (plain : IsPlainStub m w map At rip)
      → Safe (state_with now rip (top ∷ rest)) (Stub plain.alone.stub.slot) choice
  stub_step now rip top rest choice h plain =
      record {
        permitted = (inl (refl, refl), (refl, tt));
        keeps_to_map = (tt, (tt, tt));
        passes_heap = (tt, (tt, tt));
        onward = by_slot (setup.slot plain.alone.place plain.alone.stub plain.alone.there);
      }
    where
      to : ℕ
      to = slot_word m w plain.alone.stub.slot

      begun : IsEntered m w (record top { entry = to }) now
      begun = record { rsp = h.is_entered.rsp; low = h.is_entered.low; high = h.is_entered.high; fresh = h.is_entered.fresh; return = h.is_entered.return; rdi = h.is_entered.rdi; words = h.is_entered.words }

      chain : Chain m w map At now.bytes entered (record top { entry = to } ∷ rest) (now.registers ∷ h.others)
      chain = chain_entry m w map At entered now.bytes to h.chain

      by_slot : ((number : ℕ) × (plain.alone.stub.to ≡ Import number) × (slice_get w.hosts number ≡ Some to)) ⊎ ((f : Function) × Contains m.functions f × (to ≡ w.load + f.entry) × ((number : ℕ) → plain.alone.stub.to ≢ Import number))
          → Ends m w map At setup kept entered (arrive w (state_with now to (record top { entry = to } ∷ rest)))
      by_slot (inl (number, goes, is)) =
          enters_outside m w map At setup kept entered (record top { entry = to }) rest h.others now to (host_not_home setup number to is) refl begun chain (inr (number, is, plain.plain number goes))
      by_slot (inr (f, listed, is, other)) = enters_function m w map At setup kept entered f listed (record top { entry = to }) rest h.others now to is refl begun chain

  -- ---- what a function of the host leaves of the stack

  above_rsp : (bytes : Bytes) (rsp : ℕ) (below : List ℕ) (q : ℕ) → rsp ≤ q → host_bytes w bytes rsp below q ≡ bytes q
  above_rsp bytes rsp below q l = by_place (nat_lt q rsp) (is_in_stack w q) (nat_lt (rsp - 1 - q) (length below)) refl
    where
      by_place : (b c d : Bool) → nat_lt q rsp ≡ b → (if (c && b) && d then slice_index below (rsp - 1 - q) % 256 else bytes q) ≡ bytes q
      by_place true c d e = absurd (let f : q < rsp = grind (arith, nat_tests) in omega arith)
      by_place false true d e = refl
      by_place false false d e = refl

  host_fits : (bytes : Bytes) (rsp : ℕ) (below : List ℕ) → ((q : ℕ) → bytes q < 256) → (q : ℕ) → host_bytes w bytes rsp below q < 256
  host_fits bytes rsp below small q = by_test (is_left w rsp (length below) q)
    where
      by_test : (b : Bool) → (if b then slice_index below (rsp - 1 - q) % 256 else bytes q) < 256
      by_test true = mod-lt _ (lit< tt)
      by_test false = small q

  number_fits : (choice : Choice) (k : ℕ) → number_of choice k < 2 ^ 64
  number_fits choice k = mod-lt _ (lit< tt)

  -- ---- a function of the host

  pub host_step : (now : Moment) (rip : ℕ) (top : Activation) (rest : List Activation) (choice : Choice) (h : Outside m w map At entered now rip top rest)
      → Safe (state_with now rip (top ∷ rest)) Host choice
  host_step now rip top rest choice h =
      record {
        permitted = (refl, tt);
        keeps_to_map = (tt, tt);
        passes_heap = (tt, tt);
        onward = returns m w map At setup kept entered later top.back (chain_kept m w map At entered now.bytes later.bytes same h.chain) refl raised_rsp (λ q s. saves q s (q == 4) refl)
            (record { registers = λ q. word q (q == 4) (is_saved q); bytes = host_fits now.bytes (now.registers 4) choice.below h.is_entered.words.bytes });
      }
    where
      later : Moment
      later = record { registers = host_registers now.registers choice; flags = flags_in choice.flags; bytes = host_bytes w now.bytes (now.registers 4) choice.below }

      same : SameFrom top.rsp0 now.bytes later.bytes
      same q l = above_rsp now.bytes (now.registers 4) choice.below q (omega (arith, h.is_entered.rsp))

      raised_rsp : raised (now.registers 4) ≡ top.rsp0 + 8
      raised_rsp = omega (arith, h.is_entered.rsp, h.is_entered.high, stack_ends setup.laid)

      saves : (q : ℕ) → is_saved q ≡ true → (b : Bool) → (q == 4) ≡ b → (if b then raised (now.registers 4) else (if is_saved q then now.registers q else number_of choice (host_number q))) ≡ now.registers q
      saves q s true e = absurd (false≢true (ap is_saved (sym (eqb-true q 4 e)) ∙ s))
      saves q s false e = ap (λ t. if t then now.registers q else number_of choice (host_number q)) s

      word : (q : ℕ) (b c : Bool) → (if b then raised (now.registers 4) else (if c then now.registers q else number_of choice (host_number q))) < 2 ^ 64
      word q true c = mod-lt _ (lit< tt)
      word q false true = h.is_entered.words.registers q
      word q false false = number_fits choice (host_number q)

  -- ---- the probe

  pub probe_stub_step : (now : Moment) (rip : ℕ) (top caller : Activation) (rest : List Activation) (choice : Choice) (h : Probing m w map At entered now rip top caller rest) (is : IsProbing m w map At rip)
      → Safe (state_with now rip (top ∷ caller ∷ rest)) (Stub is.alone.stub.slot) choice
  probe_stub_step now rip top caller rest choice h is =
      record {
        permitted = (inl (refl, refl), (refl, tt));
        keeps_to_map = (tt, (tt, tt));
        passes_heap = (tt, (tt, tt));
        onward = by_slot (setup.slot is.alone.place is.alone.stub is.alone.there);
      }
    where
      to : ℕ
      to = slot_word m w is.alone.stub.slot

      same_import : (number other : ℕ) → Import number ≡ Import other → number ≡ other
      same_import number other e = cc

      by_slot : ((number : ℕ) × (is.alone.stub.to ≡ Import number) × (slice_get w.hosts number ≡ Some to)) ⊎ ((f : Function) × Contains m.functions f × (to ≡ w.load + f.entry) × ((number : ℕ) → is.alone.stub.to ≢ Import number))
          → Ends m w map At setup kept entered (arrive w (state_with now to (record top { entry = to } ∷ caller ∷ rest)))
      by_slot (inl (number, goes, at)) =
          let one : number ≡ is.number = same_import number is.number (sym goes ∙ is.to_import) in
          arrives m w map At setup kept entered (state_with now to (record top { entry = to } ∷ caller ∷ rest)) (host_not_home setup number to at)
          (probing refl (record {
            of_caller = h.of_caller;
            others = h.others;
            chain = h.chain;
            function = h.function;
            of_caller_function = h.of_caller_function;
            framed = h.framed;
            point = h.point;
            behind = h.behind;
            resumes = h.resumes;
            rsp = h.rsp;
            below = h.below;
            words = h.words;
            at_entry = refl;
            place = inr (number, at, ap m.is_probe one ∙ is.is_probe);
          }))
      by_slot (inr (f, listed, at, other)) = absurd (other is.number is.to_import)

  pub probe_step : (now : Moment) (rip : ℕ) (top caller : Activation) (rest : List Activation) (choice : Choice) (h : Probing m w map At entered now rip top caller rest)
      → Safe (state_with now rip (top ∷ caller ∷ rest)) Probe choice
  probe_step now rip top caller rest choice h =
      let s = state_with now rip (top ∷ caller ∷ rest) in
      record {
        permitted = every_if (Permitted m w s Probe) (probe_traps w now.registers) _ (refl, tt);
        keeps_to_map = every_if (StepKeepsToMap m w map s.rip s.active Probe) (probe_traps w now.registers) _ (tt, tt);
        passes_heap = every_if (StepPassesHeap m w s.registers Probe) (probe_traps w now.registers) _ (tt, tt);
        onward = onward_if m w map At setup kept entered (probe_traps w now.registers) _ goes_on;
      }
    where
      new : Bytes
      new = host_bytes w now.bytes (now.registers 4) choice.below

      later : Moment
      later = record { registers = put now.registers 4 (raised (now.registers 4)); flags = flags_in choice.flags; bytes = new }

      fits : now.registers 4 + 8 < 2 ^ 64
      fits = omega (arith, h.rsp, h.below, h.framed.high, stack_ends setup.laid)

      rsp : now.registers 4 + 8 ≡ raised (now.registers 4)
      rsp = sym (mod-eq_of_lt fits)

      far_enough : probe_traps w now.registers ≡ false → w.stack_low + now.registers 0 ≤ now.registers 4 + 8
      far_enough free = let reached : w.stack_low + now.registers 0 ≤ raised (now.registers 4) = grind (arith, nat_tests, free) in omega (arith, rsp)

      word : (q : ℕ) (b : Bool) → (if b then raised (now.registers 4) else now.registers q) < 2 ^ 64
      word q true = mod-lt _ (lit< tt)
      word q false = h.words.registers q

      goes_on : probe_traps w now.registers ≡ false → Ends m w map At setup kept entered (arrive w (state_with later top.back (caller ∷ rest)))
      goes_on free =
          let small = h.behind.inside in
          let resumed = h.resumes (far_enough free) (flags_in choice.flags) new (host_fits now.bytes (now.registers 4) choice.below h.words.bytes) (λ q l. above_rsp now.bytes (now.registers 4) choice.below q (omega arith)) in
          let Holding : ℕ → Type 0 = λ x. At h.function h.point h.of_caller caller (record { registers = put now.registers 4 x; flags = flags_in choice.flags; bytes = new }) in
          let chain = chain_kept m w map At entered now.bytes new (λ q l. above_rsp now.bytes (now.registers 4) choice.below q (omega (arith, h.rsp, h.below))) h.chain in
          arrives m w map At setup kept entered (state_with later top.back (caller ∷ rest)) (code_not_home setup h.function h.point top.back h.of_caller_function.0 small h.behind.at)
          (in_function refl (record {
            of_top = h.of_caller;
            others = h.others;
            chain = chain;
            function = h.function;
            point = h.point;
            has_state = h.behind.has_state;
            at = h.behind.at;
            running = record { of_top = h.of_caller_function; framed = h.framed; return = back_at m w map At entered new chain; words = record { registers = λ q. word q (q == 4); bytes = host_fits now.bytes (now.registers 4) choice.below h.words.bytes } };
            holds = subst Holding rsp resumed;
          }))
