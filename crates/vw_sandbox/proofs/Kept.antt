-- Assertions that are kept keep every run in the sandbox.
use Rattle.std.proofs.Common.{◌≡◌, ℕ, ◌⊎◌, inl, inr, List, [], ◌∷◌, refl, sym, subst, arith, true, false}
use Rattle.std.specs.Prelude.{Contains}
use Rattle.vw_insn.specs.Words.{Registers}
use Rattle.vw_layout.specs.declared.functions.Function.{Function}
use Rattle.vw_machine.specs.declared.world.World.{World}
use Rattle.vw_machine.specs.declared.choice.Choice.{Choice}
use Rattle.vw_machine.specs.World.{IsLaidOut}
use Rattle.vw_machine.specs.Module.{ModuleView}
use Rattle.vw_machine.specs.State.{Activation, MachineState}
use Rattle.vw_machine.specs.Standing.{Here, Code, Stub, Host, Probe, StandsAt, IsHostAt, IsProbeAt}
use Rattle.vw_machine.specs.Step.{Went, step}
use Rattle.vw_machine.specs.Entered.{IsInitial}
use Rattle.vw_sandbox.specs.Runs.{Reaches, of_runs}
use Rattle.vw_sandbox.specs.Claims.{HasStep, IsPermitted, PassesHeap, KeepsRegisters}
use Rattle.vw_sandbox.specs.Sandboxed.{Onward}
use Rattle.vw_sandbox.specs.Maps.{Map, KeepsToMap, IsSandboxedBy}
use Rattle.vw_sandbox.specs.Assertions.{Moment, IsOfWords, AreKept}
use Rattle.vw_sandbox.proofs.Choices.{returns_of}
use Rattle.vw_sandbox.proofs.Suspended.{state_with, moment_of, host, IsPlainStub, IsProbing, Holds, Outside, Probing, Doing, in_function, outside, probing}
use Rattle.vw_sandbox.proofs.SetUp.{IsSetUp}
use Rattle.vw_sandbox.proofs.Going.{IsSafe, code_stands, code_step}
use Rattle.vw_sandbox.proofs.Hosts.{stub_stands, host_stands, probe_stands, stub_step, host_step, probe_stub_step, probe_step}

-- what is claimed of a state
pub record IsSafeState (m : ModuleView) (w : World) (map : Map) (entered : Registers) (s : MachineState) : Type 0 where
  pub steps : HasStep m w s
  pub permitted : IsPermitted m w s
  pub keeps_to_map : KeepsToMap m w map s
  pub passes_heap : PassesHeap m w s
  pub keeps_registers : KeepsRegisters m w entered s

module _ (m : ModuleView) (w : World) (map : Map) (At : Function → ℕ → Registers → Activation → Moment → Type 0) (setup : IsSetUp m w) (kept : AreKept m w map At) (entered : Registers) where
  -- what stands at rip, and that its steps are safe and keep the invariant
  abbrev Steps : MachineState → Type 0
  Steps s = (here : Here) × StandsAt m w s.rip s.active here × ((choice : Choice) → IsSafe m w map entered (Doing m w map At entered) s here choice)

  with_active : MachineState → List Activation → MachineState
  with_active s active = record { registers = s.registers; rip = s.rip; flags = s.flags; bytes = s.bytes; active = active }

  outside_steps : (s : MachineState) (top : Activation) (rest : List Activation) (h : Outside m w map At entered (moment_of s) s.rip top rest) → IsPlainStub m w map At s.rip ⊎ IsHostAt m w s.rip → Steps (state_with (moment_of s) s.rip (top ∷ rest))
  outside_steps s top rest h (inl plain) =
      (Stub plain.alone.stub.slot, stub_stands m w map At setup kept entered top s.rip h.at_entry plain.alone, λ choice. stub_step m w map At setup kept entered (moment_of s) s.rip top rest choice h plain)
  outside_steps s top rest h (inr is) =
      (Host, host_stands m w map At setup kept entered top s.rip is, λ choice. host_step m w map At setup kept entered (moment_of s) s.rip top rest choice h)

  probing_steps : (s : MachineState) (top caller : Activation) (rest : List Activation) (h : Probing m w map At entered (moment_of s) s.rip top caller rest) → IsProbing m w map At s.rip ⊎ IsProbeAt m w s.rip → Steps (state_with (moment_of s) s.rip (top ∷ caller ∷ rest))
  probing_steps s top caller rest h (inl is) =
      (Stub is.alone.stub.slot, stub_stands m w map At setup kept entered top s.rip h.at_entry is.alone, λ choice. probe_stub_step m w map At setup kept entered (moment_of s) s.rip top caller rest choice h is)
  probing_steps s top caller rest h (inr is) =
      (Probe, probe_stands m w map At setup kept entered top s.rip is, λ choice. probe_step m w map At setup kept entered (moment_of s) s.rip top caller rest choice h)

  function_steps : (s : MachineState) (top : Activation) (rest : List Activation) (h : Holds m w map At entered (moment_of s) s.rip top rest) → Steps (state_with (moment_of s) s.rip (top ∷ rest))
  function_steps s top rest h = (Code _ _, code_stands m w map At setup kept entered (moment_of s) s.rip top rest h, λ choice. code_step m w map At setup kept entered (moment_of s) s.rip top rest h choice)

  steps_of : (s : MachineState) → Doing m w map At entered s → Steps s
  steps_of s (in_function {top = top} {rest = rest} active h) = subst (λ (active : List Activation). Steps (state_with (moment_of s) s.rip active)) (sym active) (function_steps s top rest h)
  steps_of s (outside {top = top} {rest = rest} active h) = subst (λ (active : List Activation). Steps (state_with (moment_of s) s.rip active)) (sym active) (outside_steps s top rest h h.place)
  steps_of s (probing {top = top} {caller = caller} {rest = rest} active h) = subst (λ (active : List Activation). Steps (state_with (moment_of s) s.rip active)) (sym active) (probing_steps s top caller rest h h.place)

  each_step : (s : MachineState) → Doing m w map At entered s → (here : Here) → StandsAt m w s.rip s.active here → (choice : Choice) → IsSafe m w map entered (Doing m w map At entered) s here choice
  each_step s doing here stands choice =
      let steps = steps_of s doing in
      subst (λ (h : Here). IsSafe m w map entered (Doing m w map At entered) s h choice) (setup.alone s.rip s.active steps.0 here steps.1 stands) (steps.2 choice)

  pub safe_state : (s : MachineState) → Doing m w map At entered s → IsSafeState m w map entered s
  safe_state s doing =
      let steps = steps_of s doing in
      record {
        steps = (steps.0, steps.1);
        permitted = λ here stands choice. (each_step s doing here stands choice).permitted;
        keeps_to_map = λ here stands choice. (each_step s doing here stands choice).keeps_to_map;
        passes_heap = λ here stands choice. (each_step s doing here stands choice).passes_heap;
        keeps_registers = λ here stands choice. returns_of entered (Doing m w map At entered) (step m w s here choice) (each_step s doing here stands choice).onward;
      }

  pub keeps_doing : (s next : MachineState) (here : Here) (choice : Choice) → Doing m w map At entered s → StandsAt m w s.rip s.active here → step m w s here choice ≡ Went next → Doing m w map At entered next
  keeps_doing s next here choice doing stands is = subst (Onward entered (Doing m w map At entered)) is (each_step s doing here stands choice).onward

-- the state in which the host enters a function
first_doing : (m : ModuleView) (w : World) (map : Map) (At : Function → ℕ → Registers → Activation → Moment → Type 0) → IsSetUp m w → AreKept m w map At
    → (f : Function) → Contains m.functions f → (first : MachineState) → IsInitial w f first → Doing m w map At first.registers first
first_doing m w map At setup kept f listed first initial =
    in_function initial.active
    (record {
      of_top = first.registers;
      others = [];
      chain = host (record { rsp = refl; back = refl; return = initial.return });
      function = f;
      point = 0;
      has_state = kept.begins f listed;
      at = omega (arith, initial.rip);
      running = record { of_top = (listed, initial.rip); framed = record { low = initial.rsp_low; high = initial.rsp_high; written = λ a is. absurd (let e : ◌≡◌ false true = is in cc) }; return = initial.return; words = words };
      holds = kept.enters f listed top (moment_of first) (listed, initial.rip) (record { rsp = refl; low = initial.rsp_low; high = initial.rsp_high; fresh = refl; return = initial.return; rdi = initial.rdi; words = words });
    })
  where
    top : Activation
    top = record { entry = first.rip; rsp0 = first.registers 4; back = w.host_return; written = λ q. false }

    words : IsOfWords (moment_of first)
    words = record { registers = initial.words; bytes = initial.bytes }

-- what is claimed of every state of every run
pub kept_runs : (m : ModuleView) (w : World) (map : Map) (At : Function → ℕ → Registers → Activation → Moment → Type 0) → IsSetUp m w → AreKept m w map At
    → (f : Function) → Contains m.functions f → (first : MachineState) → IsInitial w f first → (s : MachineState) → Reaches m w first s → IsSafeState m w map first.registers s
kept_runs m w map At setup kept f listed first initial s run =
    safe_state m w map At setup kept first.registers s
    (of_runs m w first (Doing m w map At first.registers) (first_doing m w map At setup kept f listed first initial) (keeps_doing m w map At setup kept first.registers) s run)

pub sandboxed_by : (m : ModuleView) (map : Map) (At : World → Function → ℕ → Registers → Activation → Moment → Type 0) → ((w : World) → IsLaidOut m.image m.imports w → IsSetUp m w) → ((w : World) → IsLaidOut m.image m.imports w → AreKept m w map (At w)) → IsSandboxedBy m map
sandboxed_by m map At setup kept =
    let safe : (w : World) → IsLaidOut m.image m.imports w → (f : Function) → Contains m.functions f → (first : MachineState) → IsInitial w f first → (s : MachineState) → Reaches m w first s → IsSafeState m w map first.registers s =
    λ w laid f listed first initial s run. kept_runs m w map (At w) (setup w laid) (kept w laid) f listed first initial s run in
    record {
      steps = λ w laid f listed first initial s run. (safe w laid f listed first initial s run).steps;
      permitted = λ w laid f listed first initial s run. (safe w laid f listed first initial s run).permitted;
      keeps_to_map = λ w laid f listed first initial s run. (safe w laid f listed first initial s run).keeps_to_map;
      passes_heap = λ w laid f listed first initial s run. (safe w laid f listed first initial s run).passes_heap;
      keeps_registers = λ w laid f listed first initial s run. (safe w laid f listed first initial s run).keeps_registers;
    }
