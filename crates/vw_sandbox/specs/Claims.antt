-- What is claimed of a state of a run: of each step from there.
use Rattle.std.specs.Prelude.{◌≡◌, ◌⊎◌, ℕ, ◌+◌, true, Some}
use Rattle.std.specs.List.{AllByRecursion}
use Rattle.vw_insn.specs.Effect.{Way, Ordinary, Return, Direct, Indirect, way}
use Rattle.vw_insn.specs.Words.{Registers}
use Rattle.vw_image.specs.declared.stub.Stub as image_stub
use Rattle.vw_image.specs.declared.stub.StubTo.TheVariants.{Import}
use Rattle.vw_machine.specs.declared.world.World.{World}
use Rattle.vw_machine.specs.declared.choice.Choice.{Choice}
use Rattle.vw_machine.specs.declared.event.Event.{Event}
use Rattle.vw_machine.specs.declared.event.Event.TheVariants.{Read, Write, Goto}
use Rattle.vw_machine.specs.Module.{ModuleView}
use Rattle.vw_machine.specs.State.{MachineState}
use Rattle.vw_machine.specs.Standing.{Here, Code, Stub, Host, Probe, Nowhere, StandsAt}
use Rattle.vw_machine.specs.Step.{is_saved, Ending, Went, Returned, Trapped, Stuck, step}
use Rattle.vw_machine.specs.Events.{events}
use Rattle.vw_machine.specs.Permitted.{Permitted}

-- rsp is 8 above what it was when the function was entered, and rbx, rbp and r12 to r15 are as they were
-- (psABI, "Registers": callee-saved)
pub record IsKept (entered registers : Registers) : Type 0 where
  pub rsp : registers 4 ≡ entered 4 + 8
  pub saved : (r : ℕ) → is_saved r ≡ true → registers r ≡ entered r

-- where a step returns to the host, it leaves the registers so
abbrev pub ReturnsKept : Registers → Ending → Type 0
ReturnsKept entered (Went s) = Unit {0}
ReturnsKept entered (Returned s) = IsKept entered s.registers
ReturnsKept entered Trapped = Unit {0}
ReturnsKept entered Stuck = ⊥

module _ (m : ModuleView) (w : World) where
  -- a stub of the import that probes the stack stands at the address
  pub record IsProbeStub (to : ℕ) : Type 0 where
    pub place : ℕ
    pub at : to ≡ w.load + place
    pub stub : image_stub.Stub
    pub there : m.stub place ≡ Some stub
    pub number : ℕ
    pub to_import : stub.to ≡ Import number
    pub is_probe : m.is_probe number ≡ true

  -- An event of an instruction that transfers control in this way: where it calls, rdi holds the heap's base before, or
  -- it calls a stub of the function that probes the stack.
  abbrev pub InsnPassesHeap : Registers → Way → Event → Type 0
  InsnPassesHeap registers Ordinary event = Unit {0}
  InsnPassesHeap registers Return event = Unit {0}
  InsnPassesHeap registers Direct (Read a n) = Unit {0}
  InsnPassesHeap registers Direct (Write a n) = Unit {0}
  InsnPassesHeap registers Direct (Goto to) = (registers 7 ≡ w.heap) ⊎ IsProbeStub to
  InsnPassesHeap registers Indirect (Read a n) = Unit {0}
  InsnPassesHeap registers Indirect (Write a n) = Unit {0}
  InsnPassesHeap registers Indirect (Goto to) = (registers 7 ≡ w.heap) ⊎ IsProbeStub to

  -- the same of an event of a step: stubs and functions of the host call nothing
  abbrev pub StepPassesHeap : Registers → Here → Event → Type 0
  StepPassesHeap registers (Code i len) event = InsnPassesHeap registers (way i) event
  StepPassesHeap registers (Stub slot) event = Unit {0}
  StepPassesHeap registers Host event = Unit {0}
  StepPassesHeap registers Probe event = Unit {0}
  StepPassesHeap registers Nowhere event = ⊥

  -- this holds of each event of a step
  abbrev pub EachEvent : (Event → Type 0) → MachineState → Here → Choice → Type 0
  EachEvent Holds s here choice = AllByRecursion Holds (events m w s here choice)

  -- this holds of each step from a state, of whatever stands at rip, under any choice
  abbrev pub EachStep : (Here → Choice → Type 0) → MachineState → Type 0
  EachStep Holds s = (here : Here) → StandsAt m w s.rip s.active here → (choice : Choice) → Holds here choice

  -- something is known to stand at rip, or nothing is: there is a step, or it is known that there is none
  abbrev pub HasStep : MachineState → Type 0
  HasStep s = (here : Here) × StandsAt m w s.rip s.active here

  -- each event of each step is permitted
  abbrev pub IsPermitted : MachineState → Type 0
  IsPermitted s = EachStep (λ here choice. EachEvent (Permitted m w s here) s here choice) s

  -- each call is made with the heap's base in rdi, but for calls of the function that probes the stack
  abbrev pub PassesHeap : MachineState → Type 0
  PassesHeap s = EachStep (λ here choice. EachEvent (StepPassesHeap s.registers here) s here choice) s

  -- each step that returns to the host leaves rsp and the callee-saved registers as a function should
  abbrev pub KeepsRegisters : Registers → MachineState → Type 0
  KeepsRegisters entered s = EachStep (λ here choice. ReturnsKept entered (step m w s here choice)) s
