-- What holds at each state of a run where assertions are kept: the chain of activations, and what is known at each place
-- where control may be.
use Rattle.std.proofs.Common.{◌≡◌, ◌≢◌, ℕ, ◌+◌, ◌≤◌, ◌<◌, ◌⊎◌, List, [], ◌∷◌, false}
use Rattle.std.specs.Prelude.{Contains, Some, true}
use Rattle.vw_bits.specs.Fields.{load}
use Rattle.vw_insn.specs.Words.{Registers, Flags, put}
use Rattle.vw_image.specs.declared.stub.Stub.{Stub}
use Rattle.vw_image.specs.declared.stub.StubTo.TheVariants.{Import}
use Rattle.vw_layout.specs.declared.functions.Function.{Function}
use Rattle.vw_machine.specs.declared.world.World.{World}
use Rattle.vw_machine.specs.Laws.{IsFramed}
use Rattle.vw_machine.specs.Module.{ModuleView}
use Rattle.vw_machine.specs.State.{Bytes, Activation, MachineState}
use Rattle.vw_machine.specs.Standing.{IsOf, IsHostAt, IsProbeAt}
use Rattle.vw_sandbox.specs.Maps.{Map}
use Rattle.vw_sandbox.specs.Assertions.{Moment, IsOfWords, SameFrom, SavesRegisters, IsEntered, IsRunning, IsBehind}

-- the state with this moment, at an address and with these activations
abbrev pub state_with : Moment → ℕ → List Activation → MachineState
state_with now rip active = record { registers = now.registers; rip = rip; flags = now.flags; bytes = now.bytes; active = active }

abbrev pub moment_of : MachineState → Moment
moment_of s = record { registers = s.registers; flags = s.flags; bytes = s.bytes }

module _ (m : ModuleView) (w : World) (map : Map) (At : Function → ℕ → Registers → Activation → Moment → Type 0) where
  -- the caller goes on at a point of its function, whatever the callee leaves but what it has to keep
  pub record Waits (bytes : Bytes) (callee caller : Activation) (of_callee of_caller : Registers) : Type 0 where
    pub function : Function
    pub of_caller_function : IsOf m w caller function
    pub framed : IsFramed w caller
    pub point : ℕ
    pub behind : IsBehind m w map At function point callee.back
    pub low : w.stack_low ≤ callee.rsp0
    pub below : callee.rsp0 + 8 ≤ caller.rsp0
    pub return : load bytes callee.rsp0 8 ≡ callee.back
    pub resumes :
        (later : Moment) → IsOfWords later → later.registers 4 ≡ callee.rsp0 + 8 → SavesRegisters of_callee later.registers
        → SameFrom (callee.rsp0 + 8) bytes later.bytes → At function point of_caller caller later

  -- the host called the first activation
  pub record IsFirst (bytes : Bytes) (entered : Registers) (first : Activation) : Type 0 where
    pub rsp : first.rsp0 ≡ entered 4
    pub back : first.back ≡ w.host_return
    pub return : load bytes first.rsp0 8 ≡ w.host_return

  -- Each activation but the top one waits for the one that it called. The second list has the registers with which each
  -- was entered.
  pub data Chain (bytes : Bytes) (entered : Registers) : List Activation → List Registers → Type 0 where
    host : {a : Activation} → IsFirst bytes entered a → Chain bytes entered (a ∷ []) (entered ∷ [])
    call : {callee caller : Activation} {rest : List Activation} {of_callee of_caller : Registers} {others : List Registers}
        → Waits bytes callee caller of_callee of_caller → Chain bytes entered (caller ∷ rest) (of_caller ∷ others)
        → Chain bytes entered (callee ∷ caller ∷ rest) (of_callee ∷ of_caller ∷ others)

  -- a stub stands at the address, and no declared function begins there
  pub record IsStubAlone (rip : ℕ) : Type 0 where
    pub place : ℕ
    pub at : rip ≡ w.load + place
    pub stub : Stub
    pub there : m.stub place ≡ Some stub
    pub no_function : (g : Function) → Contains m.functions g → rip ≢ w.load + g.entry

  -- and it goes not to the probe
  pub record IsPlainStub (rip : ℕ) : Type 0 where
    pub alone : IsStubAlone rip
    pub plain : (number : ℕ) → alone.stub.to ≡ Import number → m.is_probe number ≡ false

  -- and it goes to the probe
  pub record IsProbing (rip : ℕ) : Type 0 where
    pub alone : IsStubAlone rip
    pub number : ℕ
    pub to_import : alone.stub.to ≡ Import number
    pub is_probe : m.is_probe number ≡ true

  module _ (entered : Registers) where
    -- at a point of the top activation's function
    pub record Holds (now : Moment) (rip : ℕ) (top : Activation) (rest : List Activation) : Type 0 where
      pub of_top : Registers
      pub others : List Registers
      pub chain : Chain now.bytes entered (top ∷ rest) (of_top ∷ others)
      pub function : Function
      pub point : ℕ
      pub has_state : map.is_point function.entry point ≡ true
      pub at : rip ≡ w.load + function.entry + point
      pub running : IsRunning m w function top now
      pub holds : At function point of_top top now

    -- at a stub, or at a function of the host
    pub record Outside (now : Moment) (rip : ℕ) (top : Activation) (rest : List Activation) : Type 0 where
      pub others : List Registers
      pub chain : Chain now.bytes entered (top ∷ rest) (now.registers ∷ others)
      pub is_entered : IsEntered m w top now
      pub at_entry : rip ≡ top.entry
      pub place : IsPlainStub rip ⊎ IsHostAt m w rip

    -- at the probe's stub or its function: the caller goes on with its registers, once the stack reaches far enough
    pub record Probing (now : Moment) (rip : ℕ) (top caller : Activation) (rest : List Activation) : Type 0 where
      pub of_caller : Registers
      pub others : List Registers
      pub chain : Chain now.bytes entered (caller ∷ rest) (of_caller ∷ others)
      pub function : Function
      pub of_caller_function : IsOf m w caller function
      pub framed : IsFramed w caller
      pub point : ℕ
      pub behind : IsBehind m w map At function point top.back
      pub resumes :
          w.stack_low + now.registers 0 ≤ now.registers 4 + 8
          → (flags : Flags) (bytes : Bytes) → ((a : ℕ) → bytes a < 256) → SameFrom (now.registers 4 + 8) now.bytes bytes
          → At function point of_caller caller (record { registers = put now.registers 4 (now.registers 4 + 8); flags = flags; bytes = bytes })
      pub rsp : now.registers 4 ≡ top.rsp0
      pub below : top.rsp0 + 8 ≤ caller.rsp0
      pub words : IsOfWords now
      pub at_entry : rip ≡ top.entry
      pub place : IsProbing rip ⊎ IsProbeAt m w rip

    -- one of these
    pub data Doing (s : MachineState) : Type 0 where
      in_function : {top : Activation} {rest : List Activation} → s.active ≡ top ∷ rest → Holds (moment_of s) s.rip top rest → Doing s
      outside : {top : Activation} {rest : List Activation} → s.active ≡ top ∷ rest → Outside (moment_of s) s.rip top rest → Doing s
      probing : {top caller : Activation} {rest : List Activation} → s.active ≡ top ∷ caller ∷ rest → Probing (moment_of s) s.rip top caller rest → Doing s
