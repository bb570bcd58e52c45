-- Assertions at the points of functions, and when each step keeps them. This is the rule by which every run of a module is
-- shown to stay in its sandbox: what is asked speaks of one step of one function, and nothing of runs, of other functions
-- or of what is below on the stack.
use Rattle.std.specs.Prelude.{◌≡◌, ◌≢◌, ℕ, ◌+◌, ◌^◌, ◌<◌, ◌≤◌, true, false, [], ◌∷◌, Contains}
use Rattle.std.specs.List.{AllByRecursion}
use Rattle.vw_bits.specs.Fields.{load}
use Rattle.vw_insn.specs.declared.instruction.Insn.{Insn}
use Rattle.vw_insn.specs.Effect.{After, Way, Ordinary, Return, Direct, Indirect, way, Transfer, Next, To, Enter, Back, Stop, reads}
use Rattle.vw_insn.specs.Words.{Registers, Flags, put}
use Rattle.vw_lift.specs.Simulation.{stored}
use Rattle.vw_rows.specs.Spelling.{Spells}
use Rattle.vw_layout.specs.declared.functions.Function.{Function}
use Rattle.vw_layout.specs.Tables.{is_empty_tag}
use Rattle.vw_machine.specs.declared.world.World.{World}
use Rattle.vw_machine.specs.declared.choice.Choice.{Choice}
use Rattle.vw_machine.specs.declared.event.Event.TheVariants.{Read}
use Rattle.vw_machine.specs.Laws.{IsFramed}
use Rattle.vw_machine.specs.Module.{ModuleView, bytes_from}
use Rattle.vw_machine.specs.State.{Bytes, Activation, MachineState, store, after_writes}
use Rattle.vw_machine.specs.Standing.{IsOf}
use Rattle.vw_machine.specs.Step.{is_saved, after_insn, accesses, does_trap}
use Rattle.vw_machine.specs.Permitted.{MayDo, MayWrite, IsCallee}
use Rattle.vw_sandbox.specs.Claims.{IsProbeStub}
use Rattle.vw_sandbox.specs.Maps.{Map, IsTypedFrom}

-- what a step may change beside rip and the activations
pub record Moment : Type 0 where
  pub registers : Registers
  pub flags : Flags
  -- the bytes of the stack
  pub bytes : Bytes

-- registers hold words of 64 bits, and the stack has bytes
pub record IsOfWords (now : Moment) : Type 0 where
  pub registers : (r : ℕ) → now.registers r < 2 ^ 64
  pub bytes : (a : ℕ) → now.bytes a < 256

-- the bytes from this address up are the same
abbrev pub SameFrom : ℕ → Bytes → Bytes → Type 0
SameFrom a old new = (q : ℕ) → a ≤ q → new q ≡ old q

-- rbx, rbp and r12 to r15 are as they were (psABI, "Registers": callee-saved)
abbrev pub SavesRegisters : Registers → Registers → Type 0
SavesRegisters old new = (r : ℕ) → is_saved r ≡ true → new r ≡ old r

module _ (m : ModuleView) (w : World) where
  -- The activation was just entered: rsp is at its return address, with room above, nothing of its frame is written, and
  -- rdi holds the heap's base.
  pub record IsEntered (top : Activation) (now : Moment) : Type 0 where
    pub rsp : now.registers 4 ≡ top.rsp0
    pub low : w.stack_low ≤ top.rsp0
    pub high : top.rsp0 + 4104 ≤ w.stack_high
    pub fresh : top.written ≡ λ q. false
    pub return : load now.bytes top.rsp0 8 ≡ top.back
    pub rdi : now.registers 7 ≡ w.heap
    pub words : IsOfWords now

  -- The activation is one of the function, lies in the stack with its return address in place, and registers and bytes
  -- are of their sizes: what holds at each point beside what is asserted there.
  pub record IsRunning (f : Function) (top : Activation) (now : Moment) : Type 0 where
    pub of_top : IsOf m w top f
    pub framed : IsFramed w top
    pub return : load now.bytes top.rsp0 8 ≡ top.back
    pub words : IsOfWords now

  -- the state at an address, in an activation
  abbrev pub state_at : Activation → Moment → ℕ → MachineState
  state_at top now rip = record { registers = now.registers; rip = rip; flags = now.flags; bytes = now.bytes; active = top ∷ [] }

  -- what an instruction of this length at an address does
  abbrev pub after_at : Activation → Moment → ℕ → Insn → ℕ → Choice → After
  after_at top now rip i len choice = after_insn m w (state_at top now rip) i len choice

  -- what it leaves
  abbrev pub moment_after : Moment → After → Moment
  moment_after now after = record { registers = after.registers; flags = after.flags; bytes = stored (store w) now.bytes after.writes }

  -- A call has pushed the address of the next instruction: it lies in the stack, below the caller's return address.
  pub record IsPushed (caller : Activation) (now : Moment) (next : ℕ) : Type 0 where
    pub low : w.stack_low ≤ now.registers 4
    pub below : now.registers 4 + 8 ≤ caller.rsp0
    pub return : load now.bytes (now.registers 4) 8 ≡ next

  -- the assertion at each point of each function: about the registers with which the activation was entered, the
  -- activation, and the moment
  module _ (map : Map) (At : Function → ℕ → Registers → Activation → Moment → Type 0) where
    -- control comes to a point of the function at which this holds
    pub record Lands (f : Function) (entered : Registers) (top : Activation) (now : Moment) (to : ℕ) : Type 0 where
      pub point : ℕ
      pub inside : point < f.size
      pub has_state : map.is_point f.entry point ≡ true
      pub at : to ≡ w.load + f.entry + point
      pub holds : At f point entered top now

    -- Whatever the callee leaves but rsp, the callee-saved registers and the stack above its return address, the caller
    -- may go on at the point behind the call.
    abbrev pub Resumes : Function → ℕ → Registers → Activation → Moment → Type 0
    Resumes f point entered caller now =
        (later : Moment) → IsOfWords later → later.registers 4 ≡ now.registers 4 + 8 → SavesRegisters now.registers later.registers
        → SameFrom (now.registers 4 + 8) now.bytes later.bytes → At f point entered caller later

    -- The same of the probe, which keeps all registers but rsp, and comes back only where as many bytes as rax says lie
    -- in the stack below rsp.
    abbrev pub ResumesProbed : Function → ℕ → Registers → Activation → Moment → Type 0
    ResumesProbed f point entered caller now =
        w.stack_low + now.registers 0 ≤ now.registers 4 + 8
        → (flags : Flags) (bytes : Bytes) → ((a : ℕ) → bytes a < 256) → SameFrom (now.registers 4 + 8) now.bytes bytes
        → At f point entered caller (record { registers = put now.registers 4 (now.registers 4 + 8); flags = flags; bytes = bytes })

    -- the point behind a call
    pub record IsBehind (f : Function) (point next : ℕ) : Type 0 where
      pub inside : point < f.size
      pub has_state : map.is_point f.entry point ≡ true
      pub at : next ≡ w.load + f.entry + point

    -- A call that names its target, before and after it pushed: of a declared function or a stub but that of the probe,
    -- with the heap's base in rdi; or of the probe's stub, where no declared function begins.
    pub data CallsDirect (f : Function) (point : ℕ) (entered : Registers) (caller : Activation) (before now : Moment) (to : ℕ) : Type 0 where
      of_callee : IsCallee m w to → ¬ IsProbeStub m w to → before.registers 7 ≡ w.heap → now.registers 7 ≡ w.heap → Resumes f point entered caller now
          → CallsDirect f point entered caller before now to
      of_probe : IsProbeStub m w to → ((g : Function) → Contains m.functions g → to ≢ w.load + g.entry) → ResumesProbed f point entered caller now
          → CallsDirect f point entered caller before now to

    -- a call through a register or memory at a point, of an entry of a table that is not empty
    pub record CallsIndirect (f : Function) (from point : ℕ) (entered : Registers) (caller : Activation) (before now : Moment) (to : ℕ) : Type 0 where
      pub typed : IsTypedFrom m w map f from to
      pub not_empty : is_empty_tag typed.tag ≡ false
      pub heap_before : before.registers 7 ≡ w.heap
      pub heap : now.registers 7 ≡ w.heap
      pub resumes : Resumes f point entered caller now

    -- An instruction at the first point goes on from this moment, where it does not trap: the next instruction is at the
    -- second point.
    module _ (f : Function) (from point : ℕ) (entered : Registers) (top caller : Activation) (before now : Moment) (next : ℕ) where
      -- by the way in which it transfers control; the activation before it wrote, and after
      abbrev pub GoesBy : Way → Transfer → Type 0
      GoesBy Ordinary Next = Lands f entered caller now next
      GoesBy Ordinary (To to) = Lands f entered caller now to
      GoesBy Ordinary (Enter to) = ⊥
      GoesBy Ordinary (Back to) = ⊥
      GoesBy Ordinary Stop = Unit {0}
      GoesBy Return Next = ⊥
      GoesBy Return (To to) = ⊥
      GoesBy Return (Enter to) = ⊥
      GoesBy Return (Back to) = (to ≡ top.back) × (now.registers 4 ≡ top.rsp0 + 8) × SavesRegisters entered now.registers
      GoesBy Return Stop = ⊥
      GoesBy Direct Next = ⊥
      GoesBy Direct (To to) = ⊥
      GoesBy Direct (Enter to) = IsPushed caller now next × IsBehind f point next × CallsDirect f point entered caller before now to
      GoesBy Direct (Back to) = ⊥
      GoesBy Direct Stop = ⊥
      GoesBy Indirect Next = ⊥
      GoesBy Indirect (To to) = ⊥
      GoesBy Indirect (Enter to) = IsPushed caller now next × IsBehind f point next × CallsIndirect f from point entered caller before now to
      GoesBy Indirect (Back to) = ⊥
      GoesBy Indirect Stop = ⊥

    -- The instruction at a point accesses only what it may, and goes on to a point at which what is asserted holds, or it
    -- returns or calls as it may.
    pub record IsStepKept (f : Function) (point : ℕ) (i : Insn) (len : ℕ) (entered : Registers) (top : Activation) (now : Moment) (choice : Choice) : Type 0 where
      pub reads_permitted :
          AllByRecursion (λ a. MayDo m w top (way i) (Read a.at a.size)) (reads i (w.load + f.entry + point + len) now.registers)
      pub writes_permitted :
          AllByRecursion (λ v. MayWrite m w top v.at v.size) (after_at top now (w.load + f.entry + point) i len choice).writes
      pub words : IsOfWords (moment_after now (after_at top now (w.load + f.entry + point) i len choice))
      pub goes_on :
          does_trap w i (accesses (reads i (w.load + f.entry + point + len) now.registers) (after_at top now (w.load + f.entry + point) i len choice).writes) choice ≡ false
          → GoesBy f point (point + len) entered top (after_writes w top (after_at top now (w.load + f.entry + point) i len choice).writes)
          now (moment_after now (after_at top now (w.load + f.entry + point) i len choice)) (w.load + f.entry + point + len)
          (way i) (after_at top now (w.load + f.entry + point) i len choice).transfer

    -- an instruction stands at a point of the function, and each of its steps keeps what is asserted
    pub record IsPointKept (f : Function) (point : ℕ) : Type 0 where
      pub i : Insn
      pub len : ℕ
      pub begins : point < f.size
      pub inside : point + len ≤ f.size
      pub spelled : Spells (bytes_from (m.byte w) (f.entry + point) len) i
      pub each :
          (entered : Registers) (top : Activation) (now : Moment) → IsRunning f top now → At f point entered top now
          → (choice : Choice) → IsStepKept f point i len entered top now choice

    -- What is asserted holds where a function is entered, and each step keeps it.
    pub record AreKept : Type 0 where
      pub begins : (f : Function) → Contains m.functions f → map.is_point f.entry 0 ≡ true
      pub enters :
          (f : Function) → Contains m.functions f → (top : Activation) (now : Moment) → IsOf m w top f → IsEntered top now
          → At f 0 now.registers top now
      pub keeps : (f : Function) → Contains m.functions f → (point : ℕ) → map.is_point f.entry point ≡ true → IsPointKept f point
