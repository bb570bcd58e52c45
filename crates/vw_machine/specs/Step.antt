-- One step of the machine under a choice.
use Rattle.std.specs.Prelude.{ℕ, zero, suc, ◌+◌, ◌-◌, ◌%◌, ◌^◌, ◌==◌, ◌&&◌, ◌||◌, Bool, true, false, nat_lt, if◌then◌else◌, List, [], ◌∷◌, ◌++◌, length, slice_index}
use Rattle.std.specs.List.{list_any}
use Rattle.vw_bits.specs.Fields.{load}
use Rattle.vw_insn.specs.declared.instruction.Insn.{Insn}
use Rattle.vw_insn.specs.Words.{Registers, put}
use Rattle.vw_insn.specs.Effect.{Access, Write, After, Transfer, Next, To, Enter, Back, Stop, may_trap, reads, effect, raised}
use Rattle.vw_lift.specs.Simulation.{first_loaded, stored}
use Rattle.vw_stmt.specs.Accesses.{places_of}
use Rattle.vw_machine.specs.declared.world.World.{World}
use Rattle.vw_machine.specs.declared.choice.Choice.{Choice}
use Rattle.vw_machine.specs.World.{is_within, touches, heap_range, stack_range, guard_range, loaded_range}
use Rattle.vw_machine.specs.Module.{ModuleView}
use Rattle.vw_machine.specs.State.{Bytes, Activation, MachineState, is_in_stack, store, after_writes}
use Rattle.vw_machine.specs.Choices.{number_of, flags_in, open_of}
use Rattle.vw_machine.specs.Standing.{Here, Code, Stub, Host, Probe, Nowhere}

module _ (m : ModuleView) (w : World) where
  -- each of n bytes from a is a byte of the image
  abbrev pub is_in_image : ℕ → ℕ → Bool
  is_in_image a zero = true
  is_in_image a (suc n) = list_any (λ part. is_within a 1 (loaded_range w part)) m.image && is_in_image (a + 1) n

  -- the number that n bytes of the image spell from address a up, the least significant first
  abbrev pub image_number : ℕ → ℕ → ℕ
  image_number a n = load (λ q. m.byte w (q - w.load)) a n

  -- The number that a load of n bytes from address a gives: of the eight bytes below the heap the globals' address, the
  -- stack's bytes, the image's bytes after relocation, and elsewhere what is chosen.
  abbrev pub loads : Choice → Bytes → ℕ → ℕ → ℕ
  loads choice bytes a n =
      if (a + 8 == w.heap) && (n == 8) then w.globals
      else (if is_within a n (stack_range w) then load bytes a n
      else (if is_in_image a n then image_number a n
      else number_of choice 0 % 256 ^ n))

  -- what an instruction of this length does from a state
  abbrev pub after_insn : MachineState → Insn → ℕ → Choice → After
  after_insn s i len choice =
      let next = s.rip + len in
      effect i next s.registers s.flags (first_loaded (loads choice) s.bytes (reads i next s.registers)) (open_of choice)

  -- the word in a stub's slot, after relocation
  abbrev pub slot_word : ℕ → ℕ
  slot_word slot = load (m.byte w) slot 8

-- the address of a stub's slot, modulo 2 ^ 64
abbrev pub slot_address : World → ℕ → ℕ
slot_address w slot = (w.load + slot) % 2 ^ 64

-- An instruction traps where one of its accesses touches the guard. Under the choice so does one that accesses the heap,
-- and one that may trap for a reason of its own.
abbrev pub does_trap : World → Insn → List Access → Choice → Bool
does_trap w i all choice =
    list_any (λ a. touches a.at a.size (guard_range w)) all
    || (choice.trap && (may_trap i || list_any (λ a. touches a.at a.size (heap_range w)) all))

-- all accesses of an instruction
abbrev pub accesses : List Access → List Write → List Access
accesses rs writes = rs ++ places_of writes

-- how a step ends
pub data Ending : Type 0 where
  Went : MachineState → Ending
  -- rip is the host's return address
  Returned : MachineState → Ending
  -- the state stays as it was
  Trapped : Ending
  -- no step is defined
  Stuck : Ending

abbrev pub arrive : World → MachineState → Ending
arrive w s = if s.rip == w.host_return then Returned s else Went s

-- the state that an instruction leaves, with these activations
abbrev pub left : World → MachineState → After → ℕ → List Activation → MachineState
left w s after rip active =
    record { registers = after.registers; rip = rip; flags = after.flags; bytes = stored (store w) s.bytes after.writes; active = active }

-- What a call of an address enters, where the next instruction is at `next`: rsp0 is rsp after the push, and nothing is
-- written yet.
abbrev pub entered : After → ℕ → ℕ → Activation
entered after next to = record { entry = to; rsp0 = after.registers 4; back = next; written = λ q. false }

-- An instruction goes on by its transfer. What it writes counts for the activation that makes it, also the return
-- address that a call pushes. A return ends the activation.
abbrev pub go : World → MachineState → Activation → List Activation → After → ℕ → Transfer → Ending
go w s top rest after next Next = arrive w (left w s after next (after_writes w top after.writes ∷ rest))
go w s top rest after next (To to) = arrive w (left w s after to (after_writes w top after.writes ∷ rest))
go w s top rest after next (Enter to) = arrive w (left w s after to (entered after next to ∷ after_writes w top after.writes ∷ rest))
go w s top rest after next (Back to) = arrive w (left w s after to rest)
go w s top rest after next Stop = Trapped

-- the registers that a function of the host keeps beside rsp: rbx, rbp and r12 to r15 (psABI, "Registers")
abbrev pub is_saved : ℕ → Bool
is_saved r = (r == 3) || ((r == 5) || ((r == 12) || ((r == 13) || ((r == 14) || (r == 15)))))

-- where the choice has the number of a register that a function of the host leaves open: rax, rcx, rdx, rsi, rdi, r8 to
-- r11 are at 0 to 8
abbrev pub host_number : ℕ → ℕ
host_number r = if nat_lt r 3 then r else r - 3

-- the registers after a function of the host: its return pops the return address
abbrev pub host_registers : Registers → Choice → Registers
host_registers registers choice =
    λ q. if q == 4 then raised (registers 4) else (if is_saved q then registers q else number_of choice (host_number q))

-- the byte at q is one of the stack, and one of the `count` bytes below rsp
abbrev pub is_left : World → ℕ → ℕ → ℕ → Bool
is_left w rsp count q = (is_in_stack w q && nat_lt q rsp) && nat_lt (rsp - 1 - q) count

-- The stack's bytes after it: those at rsp and above stay, and those below are the choice's, downwards from rsp - 1, as
-- far as it has any. rsp is that before the step.
abbrev pub host_bytes : World → Bytes → ℕ → List ℕ → Bytes
host_bytes w bytes rsp below =
    λ q. if is_left w rsp (length below) q then slice_index below (rsp - 1 - q) % 256 else bytes q

-- the state after a function of the host that leaves these registers
abbrev pub host_leaves : World → MachineState → Activation → List Activation → Registers → Choice → MachineState
host_leaves w s top rest registers choice =
    record { registers = registers; rip = top.back; flags = flags_in choice.flags; bytes = host_bytes w s.bytes (s.registers 4) choice.below; active = rest }

-- The probe, with n in rax, comes back only where n bytes below rsp after its return lie in the stack; whole numbers are
-- compared.
abbrev pub probe_traps : World → Registers → Bool
probe_traps w registers = nat_lt (raised (registers 4)) (w.stack_low + registers 0)

module _ (m : ModuleView) (w : World) where
  -- A stub goes to the word in its slot, and its activation is then that of what stands there. The probe keeps all
  -- registers but rsp.
  abbrev pub step_from : MachineState → Activation → List Activation → Here → Choice → Ending
  step_from s top rest (Code i len) choice =
      let after = after_insn m w s i len choice in
      if does_trap w i (accesses (reads i (s.rip + len) s.registers) after.writes) choice then Trapped
      else go w s top rest after (s.rip + len) after.transfer
  step_from s top rest (Stub slot) choice =
      let to = slot_word m w slot in
      arrive w (record s { rip = to; active = record top { entry = to } ∷ rest })
  step_from s top rest Host choice = arrive w (host_leaves w s top rest (host_registers s.registers choice) choice)
  step_from s top rest Probe choice =
      if probe_traps w s.registers then Trapped
      else arrive w (host_leaves w s top rest (put s.registers 4 (raised (s.registers 4))) choice)
  step_from s top rest Nowhere choice = Stuck

  abbrev pub step_of : MachineState → List Activation → Here → Choice → Ending
  step_of s [] here choice = Stuck
  step_of s (top ∷ rest) here choice = step_from s top rest here choice

  -- one step, of what stands at rip
  abbrev pub step : MachineState → Here → Choice → Ending
  step s here choice = step_of s s.active here choice
