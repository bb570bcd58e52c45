-- The states in which the host enters a function.
use Rattle.std.specs.Prelude.{◌≡◌, ◌≢◌, ℕ, ◌+◌, ◌-◌, ◌/◌, ◌%◌, ◌^◌, ◌<◌, ◌≤◌, ◌⊎◌, false, [], ◌∷◌}
use Rattle.vw_bits.specs.Fields.{load}
use Rattle.vw_insn.specs.Words.{Registers}
use Rattle.vw_layout.specs.declared.functions.Function.{Function}
use Rattle.vw_machine.specs.declared.world.World.{World}
use Rattle.vw_machine.specs.State.{MachineState}

-- The state in which the host enters a function: rip is its entry, rdi the heap's base, rsp leaves
-- room below the stack's end, and the host's return address is on top. All else is free.
pub record IsInitial (w : World) (f : Function) (s : MachineState) : Type 0 where
  pub rip : s.rip ≡ w.load + f.entry
  pub rdi : s.registers 7 ≡ w.heap
  pub rsp_low : w.stack_low ≤ s.registers 4
  pub rsp_high : s.registers 4 + 4104 ≤ w.stack_high
  pub return : load s.bytes (s.registers 4) 8 ≡ w.host_return
  pub active : s.active ≡ record { entry = s.rip; rsp0 = s.registers 4; back = w.host_return; written = λ q. false } ∷ []
  pub words : (r : ℕ) → s.registers r < 2 ^ 64
  pub bytes : (a : ℕ) → s.bytes a < 256

-- Memory has the eight bytes of a word at an address, the least significant first, and 0 elsewhere.
pub record HoldsAlone (at word : ℕ) (bytes : ℕ → ℕ) : Type 0 where
  pub there : (q : ℕ) → at ≤ q → q < at + 8 → bytes q ≡ word / 256 ^ (q - at) % 256
  pub elsewhere : (q : ℕ) → (q < at) ⊎ (at + 8 ≤ q) → bytes q ≡ 0

-- rsp and rdi are these, and the other registers are 0
pub record IsAlone (rsp rdi : ℕ) (registers : Registers) : Type 0 where
  pub at_rsp : registers 4 ≡ rsp
  pub at_rdi : registers 7 ≡ rdi
  pub others : (r : ℕ) → r ≢ 4 → r ≢ 7 → registers r ≡ 0

-- the one of these with this rsp in which all that is free is 0
pub record IsCleared (w : World) (f : Function) (rsp : ℕ) (s : MachineState) : Type 0 where
  pub initial : IsInitial w f s
  pub registers : IsAlone rsp w.heap s.registers
  pub flags : s.flags ≡ record { carry = false; parity = false; is_zero = false; sign = false; overflow = false }
  pub bytes : HoldsAlone rsp w.host_return s.bytes
