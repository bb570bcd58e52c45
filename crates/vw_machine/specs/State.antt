-- The state of the machine, the stack's bytes, and what an activation has written (SDM volume 1, 3.4; psABI, "The Stack
-- Frame").
use Rattle.std.specs.Prelude.{ℕ, ◌+◌, ◌-◌, ◌/◌, ◌%◌, ◌^◌, ◌&&◌, ◌||◌, Bool, nat_lt, if◌then◌else◌, List, [], ◌∷◌}
use Rattle.vw_insn.specs.Words.{Registers, Flags}
use Rattle.vw_insn.specs.Effect.{Write}
use Rattle.vw_machine.specs.declared.world.World.{World}
use Rattle.vw_machine.specs.World.{is_within, stack_range}

-- bytes by address
abbrev pub Bytes : Type 0
Bytes = ℕ → ℕ

-- a function, a stub or a host's function that was entered and has not returned
pub record Activation : Type 0 where
  -- the address at which it was entered
  pub entry : ℕ
  -- rsp when it was entered
  pub rsp0 : ℕ
  -- its return address
  pub back : ℕ
  -- the bytes of its frame that it has written, by address
  pub written : ℕ → Bool

pub record MachineState : Type 0 where
  pub registers : Registers
  pub rip : ℕ
  pub flags : Flags
  -- the bytes of the stack
  pub bytes : Bytes
  -- the activations, the one entered last first
  pub active : List Activation

-- the byte at q is one of the stack
abbrev pub is_in_stack : World → ℕ → Bool
is_in_stack w q = is_within q 1 (stack_range w)

-- the byte at q is one of n bytes from a
abbrev pub is_one_of : ℕ → ℕ → ℕ → Bool
is_one_of a n q = is_within q 1 (record { from = a; to = a + n })

-- The stack's bytes after a number of n bytes was written at a, the least significant byte first: as far as these lie in
-- the stack.
abbrev pub store : World → Bytes → ℕ → ℕ → ℕ → Bytes
store w bytes a n v = λ q. if is_in_stack w q && is_one_of a n q then v / 256 ^ (q - a) % 256 else bytes q

-- the byte at q is one of the activation's frame: of the stack below where its return address lies
abbrev pub is_in_frame : World → Activation → ℕ → Bool
is_in_frame w top q = is_in_stack w q && nat_lt q top.rsp0

-- The activation after n bytes were written at a: those of its frame are added to what it has written. A write
-- elsewhere marks nothing, wherever the heap lies.
abbrev pub mark : World → Activation → ℕ → ℕ → Activation
mark w top a n = record top { written = λ q. (is_in_frame w top q && is_one_of a n q) || top.written q }

-- the activation after writes, one after another
abbrev pub after_writes : World → Activation → List Write → Activation
after_writes w top [] = top
after_writes w top (v ∷ more) = after_writes w (mark w top v.at v.size) more
