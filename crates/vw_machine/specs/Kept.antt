-- The state that a machine stands for, and what stands at its rip, as the code has it.
use Rattle.std.specs.Prelude.{ℕ, ◌^◌, ◌&&◌, Bool, false, nat_lt, List, map, reverse, unwrap_or}
use Rattle.std.specs.BTreeMap.{BTreeMap, get}
use Rattle.std.specs.Ordering.{nat_cmp}
use Rattle.vw_effect.specs.Meaning.{registers_of, status_of}
use Rattle.vw_machine.specs.declared.machine.Frame.{Frame}
use Rattle.vw_machine.specs.declared.machine.Machine.{Machine}
use Rattle.vw_machine.specs.State.{Activation, MachineState}

-- a byte that is not kept is 0
abbrev pub byte_in : BTreeMap ℕ ℕ → ℕ → ℕ
byte_in kept q = unwrap_or (get nat_cmp kept q) 0

-- addresses are words of 64 bits, and a byte that is not kept is not written
abbrev pub is_marked : BTreeMap ℕ Bool → ℕ → Bool
is_marked kept q = nat_lt q (2 ^ 64) && unwrap_or (get nat_cmp kept q) false

abbrev pub activation_of : Frame → Activation
activation_of frame = record { entry = frame.entry; rsp0 = frame.rsp0; back = frame.back; written = is_marked frame.written }

-- the frame that was entered last is the last of the machine, and the first of the state
abbrev pub activations_of : List Frame → List Activation
activations_of frames = reverse (map activation_of frames)

abbrev pub state_of : Machine → MachineState
state_of machine = record {
  registers = registers_of machine.registers;
  rip = machine.rip;
  flags = status_of machine.flags;
  bytes = byte_in machine.bytes;
  active = activations_of machine.active.items;
}
