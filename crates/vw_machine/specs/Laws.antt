-- Words of the laws about what is permitted.
use Rattle.std.specs.Prelude.{◌≡◌, ℕ, ◌+◌, ◌≤◌, ◌<◌, true}
use Rattle.vw_machine.specs.declared.world.World.{World}
use Rattle.vw_machine.specs.State.{Activation}

-- The activation lies in the stack, below room for its return address and its caller's bytes, and it has
-- written bytes of its frame alone.
pub record IsFramed (w : World) (top : Activation) : Type 0 where
  pub low : w.stack_low ≤ top.rsp0
  pub high : top.rsp0 + 4104 ≤ w.stack_high
  pub written : (a : ℕ) → top.written a ≡ true → (w.stack_low ≤ a) × (a < top.rsp0)
