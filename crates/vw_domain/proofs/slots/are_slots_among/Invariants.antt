use Rattle.std.proofs.Common.{ℕ, ◌<◌, ◌≤◌, get_or}
use Rattle.std.specs.Prelude.{ℤ, length}
use Rattle.vw_values.specs.declared.value.Value.{Value}
use Rattle.vw_values.specs.Values.{IsAmong}
use Rattle.vw_domain.proofs.slots.are_slots_among.Given as goal

abbrev pub invariant-loop-i : goal.invariant-loop-i
invariant-loop-i l = record {
  within : l.i ≤ length l.slots;
  among : (d : ℤ × Value) (k : ℕ) → k < l.i → IsAmong l.bounds (get_or l.slots k d).1;
}
