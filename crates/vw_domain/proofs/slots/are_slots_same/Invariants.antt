use Rattle.std.proofs.Common.{ℕ, ◌<◌, ◌≡◌, get_or}
use Rattle.std.specs.Prelude.{ℤ}
use Rattle.vw_values.specs.declared.value.Value.{Value}
use Rattle.vw_values.specs.Values.{IsAmong}
use Rattle.vw_domain.proofs.slots.are_slots_same.Given as goal

abbrev pub invariant-loop-i : goal.invariant-loop-i
invariant-loop-i l = record {
  same : (d : ℤ × Value) (k : ℕ) → k < l.i → get_or l.slots k d ≡ get_or l.other k d;
  among : (d : ℤ × Value) (k : ℕ) → k < l.i → IsAmong l.bounds (get_or l.other k d).1;
}
