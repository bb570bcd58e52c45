use Rattle.std.proofs.Common.{ℕ, ◌<◌}
use Rattle.vw_values.specs.Values.{IsAmong}
use Rattle.vw_domain.specs.Registers.{register_below, register_at}
use Rattle.vw_domain.proofs.registers.does_row_land.Given as goal

abbrev pub invariant-loop-i : goal.invariant-loop-i
invariant-loop-i l = record {
  among : (r : ℕ) → r < l.i → IsAmong l.bounds (register_at l.high r).value;
  below : (r : ℕ) → r < l.i → register_below (register_at l.low r) (register_at l.high r);
}
