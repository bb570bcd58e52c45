use Rattle.std.proofs.Common.{ℕ, ◌<◌, ◌≡◌}
use Rattle.vw_values.specs.Values.{IsAmong}
use Rattle.vw_domain.specs.Registers.{register_at}
use Rattle.vw_domain.proofs.registers.is_row_same.Given as goal

abbrev pub invariant-loop-i : goal.invariant-loop-i
invariant-loop-i l = record {
  same : (r : ℕ) → r < l.i → register_at l.row r ≡ register_at l.other r;
  among : (r : ℕ) → r < l.i → IsAmong l.bounds (register_at l.other r).value;
}
