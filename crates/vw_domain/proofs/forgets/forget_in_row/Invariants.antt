use Rattle.std.proofs.Common.{◌≡◌, ℕ, ◌<◌, ◌≤◌}
use Rattle.vw_domain.specs.Registers.{register_at}
use Rattle.vw_domain.specs.Writes.{forgotten_register}
use Rattle.vw_domain.proofs.forgets.forget_in_row.Given as goal

abbrev pub invariant-loop-i : goal.invariant-loop-i
invariant-loop-i l = record {
  front : (r : ℕ) → r < l.i → register_at l.row r ≡ forgotten_register l.gone (register_at l.initial.row r);
  rest : (r : ℕ) → l.i ≤ r → register_at l.row r ≡ register_at l.initial.row r;
}
