use Rattle.std.proofs.Common.{◌≡◌, ℕ, ◌≤◌}
use Rattle.vw_lattice.specs.Order.{TellsChange}
use Rattle.vw_domain.specs.Registers.{register_at, IsJoinedRow}
use Rattle.vw_domain.proofs.registers.join_rows.Given as goal

abbrev pub invariant-loop-i : goal.invariant-loop-i
invariant-loop-i l = record {
  joined : IsJoinedRow l.bounds l.i l.initial.row l.other l.row;
  rest : (r : ℕ) → l.i ≤ r → register_at l.row r ≡ register_at l.initial.row r;
  told : TellsChange l.changed l.initial.row l.row;
}
