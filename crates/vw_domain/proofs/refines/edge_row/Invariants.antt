use Rattle.std.proofs.Common.{◌≡◌, ℕ, ◌<◌, ◌≤◌, true}
use Rattle.std.specs.Prelude.{◌↔◌}
use Rattle.vw_domain.specs.Registers.{register_at}
use Rattle.vw_domain.specs.Refines.{refinement, left_value, may_pass, with_value_by}
use Rattle.vw_domain.proofs.refines.edge_row.Given as goal

abbrev pub invariant-loop-i : goal.invariant-loop-i
invariant-loop-i l = record {
  front : (r : ℕ) → r < l.i → register_at l.row r ≡ with_value_by (left_value l.classes (refinement l.comparison l.bounds) l.tags) r (register_at l.initial.row r);
  rest : (r : ℕ) → l.i ≤ r → register_at l.row r ≡ register_at l.initial.row r;
  edge : (l.all ≡ true) ↔ ((r : ℕ) → r < l.i → may_pass l.classes (refinement l.comparison l.bounds) l.tags r (register_at l.initial.row r).value ≡ true);
}
