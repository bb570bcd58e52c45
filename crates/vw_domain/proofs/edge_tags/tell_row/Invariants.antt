use Rattle.std.proofs.Common.{◌≡◌, ℕ, length}
use Rattle.std.specs.Prelude.{◌||◌}
use Rattle.vw_domain.specs.Refines.{any_below, is_told, row_tells}
use Rattle.vw_domain.proofs.edge_tags.tell_row.Given as goal

abbrev pub invariant-loop-i : goal.invariant-loop-i
invariant-loop-i l = record {
  sixteen : length l.tables ≡ 16;
  told : (r t : ℕ) → is_told l.tables r t ≡ (is_told l.initial.tables r t || any_below (row_tells l.classes l.row r t) l.i);
}
