use Rattle.std.proofs.Common.{◌≡◌}
use Rattle.std.specs.Prelude.{◌==◌, ◌&&◌}
use Rattle.vw_names.specs.Division.{root}
use Rattle.vw_names.specs.Spot.{number}
use Rattle.vw_domain.specs.Refines.{any_below, is_told}
use Rattle.vw_domain.proofs.edge_tags.is_tagged.Given as goal

abbrev pub invariant-loop-i : goal.invariant-loop-i
invariant-loop-i l = l.any ≡ any_below (λ r. is_told l.tables r l.table && (root l.classes r == root l.classes (number l.place))) l.i
