use Rattle.std.proofs.Common.{◌≡◌, ℕ, ◌<◌, true, get_or}
use Rattle.std.specs.Prelude.{ℤ, ◌↔◌}
use Rattle.vw_values.specs.declared.value.Value.{Value}
use Rattle.vw_domain.specs.Refines.{refinement, left_value, may_pass}
use Rattle.vw_domain.proofs.Updates.{updated}
use Rattle.vw_domain.proofs.RefineSteps.{slot_changed, slot_passes}
use Rattle.vw_domain.proofs.refines.edge_slots.Given as goal

abbrev pub invariant-loop-i : goal.invariant-loop-i
invariant-loop-i l = record {
  slots : l.slots ≡ updated (slot_changed (left_value l.classes (refinement l.comparison l.bounds) l.tags) (may_pass l.classes (refinement l.comparison l.bounds) l.tags)) l.i l.initial.slots;
  edge : (l.all ≡ true) ↔ ((d : ℤ × Value) (k : ℕ) → k < l.i → slot_passes (left_value l.classes (refinement l.comparison l.bounds) l.tags) (may_pass l.classes (refinement l.comparison l.bounds) l.tags) (get_or l.initial.slots k d) ≡ true);
}
