use Rattle.std.proofs.Common.{◌≡◌, ℕ, length, take}
use Rattle.std.specs.Prelude.{◌||◌}
use Rattle.std.specs.List.{list_any}
use Rattle.vw_domain.specs.Refines.{is_told, slot_tells}
use Rattle.vw_domain.proofs.edge_tags.tell_slots.Given as goal

abbrev pub invariant-loop-i : goal.invariant-loop-i
invariant-loop-i l = record {
  sixteen : length l.tables ≡ 16;
  told : (r t : ℕ) → is_told l.tables r t ≡ (is_told l.initial.tables r t || list_any (slot_tells l.classes r t) (take l.i l.slots));
}
