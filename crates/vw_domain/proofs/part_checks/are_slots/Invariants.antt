use Rattle.std.proofs.Common.{drop}
use Rattle.vw_domain.proofs.PartChecks.{SlotsAbove, before_slots}
use Rattle.vw_domain.proofs.part_checks.are_slots.Given as goal

abbrev pub invariant-loop-slot : goal.invariant-loop-slot
invariant-loop-slot l = record {
  to : SlotsAbove l.last (drop l.slot-index l.slots) → SlotsAbove before_slots l.slots;
  from : SlotsAbove before_slots l.slots → SlotsAbove l.last (drop l.slot-index l.slots);
}
