use Rattle.std.proofs.Common.{◌≡◌, ◌++◌, take}
use Rattle.std.specs.Prelude.{codes}
use Rattle.std.specs.List.{flat_map}
use Rattle.vw_report.specs.StateText.{slot_text}
use Rattle.vw_report.proofs.print_states.push_slots.Given as goal

abbrev pub invariant-loop-slot : goal.invariant-loop-slot
invariant-loop-slot l = l.text ≡ (l.initial.text ++ flat_map (λ slot. codes " s" ++ slot_text slot) (take l.slot-index l.slots))
