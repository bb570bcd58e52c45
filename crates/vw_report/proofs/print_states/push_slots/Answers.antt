use Rattle.std.proofs.Common.{◌++◌}
use Rattle.std.specs.Prelude.{codes}
use Rattle.std.specs.Prelude.{pos}
use Rattle.vw_values.specs.declared.value.Value.TheVariants.{Any}
use Rattle.vw_report.specs.StateText.{slot_text}
use Rattle.vw_report.proofs.Pieces.{each_piece, all_pieces}
use Rattle.vw_report.proofs.print_states.push_slots.Goals as goal

pub loop-slot-preserved : goal.loop-slot-preserved
loop-slot-preserved c =
    each_piece (λ slot. codes " s" ++ slot_text slot) c.args.text.now c.loop-slot.text c.push_slot.new.text c.args.slots.now c.loop-slot.slot-index (record { offset = pos 0; size = 0; value = Any }) c.loop-slot-test.true c.loop-slot.invariant c.in_ok-push_slot.ensures

pub returns : goal.returns
returns c = all_pieces (λ slot. codes " s" ++ slot_text slot) c.args.text.now c.loop-slot.text c.args.slots.now c.loop-slot.slot-index c.loop-slot-test.false c.loop-slot.invariant
