use Rattle.std.proofs.lemmas.Result.{on_ok_weaker}
use Rattle.vw_report.specs.StateText.{state_text}
use Rattle.vw_report.proofs.Pieces.{pieces8}
use Rattle.vw_report.proofs.print_states.push_state.Goals as goal

pub returns : goal.returns
unfolding state_text
returns c =
    on_ok_weaker c.push_written.result (λ last.
    pieces8 c.args.text.now c.push.new.self c.dec.new.self c.push_offsets.new.text c.push_values.new.text c.push_slots.new.text c.push_classes.new.text c.push_fact.new.text c.push_written.new.text _ _ _ _ _ _ _ _
    c.in_ok-push.ensures.ok c.in_ok-dec.ensures.ok (rw c.as_slice.ensures at c.in_ok-push_offsets.ensures) (rw c.as_slice-2.ensures at c.in_ok-push_values.ensures) (rw c.as_slice-3.ensures at c.in_ok-push_slots.ensures) (rw c.as_slice-4.ensures at c.in_ok-push_classes.ensures) c.in_ok-push_fact.ensures last)
    (rw c.as_slice-5.ensures at c.push_written.ensures)
