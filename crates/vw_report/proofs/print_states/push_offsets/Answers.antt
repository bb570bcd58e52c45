use Rattle.std.proofs.Common.{get_or, arith}
use Rattle.std.specs.Prelude.{None}
use Rattle.std.proofs.lemmas.List.{get_or_default}
use Rattle.vw_report.specs.ValueText.{signed_text}
use Rattle.vw_report.proofs.Marks.{registers_on, register_step}
use Rattle.vw_report.proofs.print_states.push_offsets.Goals as goal

pub loop-register-preserved : goal.loop-register-preserved
loop-register-preserved c =
    register_step _ c.loop-register.text c.push_offset.new.text _ _ _ c.in_ok-push_offset.ensures
    (registers_on signed_text 111 c.loop-register.register c.args.offsets.now (get_or c.args.offsets.now c.loop-register.register None) (omega arith) (omega arith) (get_or_default c.args.offsets.now c.loop-register.register _ None (omega arith))) c.loop-register.invariant
