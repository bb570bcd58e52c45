use Rattle.std.proofs.Common.{map, get_or, arith}
use Rattle.std.proofs.lemmas.List.{length-map}
use Rattle.vw_values.specs.declared.value.Value.TheVariants.{Any}
use Rattle.vw_report.specs.ValueText.{value_text}
use Rattle.vw_report.specs.StateText.{known_value}
use Rattle.vw_report.proofs.Marks.{registers_on, register_step, known_at}
use Rattle.vw_report.proofs.print_states.push_values.Goals as goal

pub loop-register-preserved : goal.loop-register-preserved
loop-register-preserved c =
    register_step _ c.loop-register.text c.push_register_value.new.text _ _ _ c.in_ok-push_register_value.ensures
    (registers_on value_text 118 c.loop-register.register (map known_value c.args.values.now) (known_value (get_or c.args.values.now c.loop-register.register Any)) (omega arith) (omega (arith, length-map c.args.values.now known_value)) (known_at c.args.values.now c.loop-register.register (omega arith))) c.loop-register.invariant
