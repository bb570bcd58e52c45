use Rattle.std.proofs.Common.{◌≡◌, ◌++◌, drop, map}
use Rattle.vw_report.specs.ValueText.{value_text}
use Rattle.vw_report.specs.StateText.{known_value, register_mark, registers, registers_text}
use Rattle.vw_report.proofs.print_states.push_values.Given as goal

abbrev pub invariant-loop-register : goal.invariant-loop-register
invariant-loop-register l =
    l.text ++ registers_text value_text (drop l.register (map (register_mark 118) registers)) (drop l.register (map known_value l.values))
    ≡ l.initial.text ++ registers_text value_text (map (register_mark 118) registers) (map known_value l.values)
