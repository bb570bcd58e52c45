use Rattle.std.proofs.Common.{◌≡◌, ◌++◌, drop, map}
use Rattle.vw_report.specs.ValueText.{signed_text}
use Rattle.vw_report.specs.StateText.{register_mark, registers, registers_text}
use Rattle.vw_report.proofs.print_states.push_offsets.Given as goal

abbrev pub invariant-loop-register : goal.invariant-loop-register
invariant-loop-register l =
    l.text ++ registers_text signed_text (drop l.register (map (register_mark 111) registers)) (drop l.register l.offsets)
    ≡ l.initial.text ++ registers_text signed_text (map (register_mark 111) registers) l.offsets
