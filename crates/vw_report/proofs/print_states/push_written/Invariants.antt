use Rattle.std.proofs.Common.{◌≡◌, ◌++◌, take}
use Rattle.std.specs.Prelude.{codes}
use Rattle.std.specs.List.{flat_map}
use Rattle.vw_report.specs.StateText.{range_text}
use Rattle.vw_report.proofs.print_states.push_written.Given as goal

abbrev pub invariant-loop-range : goal.invariant-loop-range
invariant-loop-range l = l.text ≡ (l.initial.text ++ flat_map (λ range. codes " w" ++ range_text range) (take l.range-index l.ranges))
