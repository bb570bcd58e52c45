use Rattle.std.proofs.Common.{◌≡◌, ◌++◌, take}
use Rattle.std.specs.Prelude.{codes}
use Rattle.std.specs.List.{flat_map}
use Rattle.vw_report.specs.StateText.{class_text}
use Rattle.vw_report.proofs.print_states.push_classes.Given as goal

abbrev pub invariant-loop-class : goal.invariant-loop-class
invariant-loop-class l = l.text ≡ (l.initial.text ++ flat_map (λ class. codes " e" ++ class_text class) (take l.class-index l.classes))
