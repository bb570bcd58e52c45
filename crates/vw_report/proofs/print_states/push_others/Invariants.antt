use Rattle.std.proofs.Common.{◌≡◌, ◌++◌, take}
use Rattle.std.specs.Prelude.{codes}
use Rattle.std.specs.List.{flat_map}
use Rattle.vw_report.specs.ValueText.{place_text}
use Rattle.vw_report.proofs.print_states.push_others.Given as goal

abbrev pub invariant-loop-place : goal.invariant-loop-place
invariant-loop-place l = l.text ≡ (l.initial.text ++ flat_map (λ place. codes "=" ++ place_text place) (take l.place-index l.places))
