use Rattle.std.proofs.Common.{◌≡◌}
use Rattle.vw_domain.specs.Changes.{forget}
use Rattle.vw_domain.specs.Writes.{is_gone}
use Rattle.vw_domain.proofs.Updates.{updated}
use Rattle.vw_domain.proofs.forgets.forget_in_slots.Given as goal

abbrev pub invariant-loop-i : goal.invariant-loop-i
invariant-loop-i l = l.slots ≡ updated (λ key. forget (is_gone l.gone)) l.i l.initial.slots
