use Rattle.vw_domain.specs.StateParts.{AreValues}
use Rattle.vw_domain.proofs.state_parts.values_of.Given as goal

abbrev pub invariant-loop-i : goal.invariant-loop-i
invariant-loop-i l = AreValues l.i l.row l.values
