use Rattle.vw_domain.proofs.PartChecks.{IsFront}
use Rattle.vw_domain.proofs.part_checks.row_of.Given as goal

abbrev pub invariant-loop-i : goal.invariant-loop-i
invariant-loop-i l = IsFront l.offsets l.values l.i l.row
