use Rattle.vw_domain.specs.StateParts.{AreOffsets}
use Rattle.vw_domain.proofs.state_parts.offsets_of.Given as goal

abbrev pub invariant-loop-i : goal.invariant-loop-i
invariant-loop-i l = AreOffsets l.i l.row l.offsets
