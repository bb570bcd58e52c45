use Rattle.std.proofs.Common.{take}
use Rattle.vw_domain.specs.PartRanges.{AreNamesOf}
use Rattle.vw_domain.proofs.state_of.names_of.Given as goal

abbrev pub invariant-loop-place : goal.invariant-loop-place
invariant-loop-place l = AreNamesOf l.slots (take l.place-index l.class) l.names
