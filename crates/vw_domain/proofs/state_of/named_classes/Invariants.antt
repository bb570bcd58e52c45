use Rattle.std.proofs.Common.{take}
use Rattle.vw_domain.specs.PartRanges.{AreNames}
use Rattle.vw_domain.proofs.state_of.named_classes.Given as goal

abbrev pub invariant-loop-class : goal.invariant-loop-class
invariant-loop-class l = AreNames l.slots (take l.class-index l.classes) l.names
