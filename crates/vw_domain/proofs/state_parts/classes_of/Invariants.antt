use Rattle.std.proofs.Common.{take}
use Rattle.vw_domain.specs.StateParts.{AreClassesOf}
use Rattle.vw_domain.proofs.state_parts.classes_of.Given as goal

abbrev pub invariant-loop-group : goal.invariant-loop-group
invariant-loop-group l = AreClassesOf (take l.group-index l.names) l.classes
