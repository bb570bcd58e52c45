use Rattle.std.proofs.Common.{take}
use Rattle.vw_names.specs.Groups.{AreGroups}
use Rattle.vw_names.proofs.groups.groups.Given as goal

abbrev pub invariant-loop-entry : goal.invariant-loop-entry
invariant-loop-entry l = AreGroups (take l.entry-index l.entries) l.groups.items
