use Rattle.std.proofs.Common.{◌≡◌, take, map}
use Rattle.vw_domain.specs.StateParts.{entry_of}
use Rattle.vw_domain.proofs.state_of.slots_from.Given as goal

abbrev pub invariant-loop-slot : goal.invariant-loop-slot
invariant-loop-slot l = l.entries ≡ take l.slot-index (map entry_of l.slots)
