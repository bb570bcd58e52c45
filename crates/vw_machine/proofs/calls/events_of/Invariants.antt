use Rattle.std.proofs.Common.{◌≡◌, take}
use Rattle.vw_machine.specs.Found.{events_in}
use Rattle.vw_machine.proofs.calls.events_of.Given as goal

abbrev pub invariant-loop-slot : goal.invariant-loop-slot
invariant-loop-slot l = l.events ≡ events_in (take l.slot-index l.slot-items)
