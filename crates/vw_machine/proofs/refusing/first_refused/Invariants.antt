use Rattle.std.proofs.Common.{take}
use Rattle.vw_machine.specs.Module.{view_of}
use Rattle.vw_machine.specs.Kept.{state_of}
use Rattle.vw_machine.specs.Found.{here_of}
use Rattle.vw_machine.proofs.RefusalLemmas.{AllIn}
use Rattle.vw_machine.proofs.refusing.first_refused.Given as goal

abbrev pub invariant-loop-slot : goal.invariant-loop-slot
invariant-loop-slot l =
    AllIn (view_of l.module) l.world (state_of l.machine) (here_of l.thing)
    (take l.slot-index l.slot-items)
