use Rattle.std.proofs.Common.{◌≡◌}
use Rattle.vw_machine.specs.World.{usual_hosts}
use Rattle.vw_machine.proofs.placing.hosts_of.Given as goal

abbrev pub invariant-loop-number : goal.invariant-loop-number
invariant-loop-number l = l.hosts ≡ usual_hosts l.number
