use Rattle.vw_machine.specs.declared.world.World.{World}
use Rattle.vw_machine.specs.World.{IsLaidOut}
use Rattle.vw_sandbox.specs.Gathered.{StandsAlone}
use Rattle.vw_sandbox.proofs.Choices.{by_choices, by_states}
use Rattle.vw_sandbox.proofs.laws.sandboxed_by_choices.Goals as goal

pub returns : goal.returns
returns c m map =
    let alone : (w : World) → IsLaidOut m.image m.imports w → StandsAlone m w = λ w laid rip active one other a b. c.one_thing_stands.ensures m w rip active one other laid a b in
    (by_choices m map alone, by_states m map alone)
