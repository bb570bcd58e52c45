use Rattle.std.proofs.Common.{refl}
use Rattle.vw_machine.specs.Module.{view_of}
use Rattle.vw_machine.specs.Standing.{Nowhere}
use Rattle.vw_machine.specs.Kept.{state_of}
use Rattle.vw_machine.proofs.RefusalLemmas.{refused_nowhere}
use Rattle.vw_machine.proofs.machine.Machine.step.Goals as goal

pub returns-in-Nowhere-clause-ok : goal.returns-in-Nowhere-clause-ok
returns-in-Nowhere-clause-ok c =
    let m = view_of c.args.module.now in
    let w = c.args.world.now in
    let s = state_of c.args.self.now in
    (Nowhere, c.in-Nowhere.ensures.stands, (refused_nowhere m w s c.args.choice.now, refl))
