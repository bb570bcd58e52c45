use Rattle.std.proofs.Common.{◌≡◌, ◌-◌, List, length, Some, sym, subst}
use Rattle.std.specs.Prelude.{slice_get}
use Rattle.vw_machine.specs.declared.machine.Frame.{Frame}
use Rattle.vw_machine.specs.Module.{view_of}
use Rattle.vw_machine.specs.State.{Activation}
use Rattle.vw_machine.specs.Standing.{StandsAt}
use Rattle.vw_machine.specs.Found.{here_of}
use Rattle.vw_machine.proofs.FrameLemmas.{top_of}
use Rattle.vw_machine.proofs.standing.thing_at.Goals as goal

pub returns-in-Some-clause-stands : goal.returns-in-Some-clause-stands
returns-in-Some-clause-stands c =
    let frames = c.args.machine.now.active.items in
    let top = c.in-Some.top.now in
    let there : slice_get frames (length frames - 1) ≡ Some top = subst (λ (xs : List Frame). slice_get xs (length xs - 1) ≡ Some top) c.deref.ensures.value (sym c.in-Some.ensures.value) in
    subst (λ (active : List Activation). StandsAt (view_of c.args.module.now) c.args.world.now c.args.machine.now.rip active (here_of c.thing_for.result)) (sym (top_of frames top there)) c.thing_for.ensures.stands
