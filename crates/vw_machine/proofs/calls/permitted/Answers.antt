use Rattle.std.proofs.Common.{subst}
use Rattle.vw_machine.specs.Module.{view_of}
use Rattle.vw_machine.specs.Standing.{Here}
use Rattle.vw_machine.specs.Kept.{state_of}
use Rattle.vw_machine.specs.Found.{here_of}
use Rattle.vw_machine.specs.Permitted.{Permitted}
use Rattle.vw_machine.proofs.calls.permitted.Goals as goal

pub returns : goal.returns
returns c =
    let m = view_of c.args.module.now in
    let w = c.args.world.now in
    let s = state_of c.args.machine.now in
    let here = here_of c.thing_at-thing.result in
    let stands = c.thing_at-thing.ensures.stands in (
      (λ t. (here, stands, c.permits.ensures.0 t)),
      (λ may.
          let same = c.one_thing_stands.ensures m w s.rip s.active may.0 here c.requires.placed may.1 stands in
          c.permits.ensures.1 (subst (λ (h : Here). Permitted m w s h c.args.event.now) same may.2)),
    )
