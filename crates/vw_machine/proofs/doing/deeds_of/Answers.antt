use Rattle.std.proofs.Common.{sym, ◌∙◌, ap, subst}
use Rattle.vw_machine.specs.declared.standing.Thing.{Thing}
use Rattle.vw_machine.specs.Module.{view_of}
use Rattle.vw_machine.specs.Standing.{StandsAt}
use Rattle.vw_machine.specs.Events.{events}
use Rattle.vw_machine.specs.Kept.{state_of}
use Rattle.vw_machine.specs.Found.{here_of, IsKnown}
use Rattle.vw_machine.proofs.DoingLemmas.{events_of_work, code_events, events_of_outer}
use Rattle.vw_machine.proofs.doing.deeds_of.Goals as goal

pub returns-in-Insn : goal.returns-in-Insn
returns-in-Insn c =
    let m = view_of c.args.module.now in
    let w = c.args.world.now in
    let s = state_of c.args.machine.now in
    let choice = c.args.choice.now in
    let i = c.in-Insn.insn in
    let len = c.in-Insn.len in
    let stands = subst (λ (t : Thing). StandsAt m w s.rip s.active (here_of t)) c.in-Insn.is c.requires.stands in
    c.deeds_of_work.ensures
    ∙ events_of_work m w s i len choice c.work_of-work.result c.work_of-work.ensures
    ∙ code_events m w s choice s.active i len stands
    ∙ ap (λ (t : Thing). events m w s (here_of t) choice) (sym c.in-Insn.is)

pub returns-in-Outer : goal.returns-in-Outer
returns-in-Outer c =
    let m = view_of c.args.module.now in
    let w = c.args.world.now in
    let s = state_of c.args.machine.now in
    let choice = c.args.choice.now in
    let o = c.in-Outer.outer in
    let stands = subst (λ (t : Thing). StandsAt m w s.rip s.active (here_of t)) c.in-Outer.is c.requires.stands in
    let known = subst (λ (t : Thing). IsKnown m w t) c.in-Outer.is c.requires.known in
    c.outer_deeds.ensures
    ∙ events_of_outer m w s choice s.active o stands known
    ∙ ap (λ (t : Thing). events m w s (here_of t) choice) (sym c.in-Outer.is)
