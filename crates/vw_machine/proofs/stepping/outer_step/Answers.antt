use Rattle.std.proofs.Common.{List, ◌∙◌, subst, refl}
use Rattle.std.specs.List.{AllByRecursion}
use Rattle.vw_machine.specs.declared.event.Event.{Event}
use Rattle.vw_machine.specs.Module.{view_of}
use Rattle.vw_machine.specs.Kept.{state_of}
use Rattle.vw_machine.specs.Permitted.{Permitted}
use Rattle.vw_machine.specs.Answers.{IsFirstRefused}
use Rattle.vw_machine.specs.Found.{here_of_outer}
use Rattle.vw_machine.proofs.Lists.{if_ok}
use Rattle.vw_machine.proofs.DoingLemmas.{events_of_outer}
use Rattle.vw_machine.proofs.StepLemmas.{outer_ends}
use Rattle.vw_machine.proofs.stepping.outer_step.Goals as goal

pub returns-in-Some-clause-ok : goal.returns-in-Some-clause-ok
returns-in-Some-clause-ok c =
    let m = view_of c.args.module.now in
    let w = c.args.world.now in
    let s = state_of c.args.machine.now in
    let o = c.args.outer in
    let events = c.outer_deeds-deeds.ensures ∙ events_of_outer m w s c.args.choice.now s.active o c.requires.stands c.requires.known in
    (subst (λ (all : List Event). IsFirstRefused m w s (here_of_outer o) all c.in-Some.event) events c.in-Some.ensures, refl)

pub returns-in-None-clause-ok : goal.returns-in-None-clause-ok
returns-in-None-clause-ok c =
    let m = view_of c.args.module.now in
    let w = c.args.world.now in
    let s = state_of c.args.machine.now in
    let choice = c.args.choice.now in
    let o = c.args.outer in
    let events = c.outer_deeds-deeds.ensures ∙ events_of_outer m w s choice s.active o c.requires.stands c.requires.known in
    let all = subst (λ (l : List Event). AllByRecursion (Permitted m w s (here_of_outer o)) l) events c.in-None.ensures in
    if_ok c.pass_outer.result
    (λ found ending. outer_ends m w s choice o c.requires.stands c.requires.known all found (state_of c.pass_outer.new.machine) ending)
    c.pass_outer.ensures.ok
