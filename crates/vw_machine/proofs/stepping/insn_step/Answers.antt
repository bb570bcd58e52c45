use Rattle.std.proofs.Common.{List, ◌∙◌, subst, refl}
use Rattle.std.specs.List.{AllByRecursion}
use Rattle.vw_machine.specs.declared.event.Event.{Event}
use Rattle.vw_machine.specs.Module.{view_of}
use Rattle.vw_machine.specs.Standing.{Code}
use Rattle.vw_machine.specs.Step.{Ending}
use Rattle.vw_machine.specs.Kept.{state_of}
use Rattle.vw_machine.specs.Permitted.{Permitted}
use Rattle.vw_machine.specs.Answers.{IsFirstRefused}
use Rattle.vw_machine.specs.Found.{IsEnding}
use Rattle.vw_machine.proofs.Lists.{if_ok}
use Rattle.vw_machine.proofs.DoingLemmas.{events_of_work, code_events}
use Rattle.vw_machine.proofs.StepLemmas.{ends_by, ending_of_work}
use Rattle.vw_machine.proofs.stepping.insn_step.Goals as goal

pub returns-in-Some-clause-ok : goal.returns-in-Some-clause-ok
returns-in-Some-clause-ok c =
    let m = view_of c.args.module.now in
    let w = c.args.world.now in
    let s = state_of c.args.machine.now in
    let choice = c.args.choice.now in
    let i = c.args.insn.now in
    let len = c.args.len in
    let events = c.deeds_of_work.ensures ∙ events_of_work m w s i len choice c.work_of-work.result c.work_of-work.ensures ∙ code_events m w s choice s.active i len c.requires.stands in
    (subst (λ (all : List Event). IsFirstRefused m w s (Code i len) all c.in-Some.event) events c.in-Some.ensures, refl)

pub returns-in-None-clause-ok : goal.returns-in-None-clause-ok
returns-in-None-clause-ok c =
    let m = view_of c.args.module.now in
    let w = c.args.world.now in
    let s = state_of c.args.machine.now in
    let choice = c.args.choice.now in
    let i = c.args.insn.now in
    let len = c.args.len in
    let here = Code i len in
    let work = c.work_of-work.result in
    let events = c.deeds_of_work.ensures ∙ events_of_work m w s i len choice work c.work_of-work.ensures ∙ code_events m w s choice s.active i len c.requires.stands in
    let all = subst (λ (l : List Event). AllByRecursion (Permitted m w s here) l) events c.in-None.ensures in
    if_ok c.go.result
    (λ found ending.
    ends_by m w s choice here (λ stands. stands) c.requires.stands all found (state_of c.go.new.machine)
    (λ top rest active.
    subst (λ (e : Ending). IsEnding s e found (state_of c.go.new.machine)) (ending_of_work w s top rest m i len choice work c.work_of-work.ensures) (ending top rest active)))
    c.go.ensures.ok
