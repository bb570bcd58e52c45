use Rattle.std.proofs.Common.{◌≡◌, true, List, take, None, sym, ◌∙◌, ap, subst, arith}
use Rattle.std.proofs.lemmas.Bool.{false≢true}
use Rattle.std.proofs.lemmas.List.{take_all}
use Rattle.std.specs.List.{AllByRecursion}
use Rattle.vw_machine.specs.declared.event.Event.{Event}
use Rattle.vw_machine.specs.Module.{view_of}
use Rattle.vw_machine.specs.Kept.{state_of}
use Rattle.vw_machine.specs.Permitted.{Permitted}
use Rattle.vw_machine.specs.Answers.{IsFirstRefused}
use Rattle.vw_machine.specs.Found.{here_of, events_in}
use Rattle.vw_machine.proofs.RefusalLemmas.{all_more, first_at}
use Rattle.vw_machine.proofs.refusing.first_refused.Goals as goal
use Rattle.vw_machine.proofs.refusing.first_refused.Goals.{in-Some+else-not-permits, in_default}

pub returns-then-not-permits : goal.returns-then-not-permits
returns-then-not-permits c =
    let m = view_of c.args.module.now in
    let w = c.args.world.now in
    let s = state_of c.args.machine.now in
    let here = here_of c.args.thing.now in
    let denied : ¬ Permitted m w s here c.in-Some.event =
    λ may. let is : c.permits.result ≡ true = c.permits.ensures.1 may in absurd (false≢true (sym c.if-not-permits.true ∙ is)) in
    subst (λ (all : List Event). IsFirstRefused m w s here all c.in-Some.event) c.slots_of-slots.ensures.events
    (first_at m w s here c.slots_of-slots.result c.loop-slot.slot-index c.in-Some.event c.in-Some.is c.loop-slot.invariant denied)

pub loop-slot-preserved : goal.loop-slot-preserved
loop-slot-preserved c =
    let m = view_of c.args.module.now in
    let w = c.args.world.now in
    let s = state_of c.args.machine.now in
    let here = here_of c.args.thing.now in
    let slots = c.slots_of-slots.result in
    let i = c.loop-slot.slot-index in
    elim c.match-slot.branch [
      | in-Some+else-not-permits w' ↦ all_more m w s here slots i _ w'.in-Some.is (w'.permits.ensures.0 w'.if-not-permits.false, tt) c.loop-slot.invariant
      | in_default w' ↦ all_more m w s here slots i None w'.in_default.is tt c.loop-slot.invariant
    ]

pub returns : goal.returns
returns c =
    let slots = c.slots_of-slots.result in
    let i = c.loop-slot.slot-index in
    let long = c.slots_of-slots.ensures.slots in
    let past = c.loop-slot-test.false in
    let all : take i slots ≡ slots = take_all i slots (omega arith) in
    subst (λ (l : List Event). AllByRecursion (Permitted (view_of c.args.module.now) c.args.world.now (state_of c.args.machine.now) (here_of c.args.thing.now)) l)
    (ap events_in all ∙ c.slots_of-slots.ensures.events) c.loop-slot.invariant
