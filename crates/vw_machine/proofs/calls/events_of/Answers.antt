use Rattle.std.proofs.Common.{[], ◌∷◌, ◌++◌, List, take, None, Some, sym, ◌∙◌, ap, arith}
use Rattle.std.proofs.lemmas.List.{append-nil, take_all}
use Rattle.vw_machine.specs.declared.event.Event.{Event}
use Rattle.vw_machine.specs.Found.{events_in}
use Rattle.vw_machine.proofs.RefusalLemmas.{listed_more}
use Rattle.vw_machine.proofs.calls.events_of.Goals as goal
use Rattle.vw_machine.proofs.calls.events_of.Goals.{in-Some+in_ok-push, in_default}

pub loop-slot-preserved : goal.loop-slot-preserved
loop-slot-preserved c =
    let slots = c.slots_of-slots.result in
    let i = c.loop-slot.slot-index in
    elim c.match-slot.branch [
      | in-Some+in_ok-push w ↦ (
          let more = listed_more slots i (Some w.in-Some.event) w.in-Some.is in
          w.events-is ∙ w.in_ok-push.ensures.ok
          ∙ ap (λ (l : List Event). l ++ w.in-Some.event ∷ []) c.loop-slot.invariant ∙ sym more)
      | in_default w ↦ (
          let more = listed_more slots i None w.in_default.is in
          w.events-is ∙ c.loop-slot.invariant ∙ sym (more ∙ append-nil (events_in (take i slots))))
    ]

pub returns : goal.returns
returns c =
    let slots = c.slots_of-slots.result in
    let i = c.loop-slot.slot-index in
    let long = c.slots_of-slots.ensures.slots in
    let past = c.loop-slot-test.false in
    c.loop-slot.invariant ∙ ap events_in (take_all i slots (omega arith)) ∙ c.slots_of-slots.ensures.events
