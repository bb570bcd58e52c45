use Rattle.std.proofs.Common.{◌≡◌, List, [], ◌∷◌, ◌++◌, ◌∙◌, sym, ap, subst, refl}
use Rattle.vw_effect.specs.Meaning.{after_of, transfer_of}
use Rattle.vw_lift.specs.Simulation.{stored}
use Rattle.vw_machine.specs.declared.machine.Frame.{Frame}
use Rattle.vw_machine.specs.State.{Activation, MachineState, store, after_writes}
use Rattle.vw_machine.specs.Step.{Ending, arrive, left}
use Rattle.vw_machine.specs.Kept.{byte_in, activation_of, activations_of, state_of}
use Rattle.vw_machine.specs.Found.{IsEnding, active_after}
use Rattle.vw_machine.proofs.StepLemmas.{state, same_state, taken, goes}
use Rattle.vw_machine.proofs.stepping.go.Goals as goal

pub returns-in-Ok-clause-ok : goal.returns-in-Ok-clause-ok
returns-in-Ok-clause-ok c = λ top rest active.
    let w = c.args.world.now in
    let machine = c.args.machine.now in
    let work = c.args.work.now in
    let after = after_of work.after in
    let transfer = transfer_of work.after.transfer in
    let s = state_of machine in
    let to = c.in-Some.to in
    let popped = c.pop.new.self.items in
    let frame : Frame = c.in-Some-pop.top in
    let off : machine.active.items ≡ popped ++ frame ∷ [] = sym c.in_ok-reserve.ensures.items ∙ c.in-Some-pop.ensures.items in
    let found = taken machine.active.items popped frame top rest off active in
    let marked : activation_of c.settle.new.top ≡ after_writes w top after.writes =
    c.in-Ok.ensures.marks ∙ ap (λ (a : Activation). after_writes w a after.writes) found.0 in
    let wrote = after_writes w top after.writes in
    let moved : activations_of c.move_on.new.active.items ≡ active_after after work.next transfer wrote rest =
    c.move_on.ensures
    ∙ ap (λ (a : Activation). active_after after work.next transfer a (activations_of popped)) marked
    ∙ ap (λ (l : List Activation). active_after after work.next transfer wrote l) found.1 in
    let new = byte_in c.settle.new.bytes in
    let leaves : MachineState = state after.registers to after.flags new (activations_of c.move_on.new.active.items) in
    let same : leaves ≡ left w s after to (active_after after work.next transfer wrote rest) =
    same_state after.registers to to after.flags after.flags new (stored (store w) s.bytes after.writes) (activations_of c.move_on.new.active.items) (active_after after work.next transfer wrote rest)
    refl refl c.in-Ok.ensures.bytes moved in
    subst (λ (e : Ending). IsEnding s e c.arrival.result leaves) (sym (goes w s top rest work to c.in-Some.ensures))
    (subst (λ (t : MachineState). IsEnding s (arrive w t) c.arrival.result leaves) same (c.arrival.ensures s))
