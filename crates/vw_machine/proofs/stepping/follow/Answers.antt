use Rattle.std.proofs.Common.{◌≡◌, List, [], ◌∷◌, ◌++◌, ◌∙◌, sym, ap, subst}
use Rattle.vw_machine.specs.declared.machine.Frame.{Frame}
use Rattle.vw_machine.specs.State.{Activation, MachineState}
use Rattle.vw_machine.specs.Step.{arrive}
use Rattle.vw_machine.specs.Kept.{activations_of, state_of}
use Rattle.vw_machine.specs.Found.{IsEnding}
use Rattle.vw_machine.proofs.FrameLemmas.{activations_of-push}
use Rattle.vw_machine.proofs.StepLemmas.{state, taken}
use Rattle.vw_machine.proofs.stepping.follow.Goals as goal

pub returns-clause-ok : goal.returns-clause-ok
returns-clause-ok c = λ top rest active.
    let machine = c.args.machine.now in
    let s = state_of machine in
    let to = c.args.to in
    let popped = c.pop.new.self.items in
    let frame : Frame = c.in-Some.top in
    let off : machine.active.items ≡ popped ++ frame ∷ [] = sym c.in_ok-reserve.ensures.items ∙ c.in-Some.ensures.items in
    let found = taken machine.active.items popped frame top rest off active in
    let turned : Frame = record frame { entry = to } in
    let back : activations_of c.push_reserved.new.self.items ≡ record top { entry = to } ∷ rest =
    ap activations_of c.push_reserved.ensures.items
    ∙ activations_of-push popped turned
    ∙ ap (λ (a : Activation). record a { entry = to } ∷ activations_of popped) found.0
    ∙ ap (λ (l : List Activation). record top { entry = to } ∷ l) found.1 in
    let after : List Activation → MachineState = λ l. state s.registers to s.flags s.bytes l in
    subst (λ (l : List Activation). IsEnding s (arrive c.args.world.now (after l)) c.arrival.result (after (activations_of c.push_reserved.new.self.items))) back (c.arrival.ensures s)
