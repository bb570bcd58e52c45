use Rattle.std.proofs.Common.{◌≡◌, ℕ, List, [], ◌∷◌, ◌++◌, ◌∙◌, ap, subst}
use Rattle.vw_effect.specs.Meaning.{registers_of, status_of}
use Rattle.vw_machine.specs.declared.machine.Frame.{Frame}
use Rattle.vw_machine.specs.State.{Activation, MachineState}
use Rattle.vw_machine.specs.Choices.{flags_in}
use Rattle.vw_machine.specs.Step.{arrive, host_bytes, host_leaves}
use Rattle.vw_machine.specs.Kept.{byte_in, activations_of, state_of}
use Rattle.vw_machine.specs.Found.{IsEnding}
use Rattle.vw_machine.proofs.StepLemmas.{state, same_state, taken}
use Rattle.vw_machine.proofs.stepping.come_back.Goals as goal

pub returns-clause-ok : goal.returns-clause-ok
returns-clause-ok c = λ top rest active.
    let w = c.args.world.now in
    let machine = c.args.machine.now in
    let s = state_of machine in
    let popped = c.pop.new.self.items in
    let frame : Frame = c.in-Some.top in
    let off : machine.active.items ≡ popped ++ frame ∷ [] = c.in-Some.ensures.items in
    let found = taken machine.active.items popped frame top rest off active in
    let new = byte_in c.leave_below.new.bytes in
    let rsp = s.registers 4 in
    let bytes : new ≡ host_bytes w s.bytes rsp c.args.choice.now.below =
    c.in_ok-leave_below.ensures.ok ∙ ap (λ (l : List ℕ). host_bytes w s.bytes rsp l) c.as_slice-below.ensures in
    let leaves : MachineState = state (registers_of c.args.registers) frame.back (status_of c.flags_in-machine.result) new (activations_of popped) in
    let same : leaves ≡ host_leaves w s top rest (registers_of c.args.registers) c.args.choice.now =
    same_state (registers_of c.args.registers) frame.back top.back (status_of c.flags_in-machine.result) (flags_in c.args.choice.now.flags) new (host_bytes w s.bytes rsp c.args.choice.now.below) (activations_of popped) rest
    (ap (λ (a : Activation). a.back) found.0) c.flags_in-machine.ensures bytes found.1 in
    subst (λ (t : MachineState). IsEnding s (arrive w t) c.arrival.result leaves) same (c.arrival.ensures s)
