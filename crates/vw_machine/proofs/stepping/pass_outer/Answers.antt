use Rattle.std.proofs.Common.{◌≡◌, ◌∷◌, List, sym, subst}
use Rattle.vw_insn.specs.Words.{Registers}
use Rattle.vw_machine.specs.declared.world.World.{World}
use Rattle.vw_machine.specs.declared.choice.Choice.{Choice}
use Rattle.vw_machine.specs.declared.event.Outcome.{Outcome}
use Rattle.vw_machine.specs.declared.standing.Outer.{Outer}
use Rattle.vw_machine.specs.State.{Activation, MachineState}
use Rattle.vw_machine.specs.Step.{arrive, host_leaves}
use Rattle.vw_machine.specs.Kept.{state_of}
use Rattle.vw_machine.specs.Found.{IsEnding, outer_ending}
use Rattle.vw_machine.proofs.Lists.{if_ok}
use Rattle.vw_machine.proofs.stepping.pass_outer.Goals as goal

-- the ending, for the activation that makes the step
abbrev EndsFor : World → MachineState → Choice → Outcome → MachineState → Outer → Type 0
EndsFor w s choice found s' o =
    (top : Activation) (rest : List Activation) → s.active ≡ top ∷ rest
    → IsEnding s (outer_ending w s top rest o choice) found s'

pub returns-in-Stub-clause-ok : goal.returns-in-Stub-clause-ok
returns-in-Stub-clause-ok c =
    let s = state_of c.args.machine.now in
    let s' = state_of c.follow.new.machine in
    if_ok c.follow.result
    (λ found. subst (EndsFor c.args.world.now s c.args.choice.now found s') (sym c.in-Stub.is))
    c.follow.ensures.ok

pub returns-in-Host-clause-ok : goal.returns-in-Host-clause-ok
returns-in-Host-clause-ok c =
    let w = c.args.world.now in
    let s = state_of c.args.machine.now in
    let choice = c.args.choice.now in
    let s' = state_of c.come_back.new.machine in
    if_ok c.come_back.result
    (λ found ending.
    subst (EndsFor w s choice found s') (sym c.in-Host.is)
    (λ top rest active.
    subst (λ (r : Registers). IsEnding s (arrive w (host_leaves w s top rest r choice)) found s')
    c.host_registers-registers.ensures (ending top rest active)))
    c.come_back.ensures.ok

pub returns-in-Probe-clause-ok : goal.returns-in-Probe-clause-ok
returns-in-Probe-clause-ok c =
    let s = state_of c.args.machine.now in
    let s' = state_of c.pass_probe.new.machine in
    if_ok c.pass_probe.result
    (λ found. subst (EndsFor c.args.world.now s c.args.choice.now found s') (sym c.in-Probe.is))
    c.pass_probe.ensures.ok
