use Rattle.std.proofs.Common.{◌≡◌, Bool, false, if◌then◌else◌, sym, ◌∙◌, subst}
use Rattle.vw_insn.specs.Words.{Registers, put}
use Rattle.vw_insn.specs.Effect.{raised}
use Rattle.vw_machine.specs.Step.{Trapped, arrive, host_leaves, probe_traps}
use Rattle.vw_machine.specs.Kept.{state_of}
use Rattle.vw_machine.specs.Found.{IsEnding}
use Rattle.vw_machine.proofs.Lists.{if_ok}
use Rattle.vw_machine.proofs.stepping.pass_probe.Goals as goal

pub returns-else-probe_traps-clause-ok : goal.returns-else-probe_traps-clause-ok
returns-else-probe_traps-clause-ok c =
    let w = c.args.world.now in
    let s = state_of c.args.machine.now in
    let choice = c.args.choice.now in
    let passes : probe_traps w s.registers ≡ false = sym c.probe_traps.ensures ∙ c.if-probe_traps.false in
    if_ok c.come_back.result
    (λ found ending top rest active.
    let left = put s.registers 4 (raised (s.registers 4)) in
    subst (λ (traps : Bool). IsEnding s (if traps then Trapped else arrive w (host_leaves w s top rest left choice)) found (state_of c.come_back.new.machine)) (sym passes)
    (subst (λ (r : Registers). IsEnding s (arrive w (host_leaves w s top rest r choice)) found (state_of c.come_back.new.machine)) c.probe_registers-registers.ensures (ending top rest active)))
    c.come_back.ensures.ok
