use Rattle.std.proofs.Common.{◌≡◌, ℕ, ◌+◌, List, sym, ◌∙◌, ap, subst}
use Rattle.vw_insn.specs.Effect.{Access, After, reads, effect}
use Rattle.vw_stmt.specs.Accesses.{places_of}
use Rattle.vw_lift.specs.Simulation.{first_loaded}
use Rattle.vw_effect.specs.Meaning.{reads_of, writes_of, after_of, AreShort, IsLoaded}
use Rattle.vw_machine.specs.Module.{view_of}
use Rattle.vw_machine.specs.Choices.{open_of}
use Rattle.vw_machine.specs.Step.{loads, after_insn, accesses, does_trap}
use Rattle.vw_machine.specs.Kept.{state_of}
use Rattle.vw_machine.proofs.DoingLemmas.{loaded_by, trap_of}
use Rattle.vw_machine.proofs.doing.work_of.Goals as goal

pub returns : goal.returns
returns c =
    let m = view_of c.args.module.now in
    let w = c.args.world.now in
    let s = state_of c.args.machine.now in
    let i = c.args.insn.now in
    let choice = c.args.choice.now in
    let next = s.rip + c.args.len in
    let all = reads i next s.registers in
    let there = c.next_address-next.ensures in
    let found = reads_of c.reads-read.result in
    let what : found ≡ all = c.reads-read.ensures ∙ ap (λ (n : ℕ). reads i n s.registers) there in
    let short : AreShort i found = subst (AreShort i) (sym c.reads-read.ensures) (c.reads_are_short.ensures i c.next_address-next.result s.registers) in
    let number = first_loaded (loads m w choice) s.bytes all in
    let given : IsLoaded i c.first_number-number.result number =
    loaded_by i found c.first_number-number.result number short (λ few. sym (c.first_number-number.ensures few ∙ ap (first_loaded (loads m w choice) s.bytes) what)) in
    let left : after_of c.effect-after.result ≡ after_insn m w s i c.args.len choice =
    c.effect-after.ensures number (open_of choice) given c.open_of-open.ensures
    ∙ ap (λ (n : ℕ). effect i n s.registers s.flags number (open_of choice)) there in
    record {
      what_is_next = there;
      what_is_read = what;
      what_is_left = left;
      whether_it_traps =
          c.traps.ensures
          ∙ trap_of w choice i found (places_of (writes_of c.effect-after.result.write))
          ∙ ap (λ (rs : List Access). does_trap w i (accesses rs (writes_of c.effect-after.result.write)) choice) what
          ∙ ap (λ (a : After). does_trap w i (accesses all a.writes) choice) left;
    }
