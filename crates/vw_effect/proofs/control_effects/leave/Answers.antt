use Rattle.std.proofs.Common.{ℕ, ap, sym, ◌∙◌}
use Rattle.vw_insn.specs.Words.{put}
use Rattle.vw_insn.specs.Effect.{Next, going, raised, unwound}
use Rattle.vw_effect.specs.Meaning.{registers_of, status_of}
use Rattle.vw_effect.proofs.control_effects.leave.Goals as goal

pub returns : goal.returns
returns c = λ number choice loaded chosen.
    let before = c.args.before.now in
    let registers = registers_of before.registers.now in
    c.leave_with.ensures
    ∙ ap (λ (f : ℕ → ℕ). going f (status_of before.flags) Next)
    (c.leave_frame.ensures ∙ ap (λ (x : ℕ). put (put (unwound registers) 4 (raised (registers 5))) 5 x) (sym loaded))
