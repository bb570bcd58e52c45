use Rattle.std.proofs.Common.{ℕ, ap, ◌∙◌}
use Rattle.vw_insn.specs.Words.{put}
use Rattle.vw_insn.specs.Effect.{raised}
use Rattle.vw_effect.specs.Meaning.{registers_of}
use Rattle.vw_effect.proofs.registers.leave_frame.Goals as goal

pub returns : goal.returns
returns c =
    c.pop_into.ensures
    ∙ ap (λ (f : ℕ → ℕ). put (put f 4 (raised (f 4))) 5 c.args.word) (c.put.ensures ∙ ap (λ (x : ℕ). put (registers_of c.args.registers.now) 4 x) c.word_in-rbp.ensures)
