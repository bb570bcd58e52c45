use Rattle.std.proofs.Common.{◌∙◌, sym, arith}
use Rattle.vw_state.proofs.CountingRows.{none_read}
use Rattle.vw_state.proofs.opcodes.may_count.Goals as goal

pub returns-in-empty : goal.returns-in-empty
returns-in-empty c = λ e. none_read c.args.bytes.now _ _ c.behind_prefix.ensures c.behind_rex.ensures (λ some. absurd (omega (arith, c.in-empty.len_below)))

pub returns-in-len1-up : goal.returns-in-len1-up
returns-in-len1-up c = λ e. none_read c.args.bytes.now _ _ c.behind_prefix.ensures c.behind_rex.ensures (λ some. sym c.is_counting.ensures ∙ e)
