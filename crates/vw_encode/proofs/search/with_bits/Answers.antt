use Rattle.std.proofs.Common.{sym, ◌∙◌}
use Rattle.vw_encode.proofs.Excluded.{not_lean}
use Rattle.vw_encode.proofs.search.with_bits.Goals as goal

pub returns-then-not-is_lean : goal.returns-then-not-is_lean
returns-then-not-is_lean c = not_lean c.args.row c.args.insn.now c.args.prefix c.args.bits (sym c.is_lean.ensures ∙ c.if-not-is_lean.true)
