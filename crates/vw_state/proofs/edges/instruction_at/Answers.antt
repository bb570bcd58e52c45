use Rattle.std.proofs.Common.{arith}
use Rattle.std.proofs.lemmas.List.{take_rest}
use Rattle.vw_state.proofs.Spellings.{none_at, found_at}
use Rattle.vw_state.proofs.edges.instruction_at.Goals as goal

pub returns-in_err-insn-clause-none : goal.returns-in_err-insn-clause-none
returns-in_err-insn-clause-none c =
    rw c.from_residual.ensures (none_at c.args.code.now c.args.at (omega (arith, c.if-code-at.false)) _ (take_rest c.args.code.now c.args.at) c.in_err-insn.ensures.only)

pub returns-clause-found : goal.returns-clause-found
returns-clause-found c =
    found_at c.args.code.now c.args.at (omega (arith, c.if-code-at.false)) _ (take_rest c.args.code.now c.args.at) c.in_ok-insn.insn c.in_ok-insn.len c.in_ok-insn.ensures.only c.in_ok-insn.ensures.within c.in_ok-insn.ensures.size.0 c.in_ok-insn.ensures.found
