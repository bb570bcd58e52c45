use Rattle.vw_encode.proofs.Firsts.{first_mode}
use Rattle.vw_encode.proofs.search.in_memory.Goals as goal

pub returns-in-Some : goal.returns-in-Some
returns-in-Some c = first_mode c.in-Some.spelled c.args.row c.args.insn.now c.args.choice c.loop-mode.mode c.loop-mode-test.true c.in-Some.ensures c.loop-mode.invariant
