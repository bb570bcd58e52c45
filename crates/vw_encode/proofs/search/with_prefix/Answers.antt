use Rattle.vw_encode.proofs.Excluded.{no_rex, one_rex, all_rex}
use Rattle.vw_encode.proofs.Firsts.{first_rex, first_no_rex}
use Rattle.vw_encode.proofs.search.with_prefix.Goals as goal

pub loop-bits-init : goal.loop-bits-init
loop-bits-init c = no_rex c.args.row c.args.insn.now c.args.prefix c.in_default.ensures

pub loop-bits-preserved : goal.loop-bits-preserved
loop-bits-preserved c = one_rex c.args.row c.args.insn.now c.args.prefix c.loop-bits.bits c.in_default-with_bits.ensures c.loop-bits.invariant

pub returns : goal.returns
returns c = all_rex c.args.row c.args.insn.now c.args.prefix c.loop-bits.bits c.loop-bits-test.false c.loop-bits.invariant

pub returns-in-Some : goal.returns-in-Some
returns-in-Some c = first_no_rex c.in-Some.spelled c.args.row c.args.insn.now c.args.prefix c.in-Some.ensures

pub returns-in-Some-with_bits : goal.returns-in-Some-with_bits
returns-in-Some-with_bits c = first_rex c.in-Some-with_bits.spelled c.args.row c.args.insn.now c.args.prefix c.loop-bits.bits c.loop-bits.invariant c.in-Some-with_bits.ensures
