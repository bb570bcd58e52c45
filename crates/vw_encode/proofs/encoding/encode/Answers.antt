use Rattle.vw_encode.proofs.Complete.{none_spelled, first_spelled, found_spells, found_zeros, found_size}
use Rattle.vw_encode.proofs.encoding.encode.Goals as goal

pub returns-in-None-clause-none : goal.returns-in-None-clause-none
returns-in-None-clause-none c = none_spelled c.args.insn.now c.in-None.ensures

pub returns-in-Some-clause-first : goal.returns-in-Some-clause-first
returns-in-Some-clause-first c = first_spelled c.in-Some.spelled c.args.insn.now c.in-Some.ensures

pub returns-in-Some-clause-spelled : goal.returns-in-Some-clause-spelled
returns-in-Some-clause-spelled c = found_spells c.in-Some.spelled c.args.insn.now c.in-Some.ensures

pub returns-in-Some-clause-padded : goal.returns-in-Some-clause-padded
returns-in-Some-clause-padded c = found_zeros c.in-Some.spelled c.args.insn.now c.in-Some.ensures

pub returns-in-Some-clause-size : goal.returns-in-Some-clause-size
returns-in-Some-clause-size c = found_size c.in-Some.spelled c.args.insn.now c.in-Some.ensures
