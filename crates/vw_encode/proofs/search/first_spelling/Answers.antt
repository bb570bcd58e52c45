use Rattle.vw_encode.proofs.Rows.{one_number_more, kind_passed, found_of_kind}
use Rattle.vw_encode.proofs.search.first_spelling.Goals as goal

pub loop-number-init : goal.loop-number-init
loop-number-init c = λ r h. absurd h

pub loop-number-preserved : goal.loop-number-preserved
loop-number-preserved c = one_number_more c.candidates-number-items.result.now c.args.insn.now c.loop-number.number-index _ c.candidates-number-items.ensures c.loop-number-test.true c.loop-number.invariant c.in_default.ensures

pub returns : goal.returns
returns c = kind_passed c.candidates-number-items.result.now c.args.insn.now c.loop-number.number-index c.candidates-number-items.ensures c.loop-number-test.false c.loop-number.invariant

pub returns-in-Some : goal.returns-in-Some
returns-in-Some c = found_of_kind c.candidates-number-items.result.now c.args.insn.now c.loop-number.number-index _ c.in-Some.spelled c.candidates-number-items.ensures c.loop-number-test.true c.loop-number.invariant c.in-Some.ensures
