use Rattle.vw_domain.specs.Abstract.{abstract_of}
use Rattle.vw_checks.proofs.Rest.{one_more, all_done, one_applied, all_applied}
use Rattle.vw_checks.proofs.checks.change_all.Goals as goal

pub loop-stmt-preserved : goal.loop-stmt-preserved
loop-stmt-preserved c =
    let start = abstract_of c.args.state.now in
    let now = abstract_of c.loop-stmt.state in
    let after = abstract_of c.change_by_stmt.new.state in
    record {
      lowest = λ f of is.
          one_more f c.args.next start now after c.args.stmts.now c.loop-stmt.stmt-index _ c.loop-stmt.lowest c.failing_stmt.result c.lower-lowest.result
          c.loop-stmt-test.true (c.failing_stmt.ensures f of is) c.lower-lowest.ensures (c.in_ok-change_by_stmt.ensures.form f is) (c.loop-stmt.invariant.lowest f of is);
      form = λ f is.
          one_applied f c.args.next start now after c.args.stmts.now c.loop-stmt.stmt-index _
          c.loop-stmt-test.true (c.in_ok-change_by_stmt.ensures.form f is) (c.loop-stmt.invariant.form f is);
    }

pub returns-clause-lowest : goal.returns-clause-lowest
returns-clause-lowest c = λ f of is.
    all_done f c.args.next (abstract_of c.args.state.now) (abstract_of c.loop-stmt.state) c.args.stmts.now c.loop-stmt.stmt-index c.loop-stmt.lowest c.loop-stmt-test.false (c.loop-stmt.invariant.lowest f of is)

pub returns-clause-form : goal.returns-clause-form
returns-clause-form c = λ f is.
    all_applied f c.args.next (abstract_of c.args.state.now) (abstract_of c.loop-stmt.state) c.args.stmts.now c.loop-stmt.stmt-index c.loop-stmt-test.false (c.loop-stmt.invariant.form f is)
