use Rattle.std.proofs.Common.{List, take, sym, subst}
use Rattle.vw_state.specs.declared.tables.FunctionTable.{FunctionTable}
use Rattle.vw_report.specs.ReportText.{AppendsFunctions}
use Rattle.vw_report.proofs.Pieces.{taken}
use Rattle.vw_report.proofs.Listed.{functions_on}
use Rattle.vw_report.proofs.print_tables.push_functions.Goals as goal

pub loop-function-preserved : goal.loop-function-preserved
loop-function-preserved c =
    let functions : List FunctionTable = c.args.functions.now in
    subst (λ (fs : List FunctionTable). AppendsFunctions fs c.args.text.now c.push_points.new.text)
    (sym (taken functions c.loop-function.function-index c.function-item.result c.loop-function-test.true (sym c.function-item.is)))
    (functions_on (take c.loop-function.function-index functions) c.function-item.result c.args.text.now c.loop-function.text c.push_entry.new.text c.push_points.new.text
    c.loop-function.invariant c.in_ok-push_entry.ensures (rw c.as_slice.ensures at c.in_ok-push_points.ensures))
