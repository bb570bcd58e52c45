use Rattle.std.proofs.Common.{sym}
use Rattle.vw_app.specs.Lines.{function_line}
use Rattle.vw_app.proofs.Pieces.{pieces2, each_item, all_pieces}
use Rattle.vw_app.proofs.info.push_functions.Goals as goal

pub loop-function-preserved : goal.loop-function-preserved
loop-function-preserved c =
    each_item function_line c.push_count.new.text c.loop-function.text c.push_function.new.text c.args.functions.now c.loop-function.function-index c.function-item.result c.loop-function-test.true (sym c.function-item.is) c.loop-function.invariant c.in_ok-push_function.ensures

pub returns : goal.returns
returns c =
    pieces2 c.args.text.now c.push_count.new.text c.loop-function.text _ _ c.in_ok-push_count.ensures
    (all_pieces function_line c.push_count.new.text c.loop-function.text c.args.functions.now c.loop-function.function-index c.loop-function-test.false c.loop-function.invariant)
