use Rattle.std.proofs.Common.{sym}
use Rattle.vw_app.specs.Lines.{table_line}
use Rattle.vw_app.proofs.Pieces.{pieces2, each_numbered, all_numbered}
use Rattle.vw_app.proofs.info.push_tables.Goals as goal

pub loop-number-preserved : goal.loop-number-preserved
loop-number-preserved c =
    each_numbered table_line c.push_count.new.text c.loop-number.text c.push_table.new.text c.args.tables.now c.loop-number.number c.index-tables-number.result c.loop-number-test.true (sym c.index-tables-number.is) c.loop-number.invariant c.in_ok-push_table.ensures

pub returns : goal.returns
returns c =
    pieces2 c.args.text.now c.push_count.new.text c.loop-number.text _ _ c.in_ok-push_count.ensures
    (all_numbered table_line c.push_count.new.text c.loop-number.text c.args.tables.now c.loop-number.number c.loop-number-test.false c.loop-number.invariant)
