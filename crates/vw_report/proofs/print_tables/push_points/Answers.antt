use Rattle.std.proofs.Common.{List, take, sym, subst}
use Rattle.vw_state.specs.declared.tables.PointState.{PointState}
use Rattle.vw_report.specs.ReportText.{AppendsPoints}
use Rattle.vw_report.proofs.Pieces.{taken}
use Rattle.vw_report.proofs.Listed.{points_on}
use Rattle.vw_report.proofs.print_tables.push_points.Goals as goal

pub loop-point-preserved : goal.loop-point-preserved
loop-point-preserved c =
    let points : List PointState = c.args.points.now in
    subst (λ (ps : List PointState). AppendsPoints ps c.args.text.now c.push_point.new.text)
    (sym (taken points c.loop-point.point-index c.point-item.result c.loop-point-test.true (sym c.point-item.is)))
    (points_on (take c.loop-point.point-index points) c.point-item.result c.args.text.now c.loop-point.text c.push_point.new.text c.loop-point.invariant c.in_ok-push_point.ensures)
