use Rattle.vw_report.proofs.LeastPoints.{least_points}
use Rattle.vw_report.proofs.report_laws.least_tables_are_of_points.Goals as goal

pub returns : goal.returns
returns c = least_points
