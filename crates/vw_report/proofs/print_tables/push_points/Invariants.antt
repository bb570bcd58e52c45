use Rattle.std.proofs.Common.{take}
use Rattle.vw_report.specs.ReportText.{AppendsPoints}
use Rattle.vw_report.proofs.print_tables.push_points.Given as goal

abbrev pub invariant-loop-point : goal.invariant-loop-point
invariant-loop-point l = AppendsPoints (take l.point-index l.points) l.initial.text l.text
