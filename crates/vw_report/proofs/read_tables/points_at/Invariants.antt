use Rattle.vw_report.proofs.PointLoop.{Keeps}
use Rattle.vw_report.proofs.read_tables.points_at.Given as goal

abbrev pub invariant-loop-i : goal.invariant-loop-i
invariant-loop-i l = Keeps l.bytes l.points l.rest l.low l.i
