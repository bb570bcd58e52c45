use Rattle.vw_report.proofs.FunctionLoop.{Keeps}
use Rattle.vw_report.proofs.read_tables.functions_at.Given as goal

abbrev pub invariant-loop-i : goal.invariant-loop-i
invariant-loop-i l = Keeps l.bytes l.functions l.rest l.low l.i
