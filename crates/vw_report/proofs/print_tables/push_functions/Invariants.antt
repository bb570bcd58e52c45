use Rattle.std.proofs.Common.{take}
use Rattle.vw_report.specs.ReportText.{AppendsFunctions}
use Rattle.vw_report.proofs.print_tables.push_functions.Given as goal

abbrev pub invariant-loop-function : goal.invariant-loop-function
invariant-loop-function l = AppendsFunctions (take l.function-index l.functions) l.initial.text l.text
