use Rattle.std.proofs.Common.{◌-◌, List, length}
use Rattle.vw_state.specs.declared.tables.FunctionTable.{FunctionTable}
use Rattle.vw_verdict.specs.search.Findings.{AreKept}
use Rattle.vw_verdict.proofs.Steps.{Going}
use Rattle.vw_verdict.proofs.module.judge_each.Given as goal

abbrev pub invariant-loop-number : goal.invariant-loop-number
invariant-loop-number g l = (all : List FunctionTable) × AreKept l.keeps l.tables all × Going l.loaded l.number all l.fn.steps l.steps

abbrev pub decreases-loop-number : goal.decreases-loop-number
decreases-loop-number g l = length l.functions - l.number
