use Rattle.vw_checks.proofs.Conditions.{stmt_passes, stmt_none, flow_passes, flow_none, insn_passes}
use Rattle.vw_checks.proofs.laws.checks_are_conditions.Goals as goal

pub returns-clause-statements : goal.returns-clause-statements
returns-clause-statements c = λ f next st x plain. (stmt_passes f next st x, stmt_none f next st x plain)

pub returns-clause-flows : goal.returns-clause-flows
returns-clause-flows c = λ f next st fl. (flow_passes f next st fl, flow_none f next st fl)

pub returns-clause-instructions : goal.returns-clause-instructions
returns-clause-instructions c = insn_passes
