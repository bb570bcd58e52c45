use Rattle.std.proofs.Common.{arith}
use Rattle.vw_values.proofs.order.same.Goals as goal

pub returns-clause-same : goal.returns-clause-same
returns-clause-same c = λ h. grind arith

pub returns-clause-apart : goal.returns-clause-apart
returns-clause-apart c = λ differs e. grind arith
