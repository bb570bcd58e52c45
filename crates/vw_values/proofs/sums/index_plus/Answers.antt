use Rattle.std.proofs.Common.{rules}
use Rattle.vw_values.proofs.sums.index_plus.Goals as goal

pub returns-in_default : goal.returns-in_default
returns-in_default c = search rules
