use Rattle.std.proofs.Common.{rules}
use Rattle.vw_values.proofs.refinement.cut.Goals as goal

pub returns-then-u-lt-WHOLE : goal.returns-then-u-lt-WHOLE
returns-then-u-lt-WHOLE c = search rules
