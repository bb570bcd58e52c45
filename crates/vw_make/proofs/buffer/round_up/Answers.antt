use Rattle.std.proofs.Common.{refl}
use Rattle.vw_make.specs.Bytes.{rounded_up}
use Rattle.vw_make.proofs.buffer.round_up.Goals as goal

pub returns-clause-value : goal.returns-clause-value
unfolding rounded_up
returns-clause-value c = refl
