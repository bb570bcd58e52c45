use Rattle.vw_values.proofs.ValidSums.{sums-valid}
use Rattle.vw_values.proofs.RisingSums.{sums-rise}
use Rattle.vw_values.proofs.SoundSums.{sums-stand}
use Rattle.vw_values.proofs.laws.sums_are_sound.Goals as goal

pub returns : goal.returns
returns c = record { valid = sums-valid; rise = sums-rise; stand = sums-stand }
