use Rattle.vw_values.proofs.ValidSums.{differences-valid}
use Rattle.vw_values.proofs.DifferenceLemmas.{differences-rise, differences-stand}
use Rattle.vw_values.proofs.laws.differences_are_sound.Goals as goal

pub returns : goal.returns
returns c = record { valid = differences-valid; rise = differences-rise; stand = differences-stand }
