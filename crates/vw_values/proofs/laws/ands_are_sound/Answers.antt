use Rattle.vw_values.proofs.MaskLemmas.{ands-valid, ands-rise, ands-stand}
use Rattle.vw_values.proofs.laws.ands_are_sound.Goals as goal

pub returns : goal.returns
returns c = record { valid = ands-valid; rise = ands-rise; stand = ands-stand }
