use Rattle.vw_values.proofs.GreaterValues as values
use Rattle.vw_values.proofs.laws.joins_rise.Goals as goal

pub returns : goal.returns
returns c = record { rise = values.joins-rise; bounds = values.least-bounds-rise }
