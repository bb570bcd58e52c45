use Rattle.vw_values.proofs.GreaterValues as values
use Rattle.vw_values.proofs.laws.joins_are_least.Goals as goal

pub returns : goal.returns
returns c = record { least = values.joins-are-least; numbers = values.numbers-join }
