use Rattle.vw_values.proofs.GreaterValues.{greater-stands, across-registers}
use Rattle.vw_values.proofs.laws.values_stand.Goals as goal

pub returns : goal.returns
returns c = record { greater = greater-stands; registers = across-registers }
