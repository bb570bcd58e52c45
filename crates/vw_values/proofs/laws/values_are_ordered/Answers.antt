use Rattle.vw_values.specs.ValueOrder.{value-reflexive, value-trans, value-antisym}
use Rattle.vw_values.proofs.laws.values_are_ordered.Goals as goal

pub returns : goal.returns
returns c = record { reflexive = value-reflexive; transitive = value-trans; antisymmetric = value-antisym }
