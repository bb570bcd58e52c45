use Rattle.vw_lift.proofs.Simulates.{simulates}
use Rattle.vw_lift.proofs.laws.effect_is_a_run.Goals as goal

pub returns : goal.returns
returns c = λ i is. simulates i is
