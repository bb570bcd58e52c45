use Rattle.vw_image.proofs.Spelled.{settled}
use Rattle.vw_image.proofs.laws.readable_is_settled.Goals as goal

pub returns : goal.returns
returns c = settled
