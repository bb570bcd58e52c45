use Rattle.vw_image.proofs.Spelled.{code_settled}
use Rattle.vw_image.proofs.laws.code_is_settled.Goals as goal

pub returns : goal.returns
returns c = code_settled
