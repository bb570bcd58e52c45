use Rattle.vw_state.proofs.Sites.{code_size}
use Rattle.vw_state.proofs.laws.code_is_short.Goals as goal

pub returns : goal.returns
returns c = code_size
