use Rattle.vw_state.proofs.Sizes.{code_length}
use Rattle.vw_state.proofs.laws.code_has_its_size.Goals as goal

pub returns : goal.returns
returns c = λ file f is listed. code_length c.functions_are_code.ensures c.segments_are_bounded.ensures file is f listed
