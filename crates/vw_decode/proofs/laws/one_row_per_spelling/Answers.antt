use Rattle.vw_decode.proofs.Whole.{one_row}
use Rattle.vw_decode.proofs.laws.one_row_per_spelling.Goals as goal

pub returns : goal.returns
returns c = λ bytes i j s t. one_row bytes i j s t
