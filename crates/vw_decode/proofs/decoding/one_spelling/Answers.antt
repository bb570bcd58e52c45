use Rattle.vw_decode.proofs.Whole.{no_spelling_begins}
use Rattle.vw_decode.proofs.decoding.one_spelling.Goals as goal

pub returns : goal.returns
returns c = λ a b x y i j s t e. no_spelling_begins a b x y i j s t e
