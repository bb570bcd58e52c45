use Rattle.vw_image.proofs.Spelled.{spelled}
use Rattle.vw_image.proofs.laws.words_spell.Goals as goal

pub returns : goal.returns
returns c = λ image is a size _ base hosts small. spelled image is a size base hosts small
