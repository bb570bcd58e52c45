use Rattle.vw_image.proofs.Words.{word_at-numbered}
use Rattle.vw_image.proofs.laws.words_are_numbered.Goals as goal

pub returns : goal.returns
returns c = word_at-numbered
