use Rattle.vw_machine.proofs.LawLemmas.{whole_word}
use Rattle.vw_machine.proofs.laws.instance_word_is_read_whole.Goals as goal

pub returns : goal.returns
returns c m w top way a n laid framed = whole_word m w top way laid framed a n
