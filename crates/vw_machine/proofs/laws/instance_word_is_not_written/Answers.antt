use Rattle.vw_machine.proofs.LawLemmas.{word_stays}
use Rattle.vw_machine.proofs.laws.instance_word_is_not_written.Goals as goal

pub returns : goal.returns
returns c m w top way a n laid framed = word_stays m w top way laid framed a n
