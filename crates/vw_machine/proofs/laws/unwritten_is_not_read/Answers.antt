use Rattle.vw_machine.proofs.LawLemmas.{not_unwritten}
use Rattle.vw_machine.proofs.laws.unwritten_is_not_read.Goals as goal

pub returns : goal.returns
returns c m w top way a n q laid framed = not_unwritten m w top way laid framed a n q
