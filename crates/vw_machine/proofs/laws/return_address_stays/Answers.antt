use Rattle.vw_machine.proofs.LawLemmas.{address_stays}
use Rattle.vw_machine.proofs.laws.return_address_stays.Goals as goal

pub returns : goal.returns
returns c m w top way a n laid framed = address_stays m w top way laid framed a n
