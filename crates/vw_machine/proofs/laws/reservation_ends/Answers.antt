use Rattle.vw_machine.proofs.LawLemmas.{not_past}
use Rattle.vw_machine.proofs.laws.reservation_ends.Goals as goal

pub returns : goal.returns
returns c m w top way laid framed = not_past m w top way laid framed
