use Rattle.vw_machine.proofs.LawLemmas.{not_in_image}
use Rattle.vw_machine.proofs.laws.image_stays.Goals as goal

pub returns : goal.returns
returns c m w top way a n q part laid framed = not_in_image m w top way laid framed a n q part
