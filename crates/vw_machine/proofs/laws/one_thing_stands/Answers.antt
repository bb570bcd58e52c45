use Rattle.vw_machine.proofs.LawLemmas.{thing_stands_once}
use Rattle.vw_machine.proofs.laws.one_thing_stands.Goals as goal

pub returns : goal.returns
returns c = thing_stands_once c.one_spelling.ensures
