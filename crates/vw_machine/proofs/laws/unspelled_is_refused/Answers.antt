use Rattle.vw_machine.proofs.LawLemmas.{refused}
use Rattle.vw_machine.proofs.laws.unspelled_is_refused.Goals as goal

pub returns : goal.returns
returns c = refused
