use Rattle.vw_machine.proofs.LawLemmas.{trapped}
use Rattle.vw_machine.proofs.laws.guard_traps.Goals as goal

pub returns : goal.returns
returns c = trapped
