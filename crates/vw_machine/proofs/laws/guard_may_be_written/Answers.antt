use Rattle.vw_machine.proofs.LawLemmas.{in_guard}
use Rattle.vw_machine.proofs.laws.guard_may_be_written.Goals as goal

pub returns : goal.returns
returns c = in_guard
