use Rattle.vw_state.proofs.Displacements.{spelled_steps}
use Rattle.vw_state.proofs.laws.statements_have_displacements.Goals as goal

pub returns : goal.returns
returns c = λ code at i len bytes stands. spelled_steps c.spelled_is_listed.ensures c.lists_are_in_form.ensures _ i stands.spelled
