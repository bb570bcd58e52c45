use Rattle.vw_domain.proofs.FormOrder.{form_down, one_state}
use Rattle.vw_domain.proofs.Lowers.{lower_form}
use Rattle.vw_domain.proofs.laws.forms_tell_states.Goals as goal

pub returns-clause-order : goal.returns-clause-order
returns-clause-order c = λ s t is_s is_t. (λ below. lower_form s t is_s is_t below, λ form. form_down s t is_t form)

pub returns-clause-states : goal.returns-clause-states
returns-clause-states c = λ s t is_s is_t form. one_state s t is_s is_t form
