use Rattle.vw_domain.proofs.Lowers.{lower_form, lower_stands}
use Rattle.vw_domain.proofs.laws.lower_states_stand_for_less.Goals as goal

pub returns-clause-form : goal.returns-clause-form
returns-clause-form c = λ s t is_s is_t below. lower_form s t is_s is_t below

pub returns-clause-meaning : goal.returns-clause-meaning
returns-clause-meaning c = λ s t m is_s is_t below stands. (stands.0, lower_stands s t is_s is_t below c.values_stand.ensures.greater m stands.0 stands.1)
