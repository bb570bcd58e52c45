use Rattle.vw_domain.proofs.FormParts
use Rattle.vw_domain.proofs.FormsOfStates
use Rattle.vw_domain.proofs.MoreBounds
use Rattle.vw_domain.proofs.laws.states_have_forms.Goals as goal

pub returns-clause-forms : goal.returns-clause-forms
returns-clause-forms c = FormsOfStates.states_have_forms

pub returns-clause-bounds : goal.returns-clause-bounds
returns-clause-bounds c = MoreBounds.states_name_bounds

pub returns-clause-states : goal.returns-clause-states
returns-clause-states c = FormParts.forms_are_of_states

pub returns-clause-built : goal.returns-clause-built
returns-clause-built c = FormParts.state_of_forms
