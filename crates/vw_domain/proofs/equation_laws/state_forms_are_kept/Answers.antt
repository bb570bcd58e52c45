use Rattle.vw_domain.proofs.FormSteps
use Rattle.vw_domain.proofs.equation_laws.state_forms_are_kept.Goals as goal

pub returns-clause-statements : goal.returns-clause-statements
returns-clause-statements c = FormSteps.statements_keep c.laws_of_values.ensures

pub returns-clause-lists : goal.returns-clause-lists
returns-clause-lists c = FormSteps.lists_keep c.laws_of_values.ensures

pub returns-clause-ends : goal.returns-clause-ends
returns-clause-ends c = FormSteps.ends_keep c.laws_of_values.ensures

pub returns-clause-calls : goal.returns-clause-calls
returns-clause-calls c = FormSteps.calls_keep

pub returns-clause-probes : goal.returns-clause-probes
returns-clause-probes c = FormSteps.probes_keep

pub returns-clause-edges : goal.returns-clause-edges
returns-clause-edges c = FormSteps.edges_keep c.laws_of_values.ensures
