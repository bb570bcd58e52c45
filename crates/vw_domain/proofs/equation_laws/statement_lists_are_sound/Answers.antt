use Rattle.vw_domain.proofs.Equations
use Rattle.vw_domain.proofs.equation_laws.statement_lists_are_sound.Goals as goal

pub returns-clause-rise : goal.returns-clause-rise
returns-clause-rise c = Equations.lists_rise c.laws_of_values.ensures

pub returns-clause-forms : goal.returns-clause-forms
returns-clause-forms c = Equations.lists_keep_forms c.laws_of_values.ensures

pub returns-clause-checks : goal.returns-clause-checks
returns-clause-checks c = Equations.list_checks_rise c.laws_of_values.ensures
