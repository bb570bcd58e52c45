use Rattle.vw_domain.proofs.Equations
use Rattle.vw_domain.proofs.equation_laws.statements_are_sound.Goals as goal

pub returns-clause-stand : goal.returns-clause-stand
returns-clause-stand c = Equations.statements_stand c.laws_of_values.ensures

pub returns-clause-rise : goal.returns-clause-rise
returns-clause-rise c = Equations.statements_rise c.laws_of_values.ensures

pub returns-clause-forms : goal.returns-clause-forms
returns-clause-forms c = Equations.statements_keep_forms c.laws_of_values.ensures

pub returns-clause-checks : goal.returns-clause-checks
returns-clause-checks c = Equations.checks_rise c.laws_of_values.ensures

pub returns-clause-accesses : goal.returns-clause-accesses
returns-clause-accesses c = Equations.accesses_permitted c.laws_of_values.ensures
