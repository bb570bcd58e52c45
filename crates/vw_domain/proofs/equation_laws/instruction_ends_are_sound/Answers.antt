use Rattle.vw_domain.proofs.Equations
use Rattle.vw_domain.proofs.equation_laws.instruction_ends_are_sound.Goals as goal

pub returns-clause-stand : goal.returns-clause-stand
returns-clause-stand c = Equations.ends_stand

pub returns-clause-rise : goal.returns-clause-rise
returns-clause-rise c = Equations.ends_rise

pub returns-clause-forms : goal.returns-clause-forms
returns-clause-forms c = Equations.ends_keep_forms c.laws_of_values.ensures
