use Rattle.vw_domain.proofs.Equations
use Rattle.vw_domain.proofs.equation_laws.branches_are_sound.Goals as goal

pub returns-clause-stand : goal.returns-clause-stand
returns-clause-stand c = Equations.branches_stand c.laws_of_values.ensures

pub returns-clause-rise : goal.returns-clause-rise
returns-clause-rise c = Equations.branches_rise c.laws_of_values.ensures
