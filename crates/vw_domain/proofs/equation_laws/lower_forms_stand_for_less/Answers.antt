use Rattle.vw_domain.proofs.Equations
use Rattle.vw_domain.proofs.equation_laws.lower_forms_stand_for_less.Goals as goal

pub returns : goal.returns
returns c = Equations.lower_forms c.laws_of_values.ensures
