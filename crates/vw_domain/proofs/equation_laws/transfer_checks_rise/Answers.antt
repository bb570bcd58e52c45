use Rattle.vw_domain.proofs.Equations
use Rattle.vw_domain.proofs.equation_laws.transfer_checks_rise.Goals as goal

pub returns-clause-transfers : goal.returns-clause-transfers
returns-clause-transfers c = Equations.transfer_checks_rise

pub returns-clause-values : goal.returns-clause-values
returns-clause-values c = Equations.value_checks_rise
