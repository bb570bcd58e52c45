use Rattle.vw_domain.proofs.Equations
use Rattle.vw_domain.proofs.equation_laws.calls_are_sound.Goals as goal

pub returns-clause-stand : goal.returns-clause-stand
returns-clause-stand c = Equations.calls_stand

pub returns-clause-rise : goal.returns-clause-rise
returns-clause-rise c = Equations.calls_rise

pub returns-clause-probes_rise : goal.returns-clause-probes_rise
returns-clause-probes_rise c = Equations.probes_rise

pub returns-clause-forms : goal.returns-clause-forms
returns-clause-forms c = Equations.calls_keep_forms

pub returns-clause-probes_stand : goal.returns-clause-probes_stand
returns-clause-probes_stand c = Equations.probes_stand
