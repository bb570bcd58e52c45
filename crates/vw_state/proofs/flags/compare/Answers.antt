use Rattle.std.proofs.Common.{◌∙◌}
use Rattle.vw_domain.specs.Abstract.{abstract_of}
use Rattle.vw_state.proofs.Outcomes.{compared_none}
use Rattle.vw_state.proofs.flags.compare.Goals as goal

pub returns-in_default-clause-form : goal.returns-in_default-clause-form
returns-in_default-clause-form c = c.clear_flags.ensures.form ∙ compared_none (abstract_of c.args.state.now) c.args.width c.args.a c.args.value c.in_default.not-Const

pub returns-in_default-clause-fits : goal.returns-in_default-clause-fits
returns-in_default-clause-fits c = c.clear_flags.ensures.fits _

pub returns-in-Const-clause-form : goal.returns-in-Const-clause-form
returns-in-Const-clause-form c = rw c.in-Const.is c.compare_number.ensures.form
