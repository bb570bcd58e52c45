use Rattle.std.proofs.Common.{ℕ, ap, ◌∙◌}
use Rattle.vw_values.specs.declared.value.Value.{Value}
use Rattle.vw_domain.specs.Abstract.{Abstract, abstract_of}
use Rattle.vw_domain.specs.Operands.{index_of}
use Rattle.vw_domain.specs.Statements.{compared_with}
use Rattle.vw_state.proofs.flags.set_flags.Goals as goal

pub returns-in-None-clause-form : goal.returns-in-None-clause-form
returns-in-None-clause-form c = rw c.in-None.is c.clear_flags.ensures.form

pub returns-in-None-clause-fits : goal.returns-in-None-clause-fits
returns-in-None-clause-fits c = c.clear_flags.ensures.fits _

pub returns-in_ok-compare-in-Some-clause-form : goal.returns-in_ok-compare-in-Some-clause-form
returns-in_ok-compare-in-Some-clause-form c =
    let st : Abstract = abstract_of c.args.state.now in
    rw c.in-Some.is
    (c.in_ok-compare-in-Some.ensures.form
    ∙ ap (λ (a : ℕ). compared_with st c.in-Some.compared.w a c.operand_known-value.result.value) c.number_of.ensures.number
    ∙ ap (λ (v : Value). compared_with st c.in-Some.compared.w (index_of c.in-Some.compared.a) v) c.operand_known-value.ensures.value)
