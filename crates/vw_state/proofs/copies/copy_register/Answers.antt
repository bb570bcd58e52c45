use Rattle.std.proofs.Common.{sym, subst, ◌∙◌}
use Rattle.vw_values.specs.Values.{IsAmong}
use Rattle.vw_domain.specs.Abstract.{Abstract, abstract_of}
use Rattle.vw_domain.specs.Addresses.{value_of}
use Rattle.vw_state.proofs.Loaded.{copy_same, copy_other}
use Rattle.vw_state.proofs.copies.copy_register.Goals as goal

pub returns-then-from-to-clause-form : goal.returns-then-from-to-clause-form
returns-then-from-to-clause-form c =
    c.write.ensures.form
    ∙ copy_same (abstract_of c.args.state.now) c.args.to c.args.from c.if-from-to.true _ _ _ _ c.register-known.ensures.value c.register-known.ensures.offset

pub returns-then-from-to-clause-fits : goal.returns-then-from-to-clause-fits
returns-then-from-to-clause-fits c = λ fits.
    c.write.ensures.fits _ fits (subst (IsAmong c.args.site.now.bounds.now) (sym c.register-known.ensures.value) (fits.registers c.args.from))

pub returns-clause-form : goal.returns-clause-form
returns-clause-form c =
    let st : Abstract = abstract_of c.args.state.now in
    c.in_ok-copy_to.ensures.ok (value_of st c.args.from)
    ∙ copy_other st c.args.to c.args.from c.if-from-to.false (value_of st c.args.from) _ _ c.register-known.ensures.offset

pub returns-clause-fits : goal.returns-clause-fits
returns-clause-fits c = c.in_ok-copy_to.ensures.fits _
