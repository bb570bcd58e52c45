use Rattle.std.proofs.Common.{ℕ, None, sym, subst, ap, ◌∙◌}
use Rattle.vw_stack.specs.declared.offset.Offset.TheVariants as offset
use Rattle.vw_values.specs.Values.{IsAmong}
use Rattle.vw_domain.specs.declared.registers.Register.{Register}
use Rattle.vw_domain.specs.Abstract.{Abstract, abstract_of}
use Rattle.vw_domain.specs.Addresses.{Address, value_of, address_of}
use Rattle.vw_domain.specs.Changes.{write}
use Rattle.vw_domain.specs.Memory.{load_source, load_value}
use Rattle.vw_domain.specs.Operands.{index_of}
use Rattle.vw_domain.specs.Sites.{Site as EquationSite}
use Rattle.vw_domain.specs.Statements.{copy_source}
use Rattle.vw_state.specs.Context.{equation_site}
use Rattle.vw_state.proofs.statements.change.Goals as goal

pub returns-in-Set-clause-form : goal.returns-in-Set-clause-form
returns-in-Set-clause-form c =
    rw c.in-Set.is (c.put.ensures.form ∙ ap (λ (k : Register). write (abstract_of c.args.state.now) (index_of c.in-Set.dst) None k.value k.offset) c.plain-known.ensures)

pub returns-in-Set-clause-fits : goal.returns-in-Set-clause-fits
returns-in-Set-clause-fits c = λ fits.
    c.put.ensures.fits _ fits (subst (λ (k : Register). IsAmong c.args.site.now.bounds.now k.value) (sym c.plain-known.ensures) tt)

pub returns-in_ok-copy_register-in-Copy-clause-form : goal.returns-in_ok-copy_register-in-Copy-clause-form
returns-in_ok-copy_register-in-Copy-clause-form c =
    let st : Abstract = abstract_of c.args.state.now in
    let from : ℕ = c.number_of-in-Copy.result in
    let to : ℕ = index_of c.in-Copy.dst in
    rw c.in-Copy.is
    (c.in_ok-copy_register-in-Copy.ensures.form
    ∙ (ap (λ (d : ℕ). write st d (copy_source d from) (value_of st from) (st.offsets from)) c.number_of.ensures.number
    ∙ ap (λ (s : ℕ). write st to (copy_source to s) (value_of st s) (st.offsets s)) c.number_of-in-Copy.ensures.number))

pub returns-in_ok-load-in-Load-clause-form : goal.returns-in_ok-load-in-Load-clause-form
returns-in_ok-load-in-Load-clause-form c =
    let st : Abstract = abstract_of c.args.state.now in
    let e : EquationSite = equation_site c.args.site.now c.args.next in
    let at : Address = address_of e st c.in-Load.mem in
    rw c.in-Load.is
    (c.in_ok-load-in-Load.ensures.form
    ∙ ap (λ (d : ℕ). write st d (load_source st at c.in-Load.size c.in-Load.signed) (load_value e st at c.in-Load.size c.in-Load.to c.in-Load.signed) offset.Unknown) c.number_of-in-Load.ensures.number)

pub returns-in-Narrow-clause-form : goal.returns-in-Narrow-clause-form
returns-in-Narrow-clause-form c =
    rw c.in-Narrow.is (c.put-in-Narrow.ensures.form ∙ ap (λ (k : Register). write (abstract_of c.args.state.now) (index_of c.in-Narrow.dst) None k.value k.offset) c.narrowed-known.ensures.is)

pub returns-in-Narrow-clause-fits : goal.returns-in-Narrow-clause-fits
returns-in-Narrow-clause-fits c = λ fits. c.put-in-Narrow.ensures.fits _ fits (c.narrowed-known.ensures.among fits)

pub returns-in-Sum-clause-form : goal.returns-in-Sum-clause-form
returns-in-Sum-clause-form c =
    rw c.in-Sum.is (c.put-in-Sum.ensures.form ∙ ap (λ (k : Register). write (abstract_of c.args.state.now) (index_of c.in-Sum.dst) None k.value k.offset) (c.summed-known.ensures.is c.args.next))

pub returns-in-Sum-clause-fits : goal.returns-in-Sum-clause-fits
returns-in-Sum-clause-fits c = λ fits. c.put-in-Sum.ensures.fits _ fits (c.summed-known.ensures.among fits)

pub returns-in-Lea-clause-form : goal.returns-in-Lea-clause-form
returns-in-Lea-clause-form c =
    rw c.in-Lea.is (c.put-in-Lea.ensures.form ∙ ap (λ (k : Register). write (abstract_of c.args.state.now) (index_of c.in-Lea.dst) None k.value k.offset) c.address_known-known.ensures.is)

pub returns-in-Lea-clause-fits : goal.returns-in-Lea-clause-fits
returns-in-Lea-clause-fits c = λ fits. c.put-in-Lea.ensures.fits _ fits (c.address_known-known.ensures.among fits)

pub returns-in-And-clause-form : goal.returns-in-And-clause-form
returns-in-And-clause-form c =
    rw c.in-And.is (c.put-in-And.ensures.form ∙ ap (λ (k : Register). write (abstract_of c.args.state.now) (index_of c.in-And.dst) None k.value k.offset) c.masked-known.ensures.is)

pub returns-in-And-clause-fits : goal.returns-in-And-clause-fits
returns-in-And-clause-fits c = λ fits. c.put-in-And.ensures.fits _ fits (c.masked-known.ensures.among fits)

pub returns-in-Shl-clause-form : goal.returns-in-Shl-clause-form
returns-in-Shl-clause-form c =
    rw c.in-Shl.is (c.put-in-Shl.ensures.form ∙ ap (λ (k : Register). write (abstract_of c.args.state.now) (index_of c.in-Shl.dst) None k.value k.offset) c.shifted-known.ensures.is)

pub returns-in-Shl-clause-fits : goal.returns-in-Shl-clause-fits
returns-in-Shl-clause-fits c = λ fits. c.put-in-Shl.ensures.fits _ fits (c.shifted-known.ensures.among fits)

pub returns-in-Open-clause-form : goal.returns-in-Open-clause-form
returns-in-Open-clause-form c =
    rw c.in-Open.is (c.put-in-Open.ensures.form ∙ ap (λ (k : Register). write (abstract_of c.args.state.now) (index_of c.in-Open.dst) None k.value k.offset) c.opened-known.ensures.is)

pub returns-in-Open-clause-fits : goal.returns-in-Open-clause-fits
returns-in-Open-clause-fits c = λ fits. c.put-in-Open.ensures.fits _ fits (c.opened-known.ensures.among fits)

pub returns-in-Choose-clause-form : goal.returns-in-Choose-clause-form
returns-in-Choose-clause-form c =
    rw c.in-Choose.is (c.put-in-Choose.ensures.form ∙ ap (λ (k : Register). write (abstract_of c.args.state.now) (index_of c.in-Choose.dst) None k.value k.offset) (c.chosen-known.ensures.is c.args.next))

pub returns-in-Choose-clause-fits : goal.returns-in-Choose-clause-fits
returns-in-Choose-clause-fits c = λ fits. c.put-in-Choose.ensures.fits _ fits (c.chosen-known.ensures.among fits)
