use Rattle.std.proofs.Common.{ap, sym, subst, ◌∙◌, Some, refl}
use Rattle.vw_values.specs.declared.value.Value.{Value}
use Rattle.vw_domain.specs.declared.parts.Parts.{Parts}
use Rattle.vw_domain.specs.Registers.{OffsetFits}
use Rattle.vw_domain.specs.State.{IsState, Fits}
use Rattle.vw_domain.specs.Abstract.{abstract_of, value_of}
use Rattle.vw_domain.specs.Changes.{write}
use Rattle.vw_domain.proofs.WriteLemmas.{written_form, state_written, place_value, place_among, fits_written}
use Rattle.vw_domain.proofs.state.State.copy_to.Goals as goal

pub invariant_of-self-2 : goal.invariant_of-self-2
invariant_of-self-2 c =
    let parts : Parts = c.deref_mut-parts.result.now in
    let value : Value = value_of parts c.args.source in
    let fits : OffsetFits c.args.offset value = subst (λ (s : Parts). OffsetFits c.args.offset (value_of s c.args.source)) (sym (c.deref_mut-parts.ensures.value ∙ c.self.view_is)) c.requires.fits in
    state_written parts c.copy_place.new.parts c.args.register (Some c.args.source) value (record { offset = c.args.offset; value = value }) c.requires.register (subst IsState (sym c.deref_mut-parts.ensures.value) c.self.invariant) refl c.in_ok-copy_place.ensures.ok
    (record { value = place_value parts c.args.source (subst IsState (sym c.deref_mut-parts.ensures.value) c.self.invariant); offset = fits })

pub returns-clause-ok : goal.returns-clause-ok
returns-clause-ok c = λ v.
    let parts : Parts = c.deref_mut-parts.result.now in
    let value : Value = value_of parts c.args.source in
    written_form parts c.copy_place.new.parts c.args.register (Some c.args.source) v (record { offset = c.args.offset; value = value }) c.requires.register (subst IsState (sym c.deref_mut-parts.ensures.value) c.self.invariant) refl c.in_ok-copy_place.ensures.ok
    ∙ ap (λ (s : Parts). write (abstract_of s) c.args.register (Some c.args.source) v c.args.offset) (c.deref_mut-parts.ensures.value ∙ c.self.view_is)

pub returns-clause-fits : goal.returns-clause-fits
returns-clause-fits c = λ b fits.
    let parts : Parts = c.deref_mut-parts.result.now in
    let value : Value = value_of parts c.args.source in
    let fit : Fits b parts = subst (λ (s : Parts). Fits b s) (sym (c.deref_mut-parts.ensures.value ∙ c.self.view_is)) fits in
    fits_written parts c.copy_place.new.parts c.args.register (Some c.args.source) value (record { offset = c.args.offset; value = value }) c.requires.register (subst IsState (sym c.deref_mut-parts.ensures.value) c.self.invariant) refl c.in_ok-copy_place.ensures.ok b fit
    (place_among parts c.args.source b fit)
