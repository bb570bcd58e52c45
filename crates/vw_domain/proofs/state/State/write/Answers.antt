use Rattle.vw_domain.specs.State.{IsState, Fits}
use Rattle.std.proofs.Common.{sym, subst, ap, ◌∙◌, None, refl}
use Rattle.vw_domain.specs.declared.parts.Parts.{Parts}
use Rattle.vw_domain.specs.Abstract.{abstract_of}
use Rattle.vw_domain.specs.Changes.{write}
use Rattle.vw_domain.proofs.WriteLemmas.{written_form, state_written, fits_written}
use Rattle.vw_domain.proofs.state.State.write.Goals as goal

pub invariant_of-self : goal.invariant_of-self
invariant_of-self c = state_written c.deref_mut-parts.result.now c.write.new.parts c.args.register None c.args.known.value c.args.known c.requires.register (subst IsState (sym c.deref_mut-parts.ensures.value) c.self.invariant) refl c.write.ensures c.requires.known

pub returns-clause-form : goal.returns-clause-form
returns-clause-form c =
    written_form c.deref_mut-parts.result.now c.write.new.parts c.args.register None c.args.known.value c.args.known c.requires.register (subst IsState (sym c.deref_mut-parts.ensures.value) c.self.invariant) refl c.write.ensures
    ∙ ap (λ (s : Parts). write (abstract_of s) c.args.register None c.args.known.value c.args.known.offset) (c.deref_mut-parts.ensures.value ∙ c.self.view_is)

pub returns-clause-fits : goal.returns-clause-fits
returns-clause-fits c = λ b fits among.
    fits_written c.deref_mut-parts.result.now c.write.new.parts c.args.register None c.args.known.value c.args.known c.requires.register (subst IsState (sym c.deref_mut-parts.ensures.value) c.self.invariant) refl c.write.ensures b
    (subst (λ (s : Parts). Fits b s) (sym (c.deref_mut-parts.ensures.value ∙ c.self.view_is)) fits) among
