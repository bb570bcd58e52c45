use Rattle.vw_domain.specs.State.{IsState, Fits}
use Rattle.std.proofs.Common.{sym, subst, ap, ◌∙◌, None}
use Rattle.vw_domain.specs.declared.parts.Fact.TheVariants.{Unknown}
use Rattle.vw_domain.specs.declared.parts.Parts.{Parts}
use Rattle.vw_domain.specs.Abstract.{abstract_of}
use Rattle.vw_domain.specs.Changes.{set_flags}
use Rattle.vw_domain.proofs.FlagLemmas.{flags_form, flags_state}
use Rattle.vw_domain.proofs.state.State.clear_flags.Goals as goal

pub invariant_of-self : goal.invariant_of-self
invariant_of-self c = flags_state c.deref_mut-parts.result.now c.leave.new.self Unknown None (subst IsState (sym c.deref_mut-parts.ensures.value) c.self.invariant) c.leave.ensures.leaves c.leave.ensures.division tt

pub returns-clause-form : goal.returns-clause-form
returns-clause-form c =
    flags_form c.deref_mut-parts.result.now c.leave.new.self Unknown None (subst IsState (sym c.deref_mut-parts.ensures.value) c.self.invariant) c.leave.ensures.leaves
    ∙ ap (λ (s : Parts). set_flags (abstract_of s) None Unknown) (c.deref_mut-parts.ensures.value ∙ c.self.view_is)

pub returns-clause-fits : goal.returns-clause-fits
returns-clause-fits c = λ b fits.
    let fit : Fits b c.deref_mut-parts.result.now = subst (λ (s : Parts). Fits b s) (sym (c.deref_mut-parts.ensures.value ∙ c.self.view_is)) fits in
    record { registers = fit.registers; slots = fit.slots }
