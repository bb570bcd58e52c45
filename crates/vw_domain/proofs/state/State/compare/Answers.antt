use Rattle.std.proofs.Common.{ap, ◌∙◌, Some, sym, subst}
use Rattle.vw_domain.specs.declared.parts.Fact.{Fact}
use Rattle.vw_domain.specs.declared.parts.Fact.TheVariants.{Compare}
use Rattle.vw_domain.specs.declared.parts.Parts.{Parts}
use Rattle.vw_domain.specs.State.{IsState, Fits}
use Rattle.vw_domain.specs.Abstract.{abstract_of}
use Rattle.vw_domain.specs.Changes.{set_flags}
use Rattle.vw_domain.proofs.FlagLemmas.{flags_form, flags_state}
use Rattle.vw_domain.proofs.state.State.compare.Goals as goal

pub invariant_of-self-2 : goal.invariant_of-self-2
invariant_of-self-2 c =
    let fact : Fact = Compare c.args.w c.args.k in
    let P : Parts → Type 0 = λ s. IsState (record s { fact = fact }) in
    subst P (sym c.follow_place.ensures.others)
    (flags_state c.deref_mut-parts.result.now c.follow_place.new.parts.classes fact (Some c.args.source) (subst IsState (sym c.deref_mut-parts.ensures.value) c.self.invariant) c.in_ok-follow_place.ensures.ok (c.follow_place.ensures.division (subst IsState (sym c.deref_mut-parts.ensures.value) c.self.invariant).classes) c.requires.fact)

pub returns-clause-ok : goal.returns-clause-ok
returns-clause-ok c =
    let fact : Fact = Compare c.args.w c.args.k in
    ap (λ (s : Parts). abstract_of (record s { fact = fact })) c.follow_place.ensures.others
    ∙ flags_form c.deref_mut-parts.result.now c.follow_place.new.parts.classes fact (Some c.args.source) (subst IsState (sym c.deref_mut-parts.ensures.value) c.self.invariant) c.in_ok-follow_place.ensures.ok
    ∙ ap (λ (s : Parts). set_flags (abstract_of s) (Some c.args.source) fact) (c.deref_mut-parts.ensures.value ∙ c.self.view_is)

pub returns-clause-fits : goal.returns-clause-fits
returns-clause-fits c = λ b fits.
    let fact : Fact = Compare c.args.w c.args.k in
    let fit : Fits b c.deref_mut-parts.result.now = subst (λ (s : Parts). Fits b s) (sym (c.deref_mut-parts.ensures.value ∙ c.self.view_is)) fits in
    subst (λ (s : Parts). Fits b (record s { fact = fact })) (sym c.follow_place.ensures.others) (record { registers = fit.registers; slots = fit.slots })
