use Rattle.vw_domain.specs.State.{IsState, Fits}
use Rattle.std.proofs.Common.{sym, subst, ap, ◌∙◌}
use Rattle.vw_domain.specs.declared.parts.Parts.{Parts}
use Rattle.vw_domain.specs.Abstract.{abstract_of}
use Rattle.vw_domain.specs.Changes.{lose_slots}
use Rattle.vw_domain.proofs.LossLemmas.{Loses, loss_form, loss_state, loss_fits}
use Rattle.vw_domain.proofs.state.State.lose_slots.Goals as goal

loses : (c : goal.After-self-1) → Loses c.deref_mut-parts.result.now c.cut_range.new.self c.leave_slots.new.self
loses c = record {
  ascending = c.cut_range.ensures.ascending;
  inside = c.cut_range.ensures.inside;
  outside = c.cut_range.ensures.outside;
  leaves = c.leave_slots.ensures.leaves;
  division = c.leave_slots.ensures.division;
}

pub invariant_of-self : goal.invariant_of-self
invariant_of-self c = loss_state c.deref_mut-parts.result.now c.cut_range.new.self c.leave_slots.new.self (subst IsState (sym c.deref_mut-parts.ensures.value) c.self.invariant) (loses c)

pub returns-clause-form : goal.returns-clause-form
returns-clause-form c =
    loss_form c.deref_mut-parts.result.now c.cut_range.new.self c.leave_slots.new.self (subst IsState (sym c.deref_mut-parts.ensures.value) c.self.invariant) (loses c)
    ∙ ap (λ (s : Parts). lose_slots (abstract_of s)) (c.deref_mut-parts.ensures.value ∙ c.self.view_is)

pub returns-clause-fits : goal.returns-clause-fits
returns-clause-fits c = λ b fits.
    loss_fits c.deref_mut-parts.result.now c.cut_range.new.self c.leave_slots.new.self (subst IsState (sym c.deref_mut-parts.ensures.value) c.self.invariant) (loses c) b
    (subst (λ (s : Parts). Fits b s) (sym (c.deref_mut-parts.ensures.value ∙ c.self.view_is)) fits)
