use Rattle.std.proofs.Common.{sym, subst, ◌∙◌}
use Rattle.vw_lattice.specs.Order.{TellsChange}
use Rattle.vw_domain.specs.declared.parts.Parts.{Parts}
use Rattle.vw_domain.specs.State.{IsState}
use Rattle.vw_domain.proofs.StateJoins.{joined_state, joined_valid, joined_least, joined}
use Rattle.vw_domain.proofs.state.StateLattice.join.Goals as goal

pub join-requires-clause-state : goal.join-requires-clause-state
join-requires-clause-state c = subst IsState (sym c.deref_mut.ensures.value) c.self.invariant

pub join-requires-clause-other : goal.join-requires-clause-other
join-requires-clause-other c = subst IsState (sym c.deref.ensures) c.other.invariant

pub invariant_of-self : goal.invariant_of-self
invariant_of-self c = joined_state c.args.bounds.now c.are_bounds.ensures c.deref_mut.result.now c.deref.result.now c.join.new.parts c.args.self.now c.args.other.now (c.deref_mut.ensures.value ∙ c.self.view_is) (c.deref.ensures ∙ c.other.view_is) (subst IsState (sym c.deref_mut.ensures.value) c.self.invariant) (subst IsState (sym c.deref.ensures) c.other.invariant) c.in-Ok.ensures.joins

pub returns-in-Ok-clause-kept : goal.returns-in-Ok-clause-kept
returns-in-Ok-clause-kept c = joined_valid c.args.bounds.now c.are_bounds.ensures c.deref_mut.result.now c.deref.result.now c.join.new.parts c.args.self.now c.args.other.now (c.deref_mut.ensures.value ∙ c.self.view_is) (c.deref.ensures ∙ c.other.view_is) (subst IsState (sym c.deref_mut.ensures.value) c.self.invariant) (subst IsState (sym c.deref.ensures) c.other.invariant) c.in-Ok.ensures.joins

pub returns-in-Ok-clause-join : goal.returns-in-Ok-clause-join
returns-in-Ok-clause-join c = joined c.args.bounds.now c.are_bounds.ensures c.deref_mut.result.now c.deref.result.now c.join.new.parts c.args.self.now c.args.other.now (c.deref_mut.ensures.value ∙ c.self.view_is) (c.deref.ensures ∙ c.other.view_is) (subst IsState (sym c.deref_mut.ensures.value) c.self.invariant) (subst IsState (sym c.deref.ensures) c.other.invariant) c.in-Ok.ensures.joins

pub returns-in-Ok-clause-changed : goal.returns-in-Ok-clause-changed
returns-in-Ok-clause-changed c = subst (λ (s : Parts). TellsChange c.in-Ok.changed s c.join.new.parts) (c.deref_mut.ensures.value ∙ c.self.view_is) c.in-Ok.ensures.told

pub returns-in-Ok-clause-formed : goal.returns-in-Ok-clause-formed
returns-in-Ok-clause-formed c = λ state other. joined_state c.args.bounds.now c.are_bounds.ensures c.deref_mut.result.now c.deref.result.now c.join.new.parts c.args.self.now c.args.other.now (c.deref_mut.ensures.value ∙ c.self.view_is) (c.deref.ensures ∙ c.other.view_is) (subst IsState (sym c.deref_mut.ensures.value) c.self.invariant) (subst IsState (sym c.deref.ensures) c.other.invariant) c.in-Ok.ensures.joins

pub returns-in-Ok-clause-least : goal.returns-in-Ok-clause-least
returns-in-Ok-clause-least c = λ state other. joined_least c.args.bounds.now c.are_bounds.ensures c.deref_mut.result.now c.deref.result.now c.join.new.parts c.args.self.now c.args.other.now (c.deref_mut.ensures.value ∙ c.self.view_is) (c.deref.ensures ∙ c.other.view_is) (subst IsState (sym c.deref_mut.ensures.value) c.self.invariant) (subst IsState (sym c.deref.ensures) c.other.invariant) c.in-Ok.ensures.joins
