use Rattle.std.proofs.Common.{refl, sym, subst, ap, ◌∙◌}
use Rattle.vw_stack.specs.declared.offset.Offset.{Offset}
use Rattle.vw_domain.specs.declared.gone.Gone.TheVariants.{Unsaved}
use Rattle.vw_domain.specs.declared.parts.Parts.{Parts}
use Rattle.vw_domain.specs.declared.registers.Register.{Register}
use Rattle.vw_domain.specs.Registers.{register_at}
use Rattle.vw_domain.specs.State.{IsState, Fits}
use Rattle.vw_domain.specs.Abstract.{abstract_of}
use Rattle.vw_domain.specs.Changes.{is_kept}
use Rattle.vw_domain.specs.Stores.{Calls, IsCallOffset}
use Rattle.vw_domain.specs.Calls.{after_call}
use Rattle.vw_domain.proofs.CallForms.{called_form}
use Rattle.vw_domain.proofs.CallStates.{call_offset, called_state, called_fits}
use Rattle.vw_domain.proofs.state.State.call.Goals as goal

pub call-requires-clause-offset : goal.call-requires-clause-offset
call-requires-clause-offset c =
    let r : Register = register_at c.deref_mut-parts.result.now.registers 4 in
    subst IsCallOffset (sym c.offset_at-offset.ensures) (call_offset r.offset r.value ((subst IsState (sym c.deref_mut-parts.ensures.value) c.self.invariant).registers.registers 4).offset)

pub invariant_of-self-2 : goal.invariant_of-self-2
invariant_of-self-2 c =
    let r : Register = register_at c.deref_mut-parts.result.now.registers 4 in
    called_state c.deref_mut-parts.result.now c.call.new.parts r.offset Unsaved is_kept (λ q. refl) (subst IsState (sym c.deref_mut-parts.ensures.value) c.self.invariant) (subst (λ (o : Offset). Calls o Unsaved c.deref_mut-parts.result.now c.call.new.parts) c.offset_at-offset.ensures c.in_ok-call.ensures.ok)
    (call_offset r.offset r.value ((subst IsState (sym c.deref_mut-parts.ensures.value) c.self.invariant).registers.registers 4).offset)

pub returns-clause-ok : goal.returns-clause-ok
returns-clause-ok c =
    let r : Register = register_at c.deref_mut-parts.result.now.registers 4 in
    called_form c.deref_mut-parts.result.now c.call.new.parts r.offset Unsaved is_kept (λ q. refl) (subst IsState (sym c.deref_mut-parts.ensures.value) c.self.invariant) (subst (λ (o : Offset). Calls o Unsaved c.deref_mut-parts.result.now c.call.new.parts) c.offset_at-offset.ensures c.in_ok-call.ensures.ok)
    ∙ ap (λ (s : Parts). after_call (abstract_of s)) (c.deref_mut-parts.ensures.value ∙ c.self.view_is)

pub returns-clause-fits : goal.returns-clause-fits
returns-clause-fits c = λ b fits.
    let r : Register = register_at c.deref_mut-parts.result.now.registers 4 in
    called_fits c.deref_mut-parts.result.now c.call.new.parts r.offset Unsaved is_kept (λ q. refl) (subst IsState (sym c.deref_mut-parts.ensures.value) c.self.invariant) (subst (λ (o : Offset). Calls o Unsaved c.deref_mut-parts.result.now c.call.new.parts) c.offset_at-offset.ensures c.in_ok-call.ensures.ok)
    (call_offset r.offset r.value ((subst IsState (sym c.deref_mut-parts.ensures.value) c.self.invariant).registers.registers 4).offset) b
    (subst (λ (s : Parts). Fits b s) (sym (c.deref_mut-parts.ensures.value ∙ c.self.view_is)) fits)
