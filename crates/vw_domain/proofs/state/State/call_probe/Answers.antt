use Rattle.std.proofs.Common.{ℕ, refl, sym, subst, ap, ◌∙◌}
use Rattle.vw_stack.specs.declared.offset.Offset.{Offset}
use Rattle.vw_values.specs.declared.value.Value.{Value}
use Rattle.vw_domain.specs.declared.gone.Gone.TheVariants.{Temporary}
use Rattle.vw_domain.specs.declared.parts.Parts.{Parts}
use Rattle.vw_domain.specs.declared.registers.Register.{Register}
use Rattle.vw_domain.specs.Registers.{register_at}
use Rattle.vw_domain.specs.State.{IsState, Fits}
use Rattle.vw_domain.specs.Abstract.{Abstract, abstract_of}
use Rattle.vw_domain.specs.Changes.{is_register}
use Rattle.vw_domain.specs.Stores.{Calls, IsCallOffset}
use Rattle.vw_domain.specs.Calls.{after_probe, deeper}
use Rattle.vw_domain.proofs.CallForms.{called_form}
use Rattle.vw_domain.proofs.CallStates.{call_offset, called_state, called_fits, deep_form, deep_state}
use Rattle.vw_domain.proofs.state.State.call_probe.Goals as goal

pub deeper-depth-requires-clause-offset : goal.deeper-depth-requires-clause-offset
deeper-depth-requires-clause-offset c =
    let r : Register = register_at c.deref_mut-parts.result.now.registers 4 in
    subst IsCallOffset (sym c.offset_at-offset.ensures) (call_offset r.offset r.value ((subst IsState (sym c.deref_mut-parts.ensures.value) c.self.invariant).registers.registers 4).offset)

pub deeper-depth-requires-clause-depth : goal.deeper-depth-requires-clause-depth
deeper-depth-requires-clause-depth c = (subst IsState (sym c.deref_mut-parts.ensures.value) c.self.invariant).probed

pub call-requires-clause-offset : goal.call-requires-clause-offset
call-requires-clause-offset c =
    let r : Register = register_at c.deref_mut-parts.result.now.registers 4 in
    subst IsCallOffset (sym c.offset_at-offset.ensures) (call_offset r.offset r.value ((subst IsState (sym c.deref_mut-parts.ensures.value) c.self.invariant).registers.registers 4).offset)

pub invariant_of-self-2 : goal.invariant_of-self-2
invariant_of-self-2 c =
    let r : Register = register_at c.deref_mut-parts.result.now.registers 4 in
    deep_state c.call.new.parts c.deeper-depth.result c.deeper-depth.ensures.within
    (called_state c.deref_mut-parts.result.now c.call.new.parts r.offset Temporary is_register (λ q. refl) (subst IsState (sym c.deref_mut-parts.ensures.value) c.self.invariant) (subst (λ (o : Offset). Calls o Temporary c.deref_mut-parts.result.now c.call.new.parts) c.offset_at-offset.ensures c.in_ok-call.ensures.ok)
    (call_offset r.offset r.value ((subst IsState (sym c.deref_mut-parts.ensures.value) c.self.invariant).registers.registers 4).offset))

pub returns-clause-ok : goal.returns-clause-ok
returns-clause-ok c =
    let r : Register = register_at c.deref_mut-parts.result.now.registers 4 in
    deep_form c.call.new.parts c.deeper-depth.result
    ∙ ap (λ (n : ℕ). record (abstract_of c.call.new.parts) { probed = n })
    (c.deeper-depth.ensures.depth
    ∙ ap (λ (v : Value). deeper v c.offset_at-offset.result c.deref_mut-parts.result.now.probed) c.value_at-count.ensures
    ∙ ap (λ (o : Offset). deeper (register_at c.deref_mut-parts.result.now.registers 0).value o c.deref_mut-parts.result.now.probed) c.offset_at-offset.ensures)
    ∙ ap (λ (st : Abstract). record st { probed = (after_probe (abstract_of c.deref_mut-parts.result.now)).probed })
    (called_form c.deref_mut-parts.result.now c.call.new.parts r.offset Temporary is_register (λ q. refl) (subst IsState (sym c.deref_mut-parts.ensures.value) c.self.invariant) (subst (λ (o : Offset). Calls o Temporary c.deref_mut-parts.result.now c.call.new.parts) c.offset_at-offset.ensures c.in_ok-call.ensures.ok))
    ∙ ap (λ (s : Parts). after_probe (abstract_of s)) (c.deref_mut-parts.ensures.value ∙ c.self.view_is)

pub returns-clause-fits : goal.returns-clause-fits
returns-clause-fits c = λ b fits.
    let r : Register = register_at c.deref_mut-parts.result.now.registers 4 in
    let fit : Fits b c.call.new.parts =
    called_fits c.deref_mut-parts.result.now c.call.new.parts r.offset Temporary is_register (λ q. refl) (subst IsState (sym c.deref_mut-parts.ensures.value) c.self.invariant) (subst (λ (o : Offset). Calls o Temporary c.deref_mut-parts.result.now c.call.new.parts) c.offset_at-offset.ensures c.in_ok-call.ensures.ok)
    (call_offset r.offset r.value ((subst IsState (sym c.deref_mut-parts.ensures.value) c.self.invariant).registers.registers 4).offset) b
    (subst (λ (s : Parts). Fits b s) (sym (c.deref_mut-parts.ensures.value ∙ c.self.view_is)) fits) in
    record { registers = fit.registers; slots = fit.slots }
