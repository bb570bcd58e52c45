use Rattle.std.proofs.Common.{◌≡◌, ◌∙◌, sym, subst, inl, inr, arith, w64, to_z, of_z}
use Rattle.std.proofs.lemmas.Int.{ints}
use Rattle.std.specs.Prelude.{ℤ, pos, ◌-ℤ◌, ◌≤ℤ◌, ◌<ℤ◌, ◌^◌}
use Rattle.vw_locals.specs.Ranges.{is_written, is_between}
use Rattle.vw_domain.specs.declared.parts.Parts.{Parts}
use Rattle.vw_domain.specs.State.{IsState}
use Rattle.vw_domain.proofs.LeaveLemmas.{between_low, between_high}
use Rattle.vw_domain.proofs.Lowers.{or_cases}
use Rattle.vw_domain.proofs.state.State.add_written.Goals as goal

in_frame : (low high x : ℤ) → (pos 0 -ℤ pos (2 ^ 32)) ≤ℤ low → high ≤ℤ pos 0 → low ≤ℤ x → x <ℤ high → ((pos 0 -ℤ pos (2 ^ 32)) ≤ℤ x) × (x <ℤ pos 0)
in_frame low high x first last from to = (omega (arith, ints), omega (arith, ints))

pub invariant_of-self-2 : goal.invariant_of-self-2
invariant_of-self-2 c =
    let low : ℤ = to_z w64 (of_z w64 c.args.low) in
    let high : ℤ = to_z w64 (of_z w64 c.args.high) in
    let from : low ≡ c.args.low = omega (arith, ints) in
    let to : high ≡ c.args.high = omega (arith, ints) in
    let first : (pos 0 -ℤ pos (2 ^ 32)) ≤ℤ low = subst (λ (z : ℤ). (pos 0 -ℤ pos (2 ^ 32)) ≤ℤ z) (sym from) c.requires.low in
    let last : high ≤ℤ pos 0 = subst (λ (z : ℤ). z ≤ℤ pos 0) (sym to) c.requires.high in
    let old : Parts = c.deref_mut-parts.result.now in
    let is : IsState old = subst IsState (sym c.deref_mut-parts.ensures.value) c.self.invariant in
    record {
      registers = is.registers;
      probed = is.probed;
      ranges = c.add.ensures.ranges;
      frame = λ x h. elim (or_cases (is_between low high x) (is_written old.written x) (sym (c.in_ok-add.ensures.ok x) ∙ h)) [
        | inl new ↦ in_frame low high x first last (between_low low high x new) (between_high low high x new)
        | inr held ↦ is.frame x held
      ];
      slots = is.slots;
      classes = is.classes;
      named = is.named;
      fact = is.fact;
    }
