use Rattle.std.proofs.Common.{◌≡◌, ◌∙◌, ap, arith, below_more, refl, rules, sym}
use Rattle.std.proofs.lemmas.List.{ext_get_or}
use Rattle.std.specs.Prelude.{ℤ, pos}
use Rattle.vw_values.specs.declared.value.Value.{Value}
use Rattle.vw_values.specs.declared.value.Value.TheVariants.{Any}
use Rattle.vw_domain.proofs.SlotLemmas.{all_among, among_step, not_among, entry_at, entries_same, same_entry}
use Rattle.vw_domain.proofs.slots.are_slots_same.Goals as goal

pub returns-then-key-at : goal.returns-then-key-at
returns-then-key-at c = (
  λ never. absurd (cc),
  λ are.
      let read = entries_same c.args.slots.now c.args.other.now c.loop-i.i c.in-Some.key c.in-Some-nth.at c.in-Some.value.now c.in-Some-nth.same.now are.0 c.in-Some.ensures.entry c.in-Some-nth.ensures.entry in
      let keys : c.in-Some.key ≡ c.in-Some-nth.at = ap (λ (p : ℤ × Value). p.0) read in
      absurd (search rules),
)

pub returns-then-not-is_value_same : goal.returns-then-not-is_value_same
returns-then-not-is_value_same c = (
  λ never. absurd (cc),
  λ are.
      let read = entries_same c.args.slots.now c.args.other.now c.loop-i.i c.in-Some.key c.in-Some-nth.at c.in-Some.value.now c.in-Some-nth.same.now are.0 c.in-Some.ensures.entry c.in-Some-nth.ensures.entry in
      c.if-not-is_value_same.ensures.1 (ap (λ (p : ℤ × Value). p.1) read, not_among c.args.bounds.now c.args.other.now c.loop-i.i c.in-Some-nth.at c.in-Some-nth.same.now c.requires c.in-Some-nth.ensures.entry are.1),
)

pub loop-i-preserved : goal.loop-i-preserved
loop-i-preserved c =
    let keys : c.in-Some.key ≡ c.in-Some-nth.at = search rules in
    let are = c.if-not-is_value_same.ensures.0 refl in
    let slot = entry_at c.args.slots.now c.loop-i.i (c.in-Some.key, c.in-Some.value.now) c.in-Some.ensures.entry in
    let other = entry_at c.args.other.now c.loop-i.i (c.in-Some-nth.at, c.in-Some-nth.same.now) c.in-Some-nth.ensures.entry in
    record {
      same = λ d. below_more _ _ (c.loop-i.invariant.same d)
          (slot.is d ∙ (same_entry c.in-Some.key c.in-Some-nth.at c.in-Some.value.now c.in-Some-nth.same.now keys are.0 ∙ sym (other.is d)));
      among = λ d. among_step c.args.bounds.now c.args.other.now c.loop-i.i c.in-Some-nth.at c.in-Some-nth.same.now d c.in-Some-nth.ensures.entry are.1 (c.loop-i.invariant.among d);
    }

pub returns : goal.returns
returns c = (
  λ _. (
    ext_get_or (pos 0, Any) c.args.slots.now c.args.other.now (omega arith) (λ k within. c.loop-i.invariant.same (pos 0, Any) k (omega arith)),
    all_among c.args.bounds.now c.args.other.now (λ d k within. c.loop-i.invariant.among d k (omega arith)),
  ),
  λ _. refl,
)
