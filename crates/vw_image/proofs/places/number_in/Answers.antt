use Rattle.std.proofs.Common.{◌≡◌, ℕ, ◌+◌, ◌<◌, ◌≤◌, List, length, set, slice_index, sym, ◌∙◌, subst, inl, inr, arith}
use Rattle.std.proofs.lemmas.List.{get_or-set_same, get_or-set_other}
use Rattle.std.proofs.lemmas.Bool.Decides.{eqb_tells}
use Rattle.std.proofs.lemmas.Grind.{common_steps}
use Rattle.vw_image.specs.Image.{segment_byte}
use Rattle.vw_image.proofs.Numbers.{field-from_bytes}
use Rattle.vw_image.proofs.places.number_in.Goals as goal

written : (word : List ℕ) (f : ℕ → ℕ) (a k x j : ℕ) → k < length word → x ≡ f (a + k) → ((i : ℕ) → i < k → slice_index word i ≡ f (a + i)) → j < k + 1 → slice_index (set word k x) j ≡ f (a + j)
written word f a k x j inside is before below =
    elim (eqb_tells j k) [
      | inl e ↦ subst (λ (i : ℕ). slice_index (set word k x) i ≡ f (a + i)) (sym e.1) (get_or-set_same word k x 0 inside ∙ is)
      | inr e ↦ get_or-set_other word k j x 0 e.1 ∙ before j (omega (arith, e.1, below))
    ]

untouched : (word : List ℕ) (k x j : ℕ) → ((i : ℕ) → k ≤ i → slice_index word i ≡ 0) → k + 1 ≤ j → slice_index (set word k x) j ≡ 0
untouched word k x j rest above = get_or-set_other word k j x 0 (λ (e : j ≡ k). absurd (omega arith)) ∙ rest j (omega arith)

pub loop-k-preserved : goal.loop-k-preserved
loop-k-preserved c =
    let f = segment_byte c.args.bytes.now c.args.segment.now in
    let inside : c.loop-k.k < length c.loop-k.word = omega (arith, c.loop-k.invariant.long) in
    record {
      long = grind (arith, common_steps);
      same = λ j below. written c.loop-k.word f c.args.address c.loop-k.k c.byte_at.result j inside c.byte_at.ensures c.loop-k.invariant.same below;
      rest = λ j above. untouched c.loop-k.word c.loop-k.k c.byte_at.result j c.loop-k.invariant.rest above;
    }

pub returns : goal.returns
returns c =
    let f = segment_byte c.args.bytes.now c.args.segment.now in
    let size : c.loop-k.k ≡ c.args.size = omega arith in
    let value = rw c.unwrap.ensures at c.read_u64.ensures.value in
    value ∙ field-from_bytes c.loop-k.word f c.args.address c.args.size c.requires.short (λ k inside. c.loop-k.invariant.same k (omega arith)) (λ k past. c.loop-k.invariant.rest k (omega arith))
