-- A word that is filled byte by byte.
use Rattle.std.proofs.Common.{◌≡◌, ℕ, ◌+◌, ◌<◌, ◌≤◌, List, length, set, slice_index, sym, ◌∙◌, subst, inl, inr, arith}
use Rattle.std.proofs.lemmas.List.{get_or-set_same, get_or-set_other}
use Rattle.std.proofs.lemmas.Bool.Decides.{eqb_tells}

pub written : (word : List ℕ) (f : ℕ → ℕ) (a k x j : ℕ) → k < length word → x ≡ f (a + k) → ((i : ℕ) → i < k → slice_index word i ≡ f (a + i)) → j < k + 1 → slice_index (set word k x) j ≡ f (a + j)
written word f a k x j inside is before below =
    elim (eqb_tells j k) [
      | inl e ↦ subst (λ (i : ℕ). slice_index (set word k x) i ≡ f (a + i)) (sym e.1) (get_or-set_same word k x 0 inside ∙ is)
      | inr e ↦ get_or-set_other word k j x 0 e.1 ∙ before j (omega (arith, e.1, below))
    ]

pub untouched : (word : List ℕ) (k x j : ℕ) → ((i : ℕ) → k ≤ i → slice_index word i ≡ 0) → k + 1 ≤ j → slice_index (set word k x) j ≡ 0
untouched word k x j rest above = get_or-set_other word k j x 0 (λ (e : j ≡ k). absurd (omega arith)) ∙ rest j (omega arith)
