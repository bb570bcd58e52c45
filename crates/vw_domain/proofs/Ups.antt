-- The least bound that is not below a number.
use Rattle.std.proofs.Common.{◌≡◌, ℕ, ◌<◌, ◌≤◌, inl, inr, ⊎_elim, List, [], ◌∷◌, Option, Some, None, refl, sym, subst, arith}
use Rattle.std.specs.Prelude.{Bool, true, false, nat_le, if◌then◌else◌}
use Rattle.std.proofs.lemmas.Bool.Decides.{nat_tests}
use Rattle.vw_values.specs.Bounds.{IsMember, IsAscending, first_from}

some_is : {a b : ℕ} → Some a ≡ Some b → a ≡ b
some_is e = cc

none_is : {a : ℕ} → ◌≡◌ {A = Option ℕ} None (Some a) → ⊥
none_is e = cc

le_of : (a b : ℕ) → nat_le a b ≡ true → a ≤ b
le_of a b e = grind (arith, nat_tests)

lt_of : (a b : ℕ) → nat_le a b ≡ false → b < a
lt_of a b e = grind (arith, nat_tests)

pub first_covers : (b : List ℕ) (k u : ℕ) → first_from k b ≡ Some u → k ≤ u
first_covers [] k u e = absurd (none_is e)
first_covers (m ∷ ms) k u e = by_test (nat_le k m) refl (λ e. first_covers ms k u e) e
  where
    by_test : (t : Bool) → nat_le k m ≡ t → (first_from k ms ≡ Some u → k ≤ u) → (if t then Some m else first_from k ms) ≡ Some u → k ≤ u
    by_test true f h e = subst (λ x. k ≤ x) (some_is e) (le_of k m f)
    by_test false f h e = h e

pub first_member : (b : List ℕ) (k u : ℕ) → first_from k b ≡ Some u → IsMember b u
first_member [] k u e = absurd (none_is e)
first_member (m ∷ ms) k u e = by_test (nat_le k m) (λ e. first_member ms k u e) e
  where
    by_test : (t : Bool) → (first_from k ms ≡ Some u → IsMember ms u) → (if t then Some m else first_from k ms) ≡ Some u → IsMember (m ∷ ms) u
    by_test true h e = inl (some_is e)
    by_test false h e = inr (h e)

pub first_least : (b : List ℕ) → IsAscending b → (k u j : ℕ) → first_from k b ≡ Some u → IsMember b j → k ≤ j → u ≤ j
first_least [] asc k u j e i h = absurd (none_is e)
first_least (m ∷ ms) asc k u j e i h = by_test (nat_le k m) refl (λ e a. first_least ms asc.1 k u j e a h) e
  where
    least : m ≤ j
    least = ⊎_elim (λ (a : m ≡ j). omega arith) (λ (a : IsMember ms j). let l = asc.0 j a in omega arith) i

    by_test : (t : Bool) → nat_le k m ≡ t → (first_from k ms ≡ Some u → IsMember ms j → u ≤ j) → (if t then Some m else first_from k ms) ≡ Some u → u ≤ j
    by_test true f r e = subst (λ x. x ≤ j) (some_is e) least
    by_test false f r e = ⊎_elim (λ (a : m ≡ j). absurd (let l = lt_of k m f in omega arith)) (λ (a : IsMember ms j). r e a) i

pub first_none : (b : List ℕ) (k j : ℕ) → first_from k b ≡ None → IsMember b j → j < k
first_none [] k j e i = absurd i
first_none (m ∷ ms) k j e i = by_test (nat_le k m) refl (λ e a. first_none ms k j e a) e
  where
    by_test : (t : Bool) → nat_le k m ≡ t → (first_from k ms ≡ None → IsMember ms j → j < k) → (if t then Some m else first_from k ms) ≡ None → j < k
    by_test true f r e = absurd (none_is (sym e))
    by_test false f r e = ⊎_elim (λ (a : m ≡ j). let l = lt_of k m f in omega arith) (λ (a : IsMember ms j). r e a) i
