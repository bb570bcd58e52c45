-- The least member of an ascending list that is not below a number.
use Rattle.std.proofs.Common.{◌≡◌, ℕ, ◌+◌, ◌<◌, ◌≤◌, ◌⊎◌, inl, inr, Option, Some, None, List, [], ◌∷◌, length, drop, get_or, sym, ◌∙◌, arith, false, Bool, subst}
use Rattle.std.specs.Prelude.{IsTrue, ◌↔◌}
use Rattle.std.proofs.lemmas.Bool.Decides.{nat_tests}
use Rattle.std.proofs.lemmas.List.{drop_more}
use Rattle.vw_values.specs.Bounds.{first_from, IsMember, IsAscending, IsLeastFrom}

pub first-here : (k m : ℕ) (ms : List ℕ) → k ≤ m → first_from k (m ∷ ms) ≡ Some m
first-here k m ms h = grind (arith, nat_tests)

pub first-later : (k m : ℕ) (ms : List ℕ) → m < k → first_from k (m ∷ ms) ≡ first_from k ms
first-later k m ms h = grind (arith, nat_tests)

-- passing over one more member that is below k
pub first-passes : (k i : ℕ) (ms : List ℕ) → i < length ms → get_or ms i 0 < k → first_from k (drop i ms) ≡ first_from k (drop (i + 1) ms)
first-passes k i ms h small = rw (drop_more ms i 0 h) (first-later k (get_or ms i 0) (drop (i + 1) ms) small)

pub first-stops : (k i : ℕ) (ms : List ℕ) → i < length ms → k ≤ get_or ms i 0 → first_from k (drop i ms) ≡ Some (get_or ms i 0)
first-stops k i ms h large = rw (drop_more ms i 0 h) (first-here k (get_or ms i 0) (drop (i + 1) ms) large)

by-test : (k m : ℕ) → (k ≤ m) ⊎ (m < k)
by-test k m = grind arith

up-later : (m k n : ℕ) (ms : List ℕ) → m < k → IsLeastFrom ms k n → IsLeastFrom (m ∷ ms) k n
up-later m k n ms less up = record {
  member = inr up.member;
  above = up.above;
  least = λ j within most. elim within [ inl here ↦ absurd (omega arith) | inr there ↦ up.least j there most ];
}

some-equal : {m n : ℕ} → Some m ≡ Some n → m ≡ n
some-equal e = cc

pub first-is-up : (k n : ℕ) (ms : List ℕ) → IsAscending ms → first_from k ms ≡ Some n → IsLeastFrom ms k n
first-is-up k n [] ascends e = cc
first-is-up k n (m ∷ ms) ascends e =
    elim (by-test k m) [
      | inl most ↦
          let same : m ≡ n = some-equal (sym (first-here k m ms most) ∙ e) in
          record {
            member = inl same;
            above = omega arith;
            least = λ j within _. elim within [ inl here ↦ omega arith | inr there ↦ let less = ascends.0 j there in omega arith ];
          }
      | inr less ↦ up-later m k n ms less (first-is-up k n ms ascends.1 (sym (first-later k m ms less) ∙ e))
    ]

pub first-none : (k : ℕ) (ms : List ℕ) → first_from k ms ≡ None → (j : ℕ) → IsMember ms j → j < k
first-none k [] e j within = absurd within
first-none k (m ∷ ms) e j within =
    elim (by-test k m) [
      | inl most ↦ let none = sym (first-here k m ms most) ∙ e in absurd (none-some none)
      | inr less ↦ elim within [ inl here ↦ omega arith | inr there ↦ first-none k ms (sym (first-later k m ms less) ∙ e) j there ]
    ]
  where
    none-some : {n : ℕ} → ◌≡◌ {A = Option ℕ} (Some n) None → ⊥
    none-some e = cc

-- a member is its own least member from below
pub up-member : (k n : ℕ) (ms : List ℕ) → IsLeastFrom ms k n → IsMember ms k → n ≡ k
up-member k n ms up within = let most = up.least k within (omega arith) in omega (arith, up.above)

pub has-here : (k m : ℕ) (ms : List ℕ) (test : Bool) → IsAscending ms → Some m ≡ first_from k ms → (IsTrue test ↔ (m ≡ k)) → IsTrue test ↔ IsMember ms k
has-here k m ms test ascends e tells =
    let up = first-is-up k m ms ascends (sym e) in
    (λ h. subst (λ j. IsMember ms j) (tells.0 h) up.member, λ h. tells.1 (up-member k m ms up h))

pub has-none : (k : ℕ) (ms : List ℕ) → None ≡ first_from k ms → IsMember ms k → ⊥
has-none k ms e h = let less = first-none k ms (sym e) k h in omega arith

pub false-true : {P : Type 0} → IsTrue false → P
false-true {P} h = absurd (no h)
  where
    no : IsTrue false → ⊥
    no h = cc
