-- What is computed of each number below a bound.
use Rattle.std.proofs.Common.{◌≡◌, ℕ, zero, suc, ◌<◌, Bool, true, ◌&&◌, subst, arith, inl, inr}
use Rattle.std.proofs.lemmas.Bool.{and_parts, cases_lt}

-- a test of the numbers below n
abbrev pub below : (ℕ → Bool) → ℕ → Bool
below f zero = true
below f (suc n) = f n && below f n

pub below_at : (f : ℕ → Bool) (n : ℕ) → below f n ≡ true → (i : ℕ) → i < n → f i ≡ true
below_at f zero h i lt = absurd (omega arith)
below_at f (suc n) h i lt = elim (cases_lt i n) [
  | inl under ↦ below_at f n (and_parts (f n) (below f n) h).1 i under
  | inr over ↦ (
      let e : n ≡ i = omega arith in
      subst (λ (k : ℕ). f k ≡ true) e (and_parts (f n) (below f n) h).0)
]
