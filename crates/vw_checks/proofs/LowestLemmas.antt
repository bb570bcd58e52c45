-- The lowest number that fails.
use Rattle.std.proofs.Common.{◌≡◌, ◌⊎◌, ◌↔◌, inl, inr, ℕ, ◌≤◌, ◌<◌, Bool, true, false, if◌then◌else◌, min, Option, Some, None, refl, sym, ◌∙◌, ap, subst, arith}
use Rattle.std.specs.Prelude.{nat_le, IsTrue}
use Rattle.std.proofs.lemmas.Bool.Decides.{nat_tests}
use Rattle.vw_checks.specs.Checks.{IsLowestOf, lower}

by_order : (a b : ℕ) (is : Bool) → nat_le a b ≡ is → (a ≤ b) ⊎ (b < a)
by_order a b true e = inl (grind (arith, nat_tests))
by_order a b false e = inr (grind (arith, nat_tests))

-- of what holds by one of two properties
pub lower_of : (A B : ℕ → Type 0) (a b : Option ℕ) → IsLowestOf A a → IsLowestOf B b → IsLowestOf (λ (n : ℕ). A n ⊎ B n) (lower a b)
lower_of A B None None la lb = λ n h. elim h [ inl x ↦ la n x | inr y ↦ lb n y ]
lower_of A B None (Some b) la lb = (inr lb.0, λ n h. elim h [ inl x ↦ absurd (la n x) | inr y ↦ lb.1 n y ])
lower_of A B (Some a) None la lb = (inl la.0, λ n h. elim h [ inl x ↦ la.1 n x | inr y ↦ absurd (lb n y) ])
lower_of A B (Some a) (Some b) la lb = (
  elim (by_order a b (nat_le a b) refl) [
    | inl le ↦ let is : a ≡ min a b = omega (arith, le) in subst (λ (n : ℕ). A n ⊎ B n) is (inl la.0)
    | inr less ↦ let is : b ≡ min a b = omega (arith, less) in subst (λ (n : ℕ). A n ⊎ B n) is (inr lb.0)
  ],
  λ n h. elim h [ inl x ↦ let le = la.1 n x in omega (arith, le) | inr y ↦ let le = lb.1 n y in omega (arith, le) ],
)

pub lower_assoc : (a b c : Option ℕ) → lower (lower a b) c ≡ lower a (lower b c)
lower_assoc None b c = refl
lower_assoc (Some a) None c = refl
lower_assoc (Some a) (Some b) None = refl
lower_assoc (Some a) (Some b) (Some c) = let e : min (min a b) c ≡ min a (min b c) = omega arith in ap Some e

pub lower_none : (a : Option ℕ) → lower a None ≡ a
lower_none None = refl
lower_none (Some a) = refl

pub not_true : {A : Type 0} {b : Bool} → b ≡ false → (A → b ≡ true) → A → ⊥
not_true is_false gives a = let both : true ≡ false = sym (gives a) ∙ is_false in absurd cc

-- one check that fails where something does not hold, of which a test tells
pub one_unless : (number : ℕ) (P : Type 0) (b : Bool) (o : Option ℕ) → (IsTrue b ↔ P) → o ≡ (if b then None else Some number) → IsLowestOf (λ (n : ℕ). (n ≡ number) × (P → ⊥)) o
one_unless number P b o tells e = subst (λ (o : Option ℕ). IsLowestOf (λ (n : ℕ). (n ≡ number) × (P → ⊥)) o) (sym e) (by b tells)
  where
    by : (b : Bool) → (IsTrue b ↔ P) → IsLowestOf (λ (n : ℕ). (n ≡ number) × (P → ⊥)) (if b then None else Some number)
    by true tells = λ n h. h.1 (tells.0 refl)
    by false tells = ((refl, λ p. not_true refl tells.1 p), λ n h. omega (arith, h.0))

-- one check that fails where a test tells so
pub one_where : (number : ℕ) (P : Type 0) (b : Bool) (o : Option ℕ) → (IsTrue b ↔ P) → o ≡ (if b then Some number else None) → IsLowestOf (λ (n : ℕ). (n ≡ number) × P) o
one_where number P b o tells e = subst (λ (o : Option ℕ). IsLowestOf (λ (n : ℕ). (n ≡ number) × P) o) (sym e) (by b tells)
  where
    by : (b : Bool) → (IsTrue b ↔ P) → IsLowestOf (λ (n : ℕ). (n ≡ number) × P) (if b then Some number else None)
    by true tells = ((refl, tells.0 refl), λ n h. omega (arith, h.0))
    by false tells = λ n h. not_true refl tells.1 h.1

-- of what holds by one of two properties, of which the lowest numbers are at hand
pub lower_as : (A B : ℕ → Type 0) (a b o : Option ℕ) → o ≡ lower a b → IsLowestOf A a → IsLowestOf B b → IsLowestOf (λ (n : ℕ). A n ⊎ B n) o
lower_as A B a b o e la lb = subst (λ (o : Option ℕ). IsLowestOf (λ (n : ℕ). A n ⊎ B n) o) (sym e) (lower_of A B a b la lb)

-- the same of properties that hold of the same numbers
pub lowest_as : (A B : ℕ → Type 0) (o : Option ℕ) → ((n : ℕ) → A n → B n) → ((n : ℕ) → B n → A n) → IsLowestOf A o → IsLowestOf B o
lowest_as A B None to from h = λ n b. h n (from n b)
lowest_as A B (Some a) to from h = (to a h.0, λ n b. h.1 n (from n b))
