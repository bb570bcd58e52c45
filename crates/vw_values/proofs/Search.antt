-- A search by halves in an ascending list finds the first member that is not below a number.
use Rattle.std.proofs.Common.{true, false, ◌≡◌, ℕ, zero, suc, ◌<◌, ◌≤◌, inl, inr, Option, Some, None, List, [], ◌∷◌, length, get_or, refl, sym, ◌∙◌, arith}
use Rattle.std.specs.Prelude.{slice_get, IfSome, IsNone, ◌↔◌, ◌^◌}
use Rattle.std.proofs.lemmas.Option.{slice_get-get_or, slice_get_past}
use Rattle.vw_values.specs.Bounds.{first_from, IsMember, IsAscending, IsBounds, IsLeastFrom}
use Rattle.vw_values.proofs.UpLemmas.{first-here, first-later, first-is-up, first-none}

pub member-at : (ms : List ℕ) (j d : ℕ) → j < length ms → IsMember ms (get_or ms j d)
member-at [] j d within = absurd (omega arith)
member-at (m ∷ ms) zero d within = inl refl
member-at (m ∷ ms) (suc j) d within = inr (member-at ms j d (omega arith))

pub rising : (ms : List ℕ) → IsAscending ms → (i j d : ℕ) → i ≤ j → j < length ms → get_or ms i d ≤ get_or ms j d
rising [] ascends i j d before within = absurd (omega arith)
rising (m ∷ ms) ascends zero zero d before within = omega arith
rising (m ∷ ms) ascends zero (suc j) d before within =
    let inside : j < length ms = omega arith in
    let less = ascends.0 (get_or ms j d) (member-at ms j d inside) in
    omega arith
rising (m ∷ ms) ascends (suc i) zero d before within = absurd (omega arith)
rising (m ∷ ms) ascends (suc i) (suc j) d before within = rising ms ascends.1 i j d (omega arith) (omega arith)

pub first-at : (k i : ℕ) (ms : List ℕ) → ((j : ℕ) → j < i → j < length ms → get_or ms j 0 < k) → (i < length ms → k ≤ get_or ms i 0) → first_from k ms ≡ slice_get ms i
first-at k i [] below above = refl
first-at k zero (m ∷ ms) below above = first-here k m ms (above (omega arith))
first-at k (suc i) (m ∷ ms) below above =
    first-later k m ms (below 0 (omega arith) (omega arith))
    ∙ first-at k i ms (λ j before within. below (suc j) (omega arith) (omega arith)) (λ within. above (omega arith))

-- where the members below k end
module _ (k i : ℕ) (ms : List ℕ) (below : (j : ℕ) → j < i → get_or ms j 0 < k) (above : (j : ℕ) → i ≤ j → j < length ms → k ≤ get_or ms j 0) where
  pub first-there : i < length ms → Some (get_or ms i 0) ≡ first_from k ms
  first-there within = sym (slice_get-get_or ms i 0 within) ∙ sym (first-at k i ms (λ j before _. below j before) (above i (omega arith)))

  pub none-there : length ms ≤ i → None ≡ first_from k ms
  none-there past = sym (slice_get_past ms i past) ∙ sym (first-at k i ms (λ j before _. below j before) (above i (omega arith)))

pub least-where : (k : ℕ) (ms : List ℕ) (o : Option ℕ) → IsAscending ms → o ≡ first_from k ms → IfSome o (IsLeastFrom ms k)
least-where k ms None ascends is = tt
least-where k ms (Some u) ascends is = first-is-up k u ms ascends (sym is)

pub all-below : (k : ℕ) (ms : List ℕ) → ((m : ℕ) → IsMember ms m → m < k) → first_from k ms ≡ None
all-below k [] below = refl
all-below k (m ∷ ms) below = first-later k m ms (below m (inl refl)) ∙ all-below k ms (λ j within. below j (inr within))

pub none-above : (k : ℕ) (b : List ℕ) → IsBounds b → 2 ^ 33 < k → first_from k b ≡ None
none-above k b bounds large = all-below k b (λ m within. let range = bounds.range m within in grind arith)

true-false : true ≡ false → ⊥
true-false e = cc

pub none-where : (k : ℕ) (b : List ℕ) (o : Option ℕ) → IsBounds b → o ≡ first_from k b → IsNone o ↔ (2 ^ 33 < k)
none-where k b None bounds is = (λ _. first-none k b (sym is) (2 ^ 33) (bounds.powers 33 (omega arith)), λ _. refl)
none-where k b (Some u) bounds is = (
  λ none. absurd (true-false none),
  λ large.
      let gone : ◌≡◌ {A = Option ℕ} (Some u) None = is ∙ none-above k b bounds large in
      absurd (cc),
)
