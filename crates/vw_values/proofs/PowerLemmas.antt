-- Powers of two.
use Rattle.std.proofs.Common.{Option, ◌/◌, max, ◌≡◌, ℕ, zero, suc, ◌+◌, ◌*◌, ◌^◌, ◌<◌, ◌≤◌, ◌⊎◌, inl, inr, Some, None, List, ◌∷◌, refl, sym, ap, ◌∙◌, subst, arith, add-one, ◌≢◌, length, drop, get_or}
use Rattle.std.proofs.Math.Nat.{pow-le-pow_right, pow-succ'}
use Rattle.vw_values.specs.Bounds.{first_from, IsMember, IsAscending, IsBounds, IsLeastFrom}
use Rattle.vw_values.specs.Bounds.{powers, doublings, pow}
use Rattle.std.proofs.lemmas.Bool.Decides.{nat_tests}
use Rattle.std.proofs.lemmas.List.{drop_more}
use Rattle.std.proofs.lemmas.Nat.{pow_pos}
use Rattle.vw_insn.specs.declared.registers.Width.{Width}
use Rattle.vw_insn.specs.declared.registers.Width.TheVariants.{W32}
use Rattle.vw_values.specs.Refinements.{below, equal}
use Rattle.vw_values.specs.Sums.{rounded_bound, below_or_num, table_from}
use Rattle.vw_values.specs.declared.value.Value.{Value}
use Rattle.vw_values.specs.declared.value.Value.TheVariants.{Num, Const, Below, Low, Both}
use Rattle.vw_values.proofs.UpLemmas.{first-is-up, first-none}
use Rattle.vw_values.proofs.Search.{all-below, none-above}

pub power-next : (i : ℕ) → 2 * 2 ^ i ≡ 2 ^ (i + 1)
power-next i = rw add-one (sym (pow-succ' 2 i))

doubled-are : (n m j : ℕ) → m ≡ 2 ^ j → (k : ℕ) → IsMember (doublings n m) k → (i : ℕ) × (i < j + n) × (k ≡ 2 ^ i)
doubled-are zero m j is k within = absurd within
doubled-are (suc n) m j is k (inl here) = (j, omega arith, sym here ∙ is)
doubled-are (suc n) m j is k (inr there) =
    let found = doubled-are n (2 * m) (j + 1) (ap (λ x. 2 * x) is ∙ power-next j) k there in
    (found.0, omega arith, found.2)

pub powers-are : (k : ℕ) → IsMember powers k → (i : ℕ) × (i < 34) × (k ≡ 2 ^ i)
unfolding powers
powers-are k within = doubled-are 34 1 0 refl k within

pub powers-end : (k : ℕ) → IsMember powers k → k ≤ 2 ^ 33
powers-end k within =
    let is = powers-are k within in
    let small : is.0 ≤ 33 = omega (arith, is.1) in
    let most : 2 ^ is.0 ≤ 2 ^ 33 = pow-le-pow_right {n = 2} (omega arith) small in
    omega (arith, is.2)

pub pow-none : (k : ℕ) → 2 ^ 33 < k → pow k ≡ None
pow-none k large = all-below k powers (λ m within. let most = powers-end m within in omega arith)

pub rounded-none : (k : ℕ) → 2 ^ 33 < k → rounded_bound k ≡ Num
rounded-none k large = ap below_or_num (pow-none k large)

-- at a list of tables
pub table-passes : (n a i : ℕ) (ts : List (ℕ × ℕ)) → i < length ts → (get_or ts i (0, 0)).0 ≢ a → table_from n a (drop i ts) ≡ table_from (n + 1) a (drop (i + 1) ts)
table-passes n a i ts within other = rw (drop_more ts i (0, 0) within) (later n a (get_or ts i (0, 0)) (drop (i + 1) ts) other)
  where
    later : (n a : ℕ) (t : ℕ × ℕ) (ts : List (ℕ × ℕ)) → t.0 ≢ a → table_from n a (t ∷ ts) ≡ table_from (n + 1) a ts
    later n a t ts other = grind (arith, nat_tests)

pub table-stops : (n a i : ℕ) (ts : List (ℕ × ℕ)) → i < length ts → (get_or ts i (0, 0)).0 ≡ a → table_from n a (drop i ts) ≡ Some (n, (get_or ts i (0, 0)).1)
table-stops n a i ts within same = rw (drop_more ts i (0, 0) within) (here n a (get_or ts i (0, 0)) (drop (i + 1) ts) same)
  where
    here : (n a : ℕ) (t : ℕ × ℕ) (ts : List (ℕ × ℕ)) → t.0 ≡ a → table_from n a (t ∷ ts) ≡ Some (n, t.1)
    here n a t ts same = grind (arith, nat_tests)

-- beyond the greatest bound a comparison of 32 bits says nothing
pub beyond : (v : Value) (b : List ℕ) → IsBounds b → below v W32 (2 ^ 64) b ≡ Some v
beyond v b bounds = go v
  where
    none : first_from (2 ^ 64) b ≡ None
    none = none-above (2 ^ 64) b bounds (omega arith)

    go : (v : Value) → below v W32 (2 ^ 64) b ≡ Some v
    go (Const c) = grind (arith, nat_tests)
    go Num = rw none refl
    go (Below j) = rw none refl
    go (Low j) = rw none refl
    go (Both j) = rw none refl
    go _ = refl

pub equal-beyond : (v : Value) (w : Width) (k : ℕ) (b : List ℕ) → IsBounds b → w ≡ W32 → k + 1 ≡ 2 ^ 64 → Some v ≡ equal v w k b
equal-beyond v w k b bounds is more = rw is (rw more (sym (beyond v b bounds)))

-- the powers ascend
doubled-above : (n m j : ℕ) → 1 ≤ m → j < m → (k : ℕ) → IsMember (doublings n m) k → j < k
doubled-above zero m j positive less k within = absurd within
doubled-above (suc n) m j positive less k (inl here) = omega arith
doubled-above (suc n) m j positive less k (inr there) = doubled-above n (2 * m) j (omega arith) (omega arith) k there

doubled-ascend : (n m : ℕ) → 1 ≤ m → IsAscending (doublings n m)
doubled-ascend zero m positive = tt
doubled-ascend (suc n) m positive = (doubled-above n (2 * m) m (omega arith) (omega arith), doubled-ascend n (2 * m) (omega arith))

pub powers-ascend : IsAscending powers
unfolding powers
powers-ascend = doubled-ascend 34 1 (omega arith)

doubled-member : (n m i : ℕ) → i < n → IsMember (doublings n m) (m * 2 ^ i)
doubled-member zero m i h = absurd (omega arith)
doubled-member (suc n) m zero h = inl (omega arith)
doubled-member (suc n) m (suc i) h =
    let rest = doubled-member n (2 * m) i (omega arith) in
    let same : 2 * m * 2 ^ i ≡ m * 2 ^ suc i = rw (pow-succ' 2 i) (regroup m (2 ^ i)) in
    inr (subst (λ x. IsMember (doublings n (2 * m)) x) same rest)
  where
    regroup : (a b : ℕ) → 2 * a * b ≡ a * (2 * b)
    regroup a b = omega arith

pub power-member : (i : ℕ) → i ≤ 33 → IsMember powers (2 ^ i)
unfolding powers
power-member i h =
    let member = doubled-member 34 1 i (omega arith) in
    let same : 1 * 2 ^ i ≡ 2 ^ i = omega arith in
    subst (λ x. IsMember (doublings 34 1) x) same member

-- the powers are among the members of each set of bounds
pub power-among : (ms : List ℕ) (k : ℕ) → IsBounds ms → IsMember powers k → IsMember ms k
power-among ms k bounds within =
    let is = powers-are k within in
    subst (λ x. IsMember ms x) (sym is.2) (bounds.powers is.0 (omega (arith, is.1)))

-- where there is no power the number is above them all
pub pow-none-below : (k : ℕ) → pow k ≡ None → 2 ^ 33 < k
pow-none-below k none = first-none k powers none (2 ^ 33) (power-member 33 (omega arith))

pub power-range : (k : ℕ) → IsMember powers k → (1 ≤ k) × ((k ≤ 2 ^ 32) ⊎ (k ≡ 2 ^ 33))
power-range k within =
    let is = powers-are k within in
    let positive = pow_pos is.0 in
    elim (last is.0 is.1) [
      | inl earlier ↦
          let most : 2 ^ is.0 ≤ 2 ^ 32 = pow-le-pow_right {n = 2} (omega arith) earlier in
          (omega (arith, is.2), inl (omega (arith, is.2)))
      | inr at-end ↦ (omega (arith, is.2), inr (is.2 ∙ ap (λ i. 2 ^ i) at-end))
    ]
  where
    last : (i : ℕ) → i < 34 → (i ≤ 32) ⊎ (i ≡ 33)
    last i h = grind arith

-- a power of two that is not below k, half of which is below k or 1, is the least one
pub next-is-least : (k p : ℕ) → k ≤ 2 ^ 33 → (i : ℕ) × (p ≡ 2 ^ i) → k ≤ p → p / 2 < max 1 k → IsLeastFrom powers k p
next-is-least k p most power above half = record { member = here; above = above; least = least }
  where
    greater : (j i : ℕ) → j < i → 2 * 2 ^ j ≤ 2 ^ i
    greater j i h =
        let next = power-next j in
        let order : 2 ^ (j + 1) ≤ 2 ^ i = pow-le-pow_right {n = 2} (omega arith) (omega arith) in
        omega (arith, next)

    in-range : power.0 < 34
    in-range = elim (split power.0) [
      | inl small ↦ small
      | inr large ↦
          let twice = greater 33 power.0 (omega arith) in
          absurd (omega (arith, power.1, twice))
    ]
      where
        split : (i : ℕ) → (i < 34) ⊎ (34 ≤ i)
        split i = grind arith

    here : IsMember powers p
    here = subst (λ x. IsMember powers x) (sym power.1) (power-member power.0 (omega (arith, in-range)))

    least : (j : ℕ) → IsMember powers j → k ≤ j → p ≤ j
    least j within reaches =
        let is = powers-are j within in
        elim (split is.0 power.0) [
          | inl less ↦
              let twice = greater is.0 power.0 less in
              let positive = pow_pos is.0 in
              absurd (omega (arith, power.1, is.2, twice, positive))
          | inr more ↦
              let order : 2 ^ power.0 ≤ 2 ^ is.0 = pow-le-pow_right {n = 2} (omega arith) more in
              omega (arith, power.1, is.2, order)
        ]
      where
        split : (i j : ℕ) → (i < j) ⊎ (j ≤ i)
        split i j = grind arith

-- and so it is what `pow` gives
pub pow-is-next : (k p : ℕ) → k ≤ 2 ^ 33 → IsLeastFrom powers k p → Some p ≡ pow k
pow-is-next k p most next = go (pow k) refl
  where
    go : (o : Option ℕ) → pow k ≡ o → Some p ≡ o
    go None is = let large = pow-none-below k is in absurd (omega arith)
    go (Some u) is =
        let up = first-is-up k u powers powers-ascend is in
        let low = up.least p next.member next.above in
        let high = next.least u up.member up.above in
        let same : p ≡ u = omega arith in
        ap Some same
