-- A seed is a state of the search.
use Rattle.std.proofs.Common.{◌≡◌, ◌≢◌, ℕ, zero, suc, ◌+◌, ◌-◌, ◌*◌, ◌<◌, ◌≤◌, List, [], ◌∷◌, length, get_or, set, Option, Some, None, refl, ap, subst, ◌∙◌, arith, inl, inr, ◌⊎◌}
use Rattle.std.specs.List.{Contains}
use Rattle.std.proofs.Math.Nat.{mul-le-mul_left}
use Rattle.std.proofs.lemmas.List.{get_or-set_other}
use Rattle.std.proofs.lemmas.List.Elements.{All-contains}
use Rattle.vw_solver.specs.Solution.{state_at, IsCovered}
use Rattle.vw_solver.specs.search.Tables.{table_sum}
use Rattle.vw_solver.specs.Seed.{IsSeed, AreDistinct}
use Rattle.vw_solver.proofs.Search.{Progress, cost, table_sum_set, state_within}
use Rattle.vw_solver.proofs.Waiting.{Waits, total}

contains_head : {X : Type 0} (x : X) (xs : List X) → Contains (x ∷ xs) x
contains_head x xs = (0, omega arith, refl)

contains_tail : {X : Type 0} (x y : X) (xs : List X) → Contains xs y → Contains (x ∷ xs) y
contains_tail x y xs c = (suc c.0, omega (arith, c.1), c.2)

contains_nil : {X : Type 0} (x : X) → Contains [] x → ⊥
contains_nil x c = let inside : c.0 < 0 = c.1 in absurd (omega arith)

contains_cases : {X : Type 0} (x y : X) (xs : List X) → Contains (x ∷ xs) y → (x ≡ y) ⊎ Contains xs y
contains_cases {X} x y xs c = from c.0 c.1 c.2
  where
    from : (k : ℕ) → k < length (x ∷ xs) → get_or (x ∷ xs) k y ≡ y → (x ≡ y) ⊎ Contains xs y
    from zero within is = inl is
    from (suc k) within is = let inside : k < length xs = omega arith in inr (k, inside, is)

waits_from_contains : (waiting : List ℕ) (p : ℕ) → Contains waiting p → Waits waiting p
waits_from_contains [] p c = absurd (contains_nil p c)
waits_from_contains (x ∷ xs) p c = elim (contains_cases x p xs c) [ inl same ↦ inl same | inr later ↦ inr (waits_from_contains xs p later) ]

contains_from_waits : (waiting : List ℕ) (p : ℕ) → Waits waiting p → Contains waiting p
contains_from_waits [] p w = absurd w
contains_from_waits (x ∷ xs) p (inl same) = let P : ℕ → Type 0 = λ n. Contains (x ∷ xs) n in subst P same (contains_head x xs)
contains_from_waits (x ∷ xs) p (inr later) = contains_tail x p xs (contains_from_waits xs p later)

module _ {S : Type 0} (below : S → S → Type 0) (is_valid : S → Type 0) (rank : S → ℕ) (edges : ℕ → S → List (ℕ × S)) (weight : ℕ → ℕ) (points start : ℕ) (first : S) where
  -- the weights of distinct points that have a state are paid
  paid_first : (r : ℕ) (waiting : List ℕ) (table : List (Option S)) → AreDistinct waiting → ((p : ℕ) → Contains waiting p → (s : S) × (state_at table p ≡ Some s) × (rank s ≤ r)) → total weight waiting ≤ table_sum (cost weight rank r) 0 table
  paid_first r [] table distinct there = omega arith
  paid_first r (q ∷ rest) table distinct there =
      let here = there q (contains_head q rest) in
      let within = state_within table q here.0 here.1 in
      let without : List (Option S) = set table q None in
      let others : (p : ℕ) → Contains rest p → (s : S) × (state_at without p ≡ Some s) × (rank s ≤ r) = λ p c.
      let is = there p (contains_tail q p rest c) in
      let apart : p ≢ q = λ same. distinct.0 (let P : ℕ → Type 0 = λ n. Contains rest n in subst P same c) in
      (is.0, get_or-set_other table q p None None apart ∙ is.1, is.2) in
      let less = paid_first r rest without distinct.1 others in
      let place : q ≡ 0 + q = omega arith in
      let step : 1 ≤ r + 1 - rank here.0 = omega (arith, here.2) in
      let was : cost weight rank r q (state_at table q) ≡ weight q * (r + 1 - rank here.0) = ap (λ (o : Option S). cost weight rank r q o) here.1 in
      omega (arith, less, table_sum_set (cost weight rank r) 0 q q table None place within, mul-le-mul_left (weight q) step, was)

  -- a seed is a state of the search
  pub seed_progress : (table : List (Option S)) (waiting : List ℕ) → IsSeed below is_valid edges points start first table waiting → Progress below is_valid rank edges weight points start first table waiting [] 0
  seed_progress table waiting seed = record {
    size = seed.size;
    first_valid = seed.first_valid;
    valid = seed.valid;
    begins = seed.begins;
    closed = λ p s there. elim (seed.closed p s there) [
      | inl waits ↦ inl (waits_from_contains waiting p waits)
      | inr all ↦ inr (λ e has. let C : ℕ × S → Type 0 = λ x. IsCovered below table x.0 x.1 in inl (All-contains C (edges p s) e all has))
    ];
    there = λ p waits. seed.there p (contains_from_waits waiting p waits);
    least = seed.least;
    tight = seed.reached;
    stands = seed.stands;
    pends = λ e has. absurd (contains_nil e has);
    paid = λ r most. omega (arith, paid_first r waiting table seed.distinct (λ p c. let s = seed.there p c in (s.0, s.1, most p s.0 (record { table = table; pending = []; is_table = seed.stands; there = s.1 }))));
  }
