-- Lists of pairs of points without doubles.
use Rattle.std.proofs.Common.{◌≡◌, ◌≢◌, ℕ, zero, suc, ◌*◌, ◌<◌, ◌≤◌, List, [], ◌∷◌, ◌++◌, length, length-append, refl, sym, ap, subst, arith, inl, inr, ◌⊎◌}
use Rattle.std.specs.List.{Contains}
use Rattle.std.proofs.lemmas.Bool.{cases_eq}
use Rattle.std.proofs.lemmas.List.Elements.{Contains-append_left, Contains-append_right}
use Rattle.vw_state.specs.Rounds.{AreDistinct}
use Rattle.vw_graph.proofs.Members.{contains_head, contains_tail, contains_none, contains_cases, distinct_fit}

abbrev pub Pair : Type 0
Pair = ℕ × ℕ

-- ---- without doubles

one_pair : (p q : Pair) → (p ≡ q) ⊎ (p ≢ q)
one_pair p q = elim (cases_eq p.0 q.0) [
  | inl same ↦ elim (cases_eq p.1 q.1) [
    | inl alike ↦ let is : (p.0, p.1) ≡ (q.0, q.1) = cc in inl is
    | inr other ↦ inr (λ e. other (ap (λ (z : Pair). z.1) e))
  ]
  | inr other ↦ inr (λ e. other (ap (λ (z : Pair). z.0) e))
]

pub is_member : (xs : List Pair) (p : Pair) → Contains xs p ⊎ (Contains xs p → ⊥)
is_member [] p = inr (λ c. contains_none p c)
is_member (x ∷ xs) p = elim (one_pair x p) [
  | inl same ↦ let C : Pair → Type 0 = λ z. Contains (x ∷ xs) z in inl (subst C same (contains_head x xs))
  | inr other ↦ elim (is_member xs p) [
    | inl later ↦ inl (contains_tail x p xs later)
    | inr none ↦ inr (λ c. elim (contains_cases x p xs c) [ inl same ↦ other same | inr later ↦ none later ])
  ]
]

abbrev add_new : (xs : List Pair) (p : Pair) → Contains xs p ⊎ (Contains xs p → ⊥) → List Pair
add_new xs p (inl there) = xs
add_new xs p (inr new) = p ∷ xs

-- the same pairs, each once
abbrev pub distinct : List Pair → List Pair
distinct [] = []
distinct (p ∷ ps) = add_new (distinct ps) p (is_member (distinct ps) p)

add_distinct : (xs : List Pair) (p : Pair) (is : Contains xs p ⊎ (Contains xs p → ⊥)) → AreDistinct xs → AreDistinct (add_new xs p is)
add_distinct xs p (inl there) d = d
add_distinct xs p (inr new) d = (new, d)

pub are_distinct : (ps : List Pair) → AreDistinct (distinct ps)
are_distinct [] = tt
are_distinct (p ∷ ps) = add_distinct (distinct ps) p (is_member (distinct ps) p) (are_distinct ps)

add_has : (xs : List Pair) (p q : Pair) (is : Contains xs p ⊎ (Contains xs p → ⊥)) → (p ≡ q) ⊎ Contains xs q → Contains (add_new xs p is) q
add_has xs p q (inl there) (inl same) = let C : Pair → Type 0 = λ z. Contains xs z in subst C same there
add_has xs p q (inl there) (inr c) = c
add_has xs p q (inr new) (inl same) = let C : Pair → Type 0 = λ z. Contains (p ∷ xs) z in subst C same (contains_head p xs)
add_has xs p q (inr new) (inr c) = contains_tail p q xs c

add_from : (xs : List Pair) (p q : Pair) (is : Contains xs p ⊎ (Contains xs p → ⊥)) → Contains (add_new xs p is) q → (p ≡ q) ⊎ Contains xs q
add_from xs p q (inl there) c = inr c
add_from xs p q (inr new) c = contains_cases p q xs c

pub distinct_has : (ps : List Pair) (q : Pair) → Contains ps q → Contains (distinct ps) q
distinct_has [] q c = c
distinct_has (p ∷ ps) q c = add_has (distinct ps) p q (is_member (distinct ps) p) (elim (contains_cases p q ps c) [ inl same ↦ inl same | inr later ↦ inr (distinct_has ps q later) ])

pub distinct_from : (ps : List Pair) (q : Pair) → Contains (distinct ps) q → Contains ps q
distinct_from [] q c = c
distinct_from (p ∷ ps) q c = elim (add_from (distinct ps) p q (is_member (distinct ps) p) c) [
  | inl same ↦ let C : Pair → Type 0 = λ z. Contains (p ∷ ps) z in subst C same (contains_head p ps)
  | inr later ↦ contains_tail p q ps (distinct_from ps q later)
]

-- ---- all pairs of small numbers

abbrev row : ℕ → ℕ → List Pair
row a zero = []
row a (suc n) = (a, n) ∷ row a n

abbrev rows : ℕ → ℕ → List Pair
rows zero n = []
rows (suc a) n = row a n ++ rows a n

row_has : (a n b : ℕ) → b < n → Contains (row a n) (a, b)
row_has a zero b less = absurd (omega arith)
row_has a (suc n) b less = elim (cases_eq b n) [
  | inl same ↦ let P : ℕ → Type 0 = λ m. Contains ((a, n) ∷ row a n) (a, m) in subst P (sym same) (contains_head (a, n) (row a n))
  | inr other ↦ contains_tail (a, n) (a, b) (row a n) (row_has a n b (omega (arith, less)))
]

rows_have : (m n a b : ℕ) → a < m → b < n → Contains (rows m n) (a, b)
rows_have zero n a b less below = absurd (omega arith)
rows_have (suc m) n a b less below = elim (cases_eq a m) [
  | inl same ↦ let P : ℕ → Type 0 = λ k. Contains (row m n ++ rows m n) (k, b) in subst P (sym same) (Contains-append_left (row m n) (rows m n) (m, b) (row_has m n b below))
  | inr other ↦ Contains-append_right (row m n) (rows m n) (a, b) (rows_have m n a b (omega (arith, less)) below)
]

row_length : (a n : ℕ) → length (row a n) ≡ n
row_length a zero = refl
row_length a (suc n) = let rest = row_length a n in omega (arith, rest)

rows_length : (m n : ℕ) → length (rows m n) ≡ m * n
rows_length zero n = omega arith
rows_length (suc m) n = let rest = rows_length m n in omega (arith, length-append (row m n) (rows m n), row_length m n, rest)

-- so many pairs without doubles there can be
pub distinct_at_most : (xs : List Pair) (n : ℕ) → AreDistinct xs → ((a b : ℕ) → Contains xs (a, b) → (a < n) × (b < n)) → length xs ≤ n * n
distinct_at_most xs n d within =
    let each : (p : Pair) → Contains xs p → Contains (rows n n) p = λ p c. let w = within p.0 p.1 c in rows_have n n p.0 p.1 w.0 w.1 in
    omega (arith, distinct_fit xs (rows n n) d each, rows_length n n)
