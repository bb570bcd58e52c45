-- Items of lists, the pairs of a point, and lists of distinct items.
use Rattle.std.proofs.Common.{◌≡◌, ◌≢◌, ◌⊎◌, inl, inr, ℕ, zero, suc, ◌<◌, ◌≤◌, ◌==◌, Bool, true, false, List, [], ◌∷◌, ◌++◌, length, get_or, length-append, refl, sym, ap, subst, arith}
use Rattle.std.specs.Prelude.{if◌then◌else◌, Contains}
use Rattle.std.proofs.lemmas.Bool.Decides.{eqb_tells}
use Rattle.std.proofs.lemmas.List.Elements.{Contains-append_left, Contains-append_right, Contains-append_cases}
use Rattle.vw_solver.specs.Seed.{AreDistinct}
use Rattle.vw_state.specs.Post.{seconds}

-- ---- the items of a list

pub contains_none : {X : Type 0} (x : X) → Contains [] x → ⊥
contains_none x c = let inside : c.0 < 0 = c.1 in absurd (omega arith)

pub contains_head : {X : Type 0} (x : X) (xs : List X) → Contains (x ∷ xs) x
contains_head x xs = (0, omega arith, refl)

pub contains_tail : {X : Type 0} (x y : X) (xs : List X) → Contains xs y → Contains (x ∷ xs) y
contains_tail x y xs c = (suc c.0, omega (arith, c.1), c.2)

pub contains_cases : {X : Type 0} (x y : X) (xs : List X) → Contains (x ∷ xs) y → (x ≡ y) ⊎ Contains xs y
contains_cases {X} x y xs c = from c.0 c.1 c.2
  where
    from : (k : ℕ) → k < length (x ∷ xs) → get_or (x ∷ xs) k y ≡ y → (x ≡ y) ⊎ Contains xs y
    from zero within is = inl is
    from (suc k) within is = let inside : k < length xs = omega arith in inr (k, inside, is)

-- ---- the second points of the pairs of a point

either_has : (at : ℕ) (pair : ℕ × ℕ) (to : ℕ) (pairs : List (ℕ × ℕ)) (rest : List ℕ) (test : Bool) → ((test ≡ true) × (pair.0 ≡ at)) ⊎ ((test ≡ false) × (pair.0 ≢ at))
    → (pair ≡ (at, to)) ⊎ Contains pairs (at, to) → (Contains pairs (at, to) → Contains rest to) → Contains (if test then pair.1 ∷ rest else rest) to
either_has at pair to pairs rest true tells (inl same) more = let P : ℕ → Type 0 = λ n. Contains (pair.1 ∷ rest) n in subst P (ap (λ (p : ℕ × ℕ). p.1) same) (contains_head pair.1 rest)
either_has at pair to pairs rest true tells (inr later) more = contains_tail pair.1 to rest (more later)
either_has at pair to pairs rest false (inl tells) (inl same) more = let clash : false ≡ true = tells.0 in absurd cc
either_has at pair to pairs rest false (inr tells) (inl same) more = absurd (tells.1 (ap (λ (p : ℕ × ℕ). p.0) same))
either_has at pair to pairs rest false tells (inr later) more = more later

pub seconds_has : (at to : ℕ) (pairs : List (ℕ × ℕ)) → Contains pairs (at, to) → Contains (seconds at pairs) to
seconds_has at to [] c = absurd (contains_none (at, to) c)
seconds_has at to (pair ∷ pairs) c =
    either_has at pair to pairs (seconds at pairs) (pair.0 == at) (eqb_tells pair.0 at) (contains_cases pair (at, to) pairs c) (seconds_has at to pairs)

either_from : (at : ℕ) (pair : ℕ × ℕ) (to : ℕ) (pairs : List (ℕ × ℕ)) (rest : List ℕ) (test : Bool) → ((test ≡ true) × (pair.0 ≡ at)) ⊎ ((test ≡ false) × (pair.0 ≢ at))
    → Contains (if test then pair.1 ∷ rest else rest) to → (Contains rest to → Contains pairs (at, to)) → Contains (pair ∷ pairs) (at, to)
either_from at pair to pairs rest true (inr tells) c more = let clash : true ≡ false = tells.0 in absurd cc
either_from at pair to pairs rest true (inl tells) c more = elim (contains_cases pair.1 to rest c) [
  | inl same ↦
      let P : ℕ → Type 0 = λ n. Contains ((pair.0, pair.1) ∷ pairs) (pair.0, n) in
      let Q : ℕ → Type 0 = λ n. Contains ((pair.0, pair.1) ∷ pairs) (n, to) in
      subst Q tells.1 (subst P same (contains_head (pair.0, pair.1) pairs))
  | inr later ↦ contains_tail pair (at, to) pairs (more later)
]
either_from at pair to pairs rest false tells c more = contains_tail pair (at, to) pairs (more c)

pub seconds_from : (at to : ℕ) (pairs : List (ℕ × ℕ)) → Contains (seconds at pairs) to → Contains pairs (at, to)
seconds_from at to [] c = absurd (contains_none to c)
seconds_from at to (pair ∷ pairs) c = either_from at pair to pairs (seconds at pairs) (pair.0 == at) (eqb_tells pair.0 at) c (seconds_from at to pairs)

-- ---- distinct items

split_at : {X : Type 0} (x : X) (ys : List X) → Contains ys x → (front back : List X) × (ys ≡ front ++ x ∷ back)
split_at x [] c = absurd (contains_none x c)
split_at {X} x (y ∷ ys) c = elim (contains_cases y x ys c) [
  | inl same ↦ ([], ys, ap (λ (z : X). z ∷ ys) same)
  | inr later ↦ let r = split_at x ys later in (y ∷ r.0, r.1, ap (λ (zs : List X). y ∷ zs) r.2)
]

-- there are no more of them than items of a list that has each
pub distinct_fit : {X : Type 0} (xs ys : List X) → AreDistinct xs → ((x : X) → Contains xs x → Contains ys x) → length xs ≤ length ys
distinct_fit [] ys distinct each = omega arith
distinct_fit {X} (x ∷ xs) ys distinct each =
    let at = split_at x ys (each x (contains_head x xs)) in
    let rest : (y : X) → Contains xs y → Contains (at.0 ++ at.1) y = λ y c.
    let P : List X → Type 0 = λ zs. Contains zs y in
    elim (Contains-append_cases at.0 (x ∷ at.1) y (subst P at.2 (each y (contains_tail x y xs c)))) [
      | inl front ↦ Contains-append_left at.0 at.1 y front
      | inr behind ↦ elim (contains_cases x y at.1 behind) [
        | inl same ↦ let Q : X → Type 0 = λ z. Contains xs z in absurd (distinct.0 (subst Q (sym same) c))
        | inr back ↦ Contains-append_right at.0 at.1 y back
      ]
    ] in
    let fit = distinct_fit xs (at.0 ++ at.1) distinct.1 rest in
    let whole : length ys ≡ length (at.0 ++ x ∷ at.1) = ap (λ (zs : List X). length zs) at.2 in
    omega (arith, fit, whole, length-append at.0 at.1, length-append at.0 (x ∷ at.1))

-- and fewer where the list has another
pub distinct_fewer : {X : Type 0} (xs ys : List X) (y : X) → AreDistinct xs → ((x : X) → Contains xs x → Contains ys x) → Contains ys y → (Contains xs y → ⊥) → length xs < length ys
distinct_fewer {X} xs ys y distinct each there new =
    let more : (x : X) → Contains (y ∷ xs) x → Contains ys x = λ x c. elim (contains_cases y x xs c) [
      | inl same ↦ let P : X → Type 0 = λ z. Contains ys z in subst P same there
      | inr later ↦ each x later
    ] in
    let fit = distinct_fit (y ∷ xs) ys (new, distinct) more in
    omega (arith, fit)
