-- Where the entry of a place stands among ascending entries.
use Rattle.std.proofs.Common.{◌≡◌, ◌≢◌, ◌↔◌, IsTrue, ℕ, zero, suc, ◌+◌, ◌<◌, ◌≤◌, List, [], ◌∷◌, ◌++◌, length, get_or, Bool, true, false, refl, sym, ap, subst, ◌∙◌, arith, inl, inr}
use Rattle.std.specs.List.{All, AllPairs, AllWithin}
use Rattle.std.proofs.lemmas.Bool.{cases_lt, cases_eq}
use Rattle.std.proofs.lemmas.List.{get_or_default}
use Rattle.vw_names.specs.Division.{root, IsAscending, IsDivision, Same, IsRefinement, division_below}
use Rattle.vw_names.specs.DivisionOrder.{root_here, root_there, root_absent, ascending_tail, head_below, Falls}

-- the items up to one whose key is below are below
pub below_up_to : {X : Type 0} (key_of : X → ℕ) (xs : List X) (at : ℕ) (d : X) (key : ℕ) → AllPairs (λ earlier later. key_of earlier < key_of later) xs → at < length xs → key_of (get_or xs at d) < key → AllWithin (λ x. key_of x < key) xs 0 (at + 1)
below_up_to {X} key_of xs at d key ascends within less = λ k e low high.
    let at_e : key_of (get_or xs at e) < key = subst (λ (x : X). key_of x < key) (get_or_default xs at d e within) less in
    elim (cases_eq k at) [
      | inl same ↦ subst (λ (n : ℕ). key_of (get_or xs n e) < key) (sym same) at_e
      | inr other ↦ let before = ascends k at e (omega arith) within in omega arith
    ]

-- the items from one on whose key is not below are not below
pub above_from : {X : Type 0} (key_of : X → ℕ) (xs : List X) (at : ℕ) (d : X) (key : ℕ) → AllPairs (λ earlier later. key_of earlier < key_of later) xs → at < length xs → key ≤ key_of (get_or xs at d) → AllWithin (λ x. key ≤ key_of x) xs at (length xs)
above_from {X} key_of xs at d key ascends within at_most = λ k e low high.
    let at_e : key ≤ key_of (get_or xs at e) = subst (λ (x : X). key ≤ key_of x) (get_or_default xs at d e within) at_most in
    elim (cases_eq k at) [
      | inl same ↦ subst (λ (n : ℕ). key ≤ key_of (get_or xs n e)) (sym same) at_e
      | inr other ↦ let before = ascends at k e (omega arith) high in omega arith
    ]

-- an entry's root is what stands at its place
pub root_at : (entries : List (ℕ × ℕ)) (i : ℕ) (d : ℕ × ℕ) → IsAscending entries → i < length entries → root entries (get_or entries i d).0 ≡ (get_or entries i d).1
root_at [] i d ascends within = absurd (omega arith)
root_at (entry ∷ rest) zero d ascends within = root_here entry rest entry.0 refl
root_at (entry ∷ rest) (suc i) d ascends within =
    let inside : i < length rest = omega arith in
    let before = head_below entry rest ascends i d inside in
    root_there entry rest (get_or rest i d).0 (λ same. omega arith) ∙ root_at rest i d (ascending_tail entry rest ascends) inside

pub root_at_place : (entries : List (ℕ × ℕ)) (i : ℕ) (d : ℕ × ℕ) (x : ℕ) → IsAscending entries → i < length entries → (get_or entries i d).0 ≡ x → root entries x ≡ (get_or entries i d).1
root_at_place entries i d x ascends within same = ap (root entries) (sym same) ∙ root_at entries i d ascends within

-- a place that stands nowhere between those below it and those above it
pub root_none : (entries : List (ℕ × ℕ)) (x at : ℕ) → IsAscending entries → AllWithin (λ e. e.0 < x) entries 0 at → AllWithin (λ e. x ≤ e.0) entries at (length entries) → ((d : ℕ × ℕ) → at < length entries → (get_or entries at d).0 ≢ x) → root entries x ≡ x
root_none entries x at ascends below above apart = root_absent entries x (λ k d within. elim (cases_lt k at) [
  | inl before ↦ let less = below k d (omega arith) before in λ same. omega arith
  | inr behind ↦ elim (cases_eq k at) [
    | inl here ↦ subst (λ (n : ℕ). (get_or entries n d).0 ≢ x) (sym here) (apart d (omega arith))
    | inr further ↦
        let first = above at d (omega arith) (omega arith) in
        let later = ascends at k d (omega arith) within in
        λ same. omega arith
  ]
])

-- ---- the order, entry by entry

pub roots_by_entries : (low high : List (ℕ × ℕ)) → ((k : ℕ) → k < length high → root low (get_or high k (0, 0)).0 ≡ root low (get_or high k (0, 0)).1) → (x : ℕ) → root low (root high x) ≡ root low x
roots_by_entries low [] each x = refl
roots_by_entries low (entry ∷ rest) each x = elim (cases_eq entry.0 x) [
  | inl same ↦ ap (root low) (root_here entry rest x same) ∙ sym (each 0 (omega arith)) ∙ ap (root low) same
  | inr apart ↦ ap (root low) (root_there entry rest x apart) ∙ roots_by_entries low rest (λ k within. each (suc k) (omega arith)) x
]

pub below_at : (low high : List (ℕ × ℕ)) (k : ℕ) → IsDivision high → k < length high → division_below low high → root low (get_or high k (0, 0)).0 ≡ root low (get_or high k (0, 0)).1
below_at low high k division within below =
    let e : ℕ × ℕ = get_or high k (0, 0) in
    let is = root_at high k (0, 0) division.ascending within in
    below e.0 e.1 (sym (division.settled e.0) ∙ ap (root high) is)

-- a refinement of a division with one that it is not below differs from it
pub refined_differs : (answer : Bool) (old other new low high left right : List (ℕ × ℕ)) → low ≡ other → high ≡ old → left ≡ old → right ≡ other → (IsTrue answer ↔ division_below low high) → answer ≡ false → IsRefinement left right new → new ≢ old
refined_differs answer old other new low high left right low_is high_is left_is right_is means untrue refines same =
    let S : ℕ → ℕ → List (ℕ × ℕ) → Type 0 = λ a b es. Same es a b in
    let L : List (ℕ × ℕ) → Type 0 = λ es. division_below es high in
    let H : List (ℕ × ℕ) → Type 0 = λ es. division_below other es in
    let below : division_below other old = λ a b together. subst (S a b) right_is ((refines a b).0 (subst (S a b) (sym same) together)).1 in
    let yes : answer ≡ true = means.1 (subst L (sym low_is) (subst H (sym high_is) below)) in
    absurd (cc)
