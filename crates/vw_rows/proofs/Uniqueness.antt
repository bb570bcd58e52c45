use Rattle.std.proofs.Common.{◌≡◌, Bool, true, false, not, ◌&&◌, Option, None, Some, IfSome, List, [], ◌∷◌, refl, sym, ◌∙◌, ap, subst, inl, inr}
use Rattle.std.proofs.lemmas.Bool.{and_parts, cases_Bool, false≢true}
use Rattle.std.specs.List.{find, list_all}
use Rattle.vw_rows.specs.declared.patterns.Key.{Key}
use Rattle.vw_rows.specs.declared.forms.Row.{Row}
use Rattle.vw_rows.specs.Rows.{rows}
use Rattle.vw_rows.specs.Lookup.{IsIn, matches}
use Rattle.vw_rows.proofs.Matching.{clash, matches-clash}

-- no two rows of the list have a key in common
abbrev apart : List Row → Bool
apart [] = true
apart (x ∷ xs) = list_all (λ (y : Row). not (clash x y)) xs && apart xs

rows_apart : apart rows ≡ true
unfolding rows
rows_apart = refl

all_at : (p : Row → Bool) (xs : List Row) → list_all p xs ≡ true → (r : Row) → IsIn r xs → p r ≡ true
all_at p [] h r i = absurd i
all_at p (x ∷ xs) h r (inl e) = subst (λ (y : Row). p y ≡ true) e (and_parts (p x) (list_all p xs) h).0
all_at p (x ∷ xs) h r (inr i) = all_at p xs (and_parts (p x) (list_all p xs) h).1 r i

not-true : (b : Bool) → not b ≡ true → b ≡ true → ⊥
not-true true h i = false≢true h
not-true false h i = false≢true i

one_of : (k : Key) (r s : Row) (xs : List Row) → apart xs ≡ true → IsIn r xs → IsIn s xs → matches r k ≡ true → matches s k ≡ true → r ≡ s
one_of k r s [] h i j a b = absurd i
one_of k r s (x ∷ xs) h (inl e) (inl f) a b = sym e ∙ f
one_of k r s (x ∷ xs) h (inl e) (inr j) a b =
    let rest = (and_parts (list_all (λ (y : Row). not (clash x y)) xs) (apart xs) h).0 in
    let a' = subst (λ (y : Row). matches y k ≡ true) (sym e) a in
    absurd (not-true (clash x s) (all_at (λ (y : Row). not (clash x y)) xs rest s j) (matches-clash x s k a' b))
one_of k r s (x ∷ xs) h (inr i) (inl f) a b =
    let rest = (and_parts (list_all (λ (y : Row). not (clash x y)) xs) (apart xs) h).0 in
    let b' = subst (λ (y : Row). matches y k ≡ true) (sym f) b in
    absurd (not-true (clash x r) (all_at (λ (y : Row). not (clash x y)) xs rest r i) (matches-clash x r k b' a))
one_of k r s (x ∷ xs) h (inr i) (inr j) a b =
    one_of k r s xs (and_parts (list_all (λ (y : Row). not (clash x y)) xs) (apart xs) h).1 i j a b

-- no key has two rows
pub one_row : (k : Key) (r s : Row) → IsIn r rows → IsIn s rows → matches r k ≡ true → matches s k ≡ true → r ≡ s
one_row k r s i j a b = one_of k r s rows rows_apart i j a b

IfSome-more : (o : Option Row) (P Q : Row → Type 0) → ((r : Row) → P r → Q r) → IfSome o P → IfSome o Q
IfSome-more None P Q more h = tt
IfSome-more (Some r) P Q more h = more r h

find-some : (p : Row → Bool) (xs : List Row) → IfSome (find p xs) (λ r. IsIn r xs × (p r ≡ true))
find-some p [] = tt
find-some p (x ∷ xs) =
    elim (cases_Bool (p x)) [
      | inl hit ↦ rw hit (inl refl, hit)
      | inr miss ↦ rw miss (IfSome-more (find p xs) (λ (r : Row). IsIn r xs × (p r ≡ true)) (λ (r : Row). IsIn r (x ∷ xs) × (p r ≡ true)) (λ (r : Row) h. (inr h.0, h.1)) (find-some p xs))
    ]

find-there : (p : Row → Bool) (xs : List Row) (r : Row) → IsIn r xs → p r ≡ true → (s : Row) × (find p xs ≡ Some s)
find-there p [] r i h = absurd i
find-there p (x ∷ xs) r (inl e) h =
    let hit : p x ≡ true = subst (λ (y : Row). p y ≡ true) (sym e) h in
    (x, rw hit refl)
find-there p (x ∷ xs) r (inr i) h =
    elim (cases_Bool (p x)) [
      | inl hit ↦ (x, rw hit refl)
      | inr miss ↦ (let rest = find-there p xs r i h in (rest.0, rw miss rest.1))
    ]

-- the search in all rows answers a row of the key
pub find_is : (k : Key) (r : Row) → find (λ (s : Row). matches s k) rows ≡ Some r → IsIn r rows × (matches r k ≡ true)
find_is k r is = subst (λ (o : Option Row). IfSome o (λ (s : Row). IsIn s rows × (matches s k ≡ true))) is (find-some (λ (s : Row). matches s k) rows)

-- a row of the key is what the search in all rows answers
pub find_row : (k : Key) (r : Row) → IsIn r rows → matches r k ≡ true → find (λ (s : Row). matches s k) rows ≡ Some r
find_row k r there hit =
    let found = find-there (λ (s : Row). matches s k) rows r there hit in
    let fact = find_is k found.0 found.1 in
    found.1 ∙ ap (λ (s : Row). Some s) (one_row k found.0 r fact.0 there fact.1 hit)

abbrev no_row : Option Row
no_row = None

none_found : (k : Key) (o : Option Row) → o ≡ find (λ (s : Row). matches s k) rows → ((r : Row) → IsIn r rows → matches r k ≡ true → no_row ≡ Some r) → no_row ≡ find (λ (s : Row). matches s k) rows
none_found k None is only = is
none_found k (Some r) is only = let fact = find_is k r (sym is) in only r fact.0 fact.1 ∙ is

-- an answer that is a row of the key, and that each row of the key is, is what the search answers
pub find_answer : (k : Key) (answer : Option Row) → IfSome answer (λ (r : Row). IsIn r rows × (matches r k ≡ true)) → ((r : Row) → IsIn r rows → matches r k ≡ true → answer ≡ Some r) → answer ≡ find (λ (s : Row). matches s k) rows
find_answer k (Some r) found only = sym (find_row k r found.0 found.1)
find_answer k None found only = none_found k (find (λ (s : Row). matches s k) rows) refl only

-- a test that each row passes
pub rows_all : (p : Row → Bool) → list_all p rows ≡ true → (r : Row) → IsIn r rows → p r ≡ true
rows_all p h r i = all_at p rows h r i

-- what the search in all rows answers
pub row_found : (k : Key) (answer : Option Row) → answer ≡ find (λ (r : Row). matches r k) rows → IfSome answer (λ (r : Row). IsIn r rows × (matches r k ≡ true))
row_found k answer e = subst (λ (o : Option Row). IfSome o (λ (r : Row). IsIn r rows × (matches r k ≡ true))) (sym e) (find-some (λ (r : Row). matches r k) rows)

pub row_only : (k : Key) (answer : Option Row) → answer ≡ find (λ (r : Row). matches r k) rows → (r : Row) → IsIn r rows → matches r k ≡ true → answer ≡ Some r
row_only k answer e r there hit = e ∙ find_row k r there hit
