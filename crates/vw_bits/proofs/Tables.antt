-- Tables grow by one item at their end, and the first item that passes a test is found on the way.
use Rattle.std.proofs.Common.{◌≡◌, ℕ, ◌+◌, ◌*◌, ◌<◌, Bool, true, false, cond, List, [], ◌∷◌, ◌++◌, length, get_or, take, drop, map, Some, None, refl, sym, ap, ◌∙◌, subst, arith, zero, suc, ◌-◌, ◌==◌, add-zero, append_assoc}
use Rattle.std.specs.List.{find, filter}
use Rattle.std.proofs.lemmas.Bool.Decides.{nat_tests}
use Rattle.std.proofs.lemmas.List.FromFn.{map-range_with_len_more}
use Rattle.std.proofs.lemmas.List.{map-append, take_more, append-nil, take-append-drop}
use Rattle.std.proofs.lemmas.List.Elements.{filter-append}
use Rattle.std.proofs.lemmas.List.Folds.{find-append}
use Rattle.vw_bits.specs.Headers.{table}
use Rattle.vw_bits.specs.Rules.{each_after, with_earlier}

pub table-none : (at size : ℕ) → table at size 0 ≡ []
unfolding table
table-none at size = refl

pub table-more : (at size n : ℕ) → table at size (n + 1) ≡ table at size n ++ (at + size * n) ∷ []
unfolding table
table-more at size n = map-range_with_len_more (λ k. at + size * k) 0 n n (omega arith)

-- a loop over a table that looks for the first item that passes
pub find_table_more : (p : ℕ → Bool) (at size n x : ℕ) → x ≡ at + size * n → find p (table at size n) ≡ None → p x ≡ false → find p (table at size (n + 1)) ≡ None
find_table_more p at size n x is before here =
    let last : p (at + size * n) ≡ false = rw (← is) here in
    rw (table-more, find-append, before, last) refl

-- the rest of a table does not matter once an item passes
pub find_front : {X : Type 0} (p : X → Bool) (xs ys : List X) (x : X) → find p xs ≡ Some x → find p (xs ++ ys) ≡ Some x
find_front p xs ys x found = rw (find-append, found) refl

pub table-split : (at size n m : ℕ) → table at size (n + m) ≡ table at size n ++ table (at + size * n) size m
table-split at size n zero = rw (add-zero, table-none, append-nil) refl
table-split at size n (suc m) =
    let count : n + suc m ≡ (n + m) + 1 = omega arith in
    let whole : suc m ≡ m + 1 = omega arith in
    let last : at + size * (n + m) ≡ at + size * n + size * m = omega arith in
    rw (count, whole, table-more at size (n + m), table-more (at + size * n) size m, table-split at size n m, append_assoc, last) refl

-- a table split at an item
pub table_split_at : (at size n more : ℕ) → table at size ((n + 1) + more) ≡ table at size n ++ (at + size * n) ∷ table (at + size * (n + 1)) size more
table_split_at at size n more = rw (table-split at size (n + 1) more, table-more at size n, append_assoc) refl

pub table-at : (at size n count : ℕ) → n < count → (more : ℕ) × (table at size count ≡ table at size n ++ (at + size * n) ∷ table (at + size * (n + 1)) size more)
table-at at size n count inside =
    let whole : (n + 1) + (count - (n + 1)) ≡ count = omega arith in
    let P : ℕ → Type 0 = λ k. table at size k ≡ table at size n ++ (at + size * n) ∷ table (at + size * (n + 1)) size (count - (n + 1)) in
    (count - (n + 1), subst P whole (table_split_at at size n (count - (n + 1))))

pub find_table_here : (p : ℕ → Bool) (at size n count x : ℕ) → n < count → x ≡ at + size * n → find p (table at size n) ≡ None → p x ≡ true → find p (table at size count) ≡ Some x
find_table_here p at size n count x inside is before here =
    let whole : count ≡ (n + 1) + (count - (n + 1)) = omega arith in
    let last : p (at + size * n) ≡ true = rw (← is) here in
    let front : find p (table at size (n + 1)) ≡ Some (at + size * n) = rw (table-more, find-append, before, last) refl in
    rw (whole, table-split at size (n + 1) (count - (n + 1)), is) (find_front p _ _ _ front)

map_kept : {X : Type 0} (f : ℕ → X) (x : ℕ) (passes : Bool) → map f (cond passes (x ∷ []) []) ≡ cond passes (f x ∷ []) []
map_kept f x true = refl
map_kept f x false = refl

-- a loop over a table that keeps what passes
pub kept_more : {X : Type 0} (f : ℕ → X) (p : ℕ → Bool) (at size n x : ℕ) → x ≡ at + size * n → map f (filter p (table at size (n + 1))) ≡ map f (filter p (table at size n)) ++ cond (p x) (f x ∷ []) []
kept_more f p at size n x is =
    rw (table-more, filter-append, map-append, ← is, map_kept f x (p x)) refl

-- each item with those before it, at one more item
each_after-more : {X : Type 0} (before xs : List X) (x : X) → each_after before (xs ++ x ∷ []) ≡ each_after before xs ++ (before ++ xs, x) ∷ []
each_after-more before [] x = rw append-nil refl
each_after-more before (y ∷ xs) x =
    let front : (before ++ y ∷ []) ++ xs ≡ before ++ y ∷ xs = append_assoc before (y ∷ []) xs in
    rw (each_after-more (before ++ y ∷ []) xs x, front) refl

pub with_earlier-more : {X : Type 0} (xs : List X) (x : X) → with_earlier (xs ++ x ∷ []) ≡ with_earlier xs ++ (xs, x) ∷ []
with_earlier-more xs x = each_after-more [] xs x

each_after-append : {X : Type 0} (before xs ys : List X) → each_after before (xs ++ ys) ≡ each_after before xs ++ each_after (before ++ xs) ys
each_after-append before [] ys = rw append-nil refl
each_after-append before (y ∷ xs) ys =
    let front : (before ++ y ∷ []) ++ xs ≡ before ++ y ∷ xs = append_assoc before (y ∷ []) xs in
    rw (each_after-append (before ++ y ∷ []) xs ys, front) refl

-- a loop that looks for the first item that clashes with those before it
pub find_earlier_more : {X : Type 0} (p : List X × X → Bool) (xs : List X) (i : ℕ) (d : X) → i < length xs → find p (with_earlier (take i xs)) ≡ None → p (take i xs, get_or xs i d) ≡ false → find p (with_earlier (take (i + 1) xs)) ≡ None
find_earlier_more p xs i d inside before here =
    let step : take (i + 1) xs ≡ take i xs ++ get_or xs i d ∷ [] = take_more xs i d inside in
    rw (step, with_earlier-more, find-append, before, here) refl

pub find_earlier_here : {X : Type 0} (p : List X × X → Bool) (xs : List X) (i : ℕ) (d : X) → i < length xs → find p (with_earlier (take i xs)) ≡ None → p (take i xs, get_or xs i d) ≡ true → find p (with_earlier xs) ≡ Some (take i xs, get_or xs i d)
find_earlier_here p xs i d inside before here =
    let step : take (i + 1) xs ≡ take i xs ++ get_or xs i d ∷ [] = take_more xs i d inside in
    let whole : with_earlier xs ≡ with_earlier (take (i + 1) xs) ++ each_after (take (i + 1) xs) (drop (i + 1) xs) = ap with_earlier (sym (take-append-drop (i + 1) xs)) ∙ each_after-append [] (take (i + 1) xs) (drop (i + 1) xs) in
    let front : find p (with_earlier (take (i + 1) xs)) ≡ Some (take i xs, get_or xs i d) = rw (step, with_earlier-more, find-append, before, here) refl in
    rw whole (find_front p _ _ _ front)

pub kept_push : {X : Type 0} (f : ℕ → X) (p : ℕ → Bool) (at size n x : ℕ) (kept longer : List X) → x ≡ at + size * n → kept ≡ map f (filter p (table at size n)) → p x ≡ true → longer ≡ kept ++ f x ∷ [] → longer ≡ map f (filter p (table at size (n + 1)))
kept_push f p at size n x kept longer is before here pushed =
    rw (kept_more f p at size n x is, here, ← before) pushed

pub kept_skip : {X : Type 0} (f : ℕ → X) (p : ℕ → Bool) (at size n x : ℕ) (kept : List X) → x ≡ at + size * n → kept ≡ map f (filter p (table at size n)) → p x ≡ false → kept ≡ map f (filter p (table at size (n + 1)))
kept_skip f p at size n x kept is before here =
    rw (kept_more f p at size n x is, here, append-nil) before

pub test_passes : (a b k : ℕ) → a ≡ b → a ≡ k → (b == k) ≡ true
test_passes a b k is here = grind (arith, nat_tests)

pub test_fails : (a b k : ℕ) → a ≡ b → (a ≡ k → ⊥) → (b == k) ≡ false
test_fails a b k is here = grind (arith, nat_tests)
