-- A loop that reads items one after the other reads what the item of many reads.
use Rattle.std.proofs.Common.{◌≡◌, ℕ, suc, ◌+◌, ◌-◌, ◌<◌, ◌≤◌, List, [], ◌∷◌, ◌++◌, Option, Some, None, refl, sym, ap, ◌∙◌, append_assoc, arith}
use Rattle.std.proofs.lemmas.List.{append-nil}
use Rattle.vw_report.specs.Items.{Item, after, many_at, read_many, with_first, ◌>>=◌}
use Rattle.vw_report.proofs.ListLaws.{many_more}

-- what was read before, and what is still read
abbrev pub with_front : {A : Type 0} → List A → Option (List A × List ℕ) → Option (List A × List ℕ)
with_front xs None = None
with_front xs (Some y) = Some (xs ++ y.0, y.1)

pub regroup : {A : Type 0} (xs : List A) (a : A) (r : Option (List A × List ℕ)) → with_front xs (with_first a r) ≡ with_front (xs ++ a ∷ []) r
regroup xs a None = refl
regroup xs a (Some y) = ap (λ z. Some (z, y.1)) (sym (append_assoc xs (a ∷ []) y.0))

pub many_on : {A : Type 0} (s : List ℕ) (i : Item A) (n k : ℕ) (xs : List A) (b r : List ℕ) (a : A) (t : List ℕ) → k < n → after s b ≡ Some r → i.read r ≡ Some (a, t)
    → with_front (xs ++ a ∷ []) (read_many (n - (k + 1)) s i t) ≡ with_front xs (read_many (n - k) s i b)
many_on s i n k xs b r a t lt e f =
    let z : n - k ≡ suc (n - (k + 1)) = omega arith in
    sym (ap (λ m. with_front xs (read_many m s i b)) z ∙ ap (with_front xs) (many_more s i (n - (k + 1)) b r a t e f) ∙ regroup xs a _)

pub many_done : {A : Type 0} (s : List ℕ) (i : Item A) (n k : ℕ) (xs : List A) (b : List ℕ) → k < n → after s b ≡ None → with_front xs (read_many (n - k) s i b) ≡ Some (xs, b)
many_done s i n k xs b lt e =
    let z : n - k ≡ suc (n - (k + 1)) = omega arith in
    ap (λ m. with_front xs (read_many m s i b)) z ∙ ap (λ o. with_front xs (many_at i (read_many (n - (k + 1)) s i) b o)) e ∙ ap (λ y. Some (y, b)) (append-nil xs)

pub many_bad : {A : Type 0} (s : List ℕ) (i : Item A) (n k : ℕ) (xs : List A) (b r : List ℕ) → k < n → after s b ≡ Some r → i.read r ≡ None → with_front xs (read_many (n - k) s i b) ≡ None
many_bad s i n k xs b r lt e f =
    let z : n - k ≡ suc (n - (k + 1)) = omega arith in
    ap (λ m. with_front xs (read_many m s i b)) z ∙ ap (λ o. with_front xs (many_at i (read_many (n - (k + 1)) s i) b o)) e
    ∙ ap (λ o. with_front xs (o >>= λ x. with_first x.0 (read_many (n - (k + 1)) s i x.1))) f

pub many_end : {A : Type 0} (s : List ℕ) (i : Item A) (n k : ℕ) (xs : List A) (b : List ℕ) → n ≤ k → with_front xs (read_many (n - k) s i b) ≡ Some (xs, b)
many_end s i n k xs b le =
    let z : n - k ≡ 0 = omega arith in
    ap (λ m. with_front xs (read_many m s i b)) z ∙ ap (λ y. Some (y, b)) (append-nil xs)
