-- Relations between the items of a list.
use Rattle.std.proofs.Common.{◌≡◌, ◌&&◌, ◌||◌, ◌++◌, Bool, true, false, cond, List, [], ◌∷◌, map, Some, None, refl, sym, ap, ◌∙◌, append_assoc}
use Rattle.std.specs.List.{find, filter, list_any, AllByRecursion}
use Rattle.vw_bits.specs.Rules.{each_after, with_earlier}
use Rattle.vw_bits.proofs.ListLemmas.{passed, found_step, find-holds}
use Rattle.vw_image.specs.Bounds.{Pairwise}

-- of two tests that a list's items pass one at most of any two of them, both find the same item
pub find-unique : {X : Type 0} (R : X → X → Type 0) (p q : X → Bool) (xs : List X) (x : X) → Pairwise R xs → ((y : X) → R y x → q y ≡ false) → find p xs ≡ Some x → q x ≡ true → find q xs ≡ Some x
unfolding Pairwise
find-unique R p q [] x pairs apart found passes = cc
find-unique R p q (y ∷ ys) x pairs apart found passes =
    found_step (λ z. ((w : _) → R w z → q w ≡ false) → q z ≡ true → cond (q y) (Some y) (find q ys) ≡ Some z) p y x (find p ys) (p y) refl
    (λ _ _ here. rw here refl)
    (λ _ is out there. rw (out y (find-holds (R y) p ys x pairs.0 is)) (find-unique R p q ys x pairs.1 out is there))
    found apart passes

module _ {X : Type 0} (P : List X × X → Bool) (R : X → X → Type 0) (tells : (front back : List X) (x y : X) → P (front ++ x ∷ back, y) ≡ false → R x y) where
  behind : (front back xs : List X) (x : X) → find P (each_after (front ++ x ∷ back) xs) ≡ None → AllByRecursion (R x) xs
  behind front back [] x none = tt
  behind front back (y ∷ ys) x none =
      let both = passed (front ++ x ∷ back, y) (find P (each_after ((front ++ x ∷ back) ++ y ∷ []) ys)) (P (front ++ x ∷ back, y)) none in
      let longer : (front ++ x ∷ back) ++ y ∷ [] ≡ front ++ x ∷ (back ++ y ∷ []) = append_assoc front (x ∷ back) (y ∷ []) in
      let rest : find P (each_after (front ++ x ∷ (back ++ y ∷ [])) ys) ≡ None = ap (λ (before : List X). find P (each_after before ys)) (sym longer) ∙ both.1 in
      (tells front back x y both.0, behind front (back ++ y ∷ []) ys x rest)

  pairs_after : (before xs : List X) → find P (each_after before xs) ≡ None → Pairwise R xs
  unfolding Pairwise
  pairs_after before [] none = tt
  pairs_after before (x ∷ xs) none =
      let both = passed (before, x) (find P (each_after (before ++ x ∷ []) xs)) (P (before, x)) none in
      (behind before [] xs x both.1, pairs_after (before ++ x ∷ []) xs both.1)

  -- where no item fails with those before it, the items are related as such a failure would tell
  pub Pairwise-from_earlier : (xs : List X) → find P (with_earlier xs) ≡ None → Pairwise R xs
  Pairwise-from_earlier xs none = pairs_after [] xs none

filtered : {X Y : Type 0} (Q : Y → Type 0) (f : X → Y) (p : X → Bool) (x : X) (rest : List X) (passes : Bool) → p x ≡ passes → (p x ≡ true → Q (f x)) → AllByRecursion Q (map f rest) → AllByRecursion Q (map f (cond passes (x ∷ rest) rest))
filtered Q f p x rest true is here all = (here is, all)
filtered Q f p x rest false is here all = all

-- what holds of each item that passes, through a map of these
pub All-map_filter : {X Y : Type 0} (P : X → Type 0) (Q : Y → Type 0) (f : X → Y) (p : X → Bool) (xs : List X) → ((x : X) → P x → p x ≡ true → Q (f x)) → AllByRecursion P xs → AllByRecursion Q (map f (filter p xs))
All-map_filter P Q f p [] step all = tt
All-map_filter P Q f p (x ∷ xs) step all =
    filtered Q f p x (filter p xs) (p x) refl (λ is. step x all.0 is) (All-map_filter P Q f p xs step all.1)

pairs_step : {X Y : Type 0} (S : Y → Y → Type 0) (f : X → Y) (p : X → Bool) (x : X) (rest : List X) (passes : Bool) → p x ≡ passes → (p x ≡ true → AllByRecursion (S (f x)) (map f rest)) → Pairwise S (map f rest) → Pairwise S (map f (cond passes (x ∷ rest) rest))
unfolding Pairwise
pairs_step S f p x rest true is here pairs = (here is, pairs)
pairs_step S f p x rest false is here pairs = pairs

pub Pairwise-map_filter : {X Y : Type 0} (R : X → X → Type 0) (S : Y → Y → Type 0) (f : X → Y) (p : X → Bool) (xs : List X) → ((x y : X) → R x y → p x ≡ true → p y ≡ true → S (f x) (f y)) → Pairwise R xs → Pairwise S (map f (filter p xs))
unfolding Pairwise
Pairwise-map_filter R S f p [] step pairs = tt
Pairwise-map_filter R S f p (x ∷ xs) step pairs =
    pairs_step S f p x (filter p xs) (p x) refl
    (λ is. All-map_filter (R x) (S (f x)) f p xs (λ y related there. step x y related is there) pairs.0)
    (Pairwise-map_filter R S f p xs step pairs.1)

any_kept : {X : Type 0} (f : X → Bool) (x : X) (rest : List X) (passes tail : Bool) → list_any f rest ≡ tail → list_any f (cond passes (x ∷ rest) rest) ≡ ((passes && f x) || tail)
any_kept f x rest true tail is = ap (λ (b : Bool). f x || b) is
any_kept f x rest false tail is = is

pub any-filter : {X : Type 0} (f p : X → Bool) (xs : List X) → list_any f (filter p xs) ≡ list_any (λ x. p x && f x) xs
any-filter f p [] = refl
any-filter f p (x ∷ xs) = any_kept f x (filter p xs) (p x) _ (any-filter f p xs)

-- the items before one are related to it
pub Pairwise-before : {X : Type 0} (R : X → X → Type 0) (front : List X) (x : X) (back : List X) → Pairwise R (front ++ x ∷ back) → AllByRecursion (λ y. R y x) front
unfolding Pairwise
Pairwise-before R [] x back pairs = tt
Pairwise-before R (y ∷ front) x back pairs = (after front pairs.0, Pairwise-before R front x back pairs.1)
  where
    after : (xs : List _) → AllByRecursion (R y) (xs ++ x ∷ back) → R y x
    after [] all = all.0
    after (z ∷ xs) all = after xs all.1

kept_all : {X : Type 0} (P : X → Type 0) (x : X) (rest : List X) (passes : Bool) → P x → AllByRecursion P rest → AllByRecursion P (cond passes (x ∷ rest) rest)
kept_all P x rest true here all = (here, all)
kept_all P x rest false here all = all

pub All-filter : {X : Type 0} (P : X → Type 0) (p : X → Bool) (xs : List X) → AllByRecursion P xs → AllByRecursion P (filter p xs)
All-filter P p [] all = tt
All-filter P p (x ∷ xs) all = kept_all P x (filter p xs) (p x) all.0 (All-filter P p xs all.1)
