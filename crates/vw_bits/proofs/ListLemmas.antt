-- The first item that passes, the items before it, and loops that look for them.
use Rattle.std.proofs.Common.{◌≡◌, ℕ, ◌+◌, ◌<◌, ◌≤◌, ◌&&◌, ◌||◌, ◌⊎◌, inl, inr, Bool, true, false, cond, List, [], ◌∷◌, ◌++◌, length, get_or, take, drop, All, Option, Some, None, is_some, option_map, refl, sym, ap, ◌∙◌, subst, arith, zero, suc, drop-cons}
use Rattle.std.specs.List.{find, list_any, AllByRecursion}
use Rattle.std.proofs.lemmas.Bool.{false≢true}
use Rattle.std.proofs.lemmas.List.{take_more, take_all, take-append-drop}
use Rattle.std.proofs.lemmas.List.Elements.{All-head, All-tail}
use Rattle.std.proofs.lemmas.List.Folds.{find-append, list_any-append}
use Rattle.vw_bits.specs.Lists.{before_first}

pub not_true : (b : Bool) → (b ≡ true → ⊥) → b ≡ false
not_true true out = absurd (out refl)
not_true false out = refl

pub or_left : (a b : Bool) → (a || b) ≡ false → a ≡ false
or_left true b none = cc
or_left false b none = refl

pub or_right : (a b : Bool) → (a || b) ≡ false → b ≡ false
or_right true b none = cc
or_right false b none = none

pub or_true : (b : Bool) → (b || true) ≡ true
or_true true = refl
or_true false = refl

pub or_cases : (a b : Bool) → (a || b) ≡ true → (a ≡ true) ⊎ (b ≡ true)
or_cases true b h = inl refl
or_cases false b h = inr h

pub and_left : (a b : Bool) → (a && b) ≡ true → a ≡ true
and_left true b both = refl
and_left false b both = cc

pub and_right : (a b : Bool) → (a && b) ≡ true → b ≡ true
and_right true b both = both
and_right false b both = cc

-- none is found, and so not this one and not behind it
pub passed : {X : Type 0} (x : X) (rest : Option X) (passes : Bool) → cond passes (Some x) rest ≡ None → (passes ≡ false) × (rest ≡ None)
passed x rest true none = cc
passed x rest false none = (refl, none)

-- the first that passes is this one, or it is found behind it
pub found_step : {X : Type 0} (Q : X → Type 0) (p : X → Bool) (y x : X) (rest : Option X) (passes : Bool) → p y ≡ passes → (p y ≡ true → Q y) → (p y ≡ false → rest ≡ Some x → Q x) → cond passes (Some y) rest ≡ Some x → Q x
found_step Q p y x rest true is here behind found =
    let same : y ≡ x = cc in
    subst Q same (here is)
found_step Q p y x rest false is here behind found = behind is found

-- what is found passes
pub find-passes : {X : Type 0} (p : X → Bool) (xs : List X) (x : X) → find p xs ≡ Some x → p x ≡ true
find-passes p [] x found = cc
find-passes p (y ∷ ys) x found =
    found_step (λ z. p z ≡ true) p y x (find p ys) (p y) refl (λ is. is) (λ _ is. find-passes p ys x is) found

-- what holds of each holds of the one that is found
pub find-holds : {X : Type 0} (P : X → Type 0) (p : X → Bool) (xs : List X) (x : X) → AllByRecursion P xs → find p xs ≡ Some x → P x
find-holds P p [] x all found = cc
find-holds P p (y ∷ ys) x all found =
    found_step P p y x (find p ys) (p y) refl (λ _. all.0) (λ _ is. find-holds P p ys x all.1 is) found

-- one that is found is one that passes another test
pub any-from_find : {X : Type 0} (p q : X → Bool) (xs : List X) (x : X) → find p xs ≡ Some x → q x ≡ true → list_any q xs ≡ true
any-from_find p q [] x found passes = cc
any-from_find p q (y ∷ ys) x found passes =
    found_step (λ z. q z ≡ true → (q y || list_any q ys) ≡ true) p y x (find p ys) (p y) refl
    (λ _ here. rw here refl)
    (λ _ is there. rw (any-from_find p q ys x is there) (or_true (q y)))
    found passes

some_step : {X : Type 0} (x : X) (rest : Option X) (passes : Bool) → is_some (cond passes (Some x) rest) ≡ (passes || is_some rest)
some_step x rest true = refl
some_step x rest false = refl

pub find-any : {X : Type 0} (p : X → Bool) (xs : List X) → is_some (find p xs) ≡ list_any p xs
find-any p [] = refl
find-any p (x ∷ xs) = some_step x (find p xs) (p x) ∙ ap (λ (b : Bool). p x || b) (find-any p xs)

-- none is found where none passes a weaker test
pub find-none : {X : Type 0} (p q : X → Bool) (xs : List X) → ((x : X) → p x ≡ true → q x ≡ true) → list_any q xs ≡ false → find p xs ≡ None
find-none p q [] weaker none = refl
find-none p q (x ∷ xs) weaker none =
    let here : p x ≡ false = not_true (p x) (λ is. false≢true (sym (or_left (q x) (list_any q xs) none) ∙ weaker x is)) in
    rw here (find-none p q xs weaker (or_right (q x) (list_any q xs) none))

-- none that passes is among those of which a fact holds that rules it out
pub find-ruled_out : {X : Type 0} (P : X → Type 0) (p : X → Bool) (xs : List X) → AllByRecursion P xs → ((x : X) → P x → p x ≡ false) → find p xs ≡ None
find-ruled_out P p [] all out = refl
find-ruled_out P p (x ∷ xs) all out = rw (out x all.0) (find-ruled_out P p xs all.1 out)

pub find_none-All : {X : Type 0} (p : X → Bool) (xs : List X) → find p xs ≡ None → AllByRecursion (λ x. p x ≡ false) xs
find_none-All p [] none = tt
find_none-All p (x ∷ xs) none =
    let both = passed x (find p xs) (p x) none in
    (both.0, find_none-All p xs both.1)

pub All-weaker : {X : Type 0} (P Q : X → Type 0) (xs : List X) → ((x : X) → P x → Q x) → AllByRecursion P xs → AllByRecursion Q xs
All-weaker P Q [] weaker all = tt
All-weaker P Q (x ∷ xs) weaker all = (weaker x all.0, All-weaker P Q xs weaker all.1)

pub before_first-here : {X : Type 0} (p : X → Bool) (xs : List X) (y : X) (ys : List X) → list_any p xs ≡ false → p y ≡ true → before_first p (xs ++ y ∷ ys) ≡ Some xs
before_first-here p [] y ys none here = rw here refl
before_first-here p (x ∷ xs) y ys none here =
    let first : p x ≡ false = or_left (p x) (list_any p xs) none in
    let rest : list_any p xs ≡ false = or_right (p x) (list_any p xs) none in
    rw (first, before_first-here p xs y ys rest here) refl

pub before_first-none : {X : Type 0} (p : X → Bool) (xs : List X) → list_any p xs ≡ false → before_first p xs ≡ None
before_first-none p [] none = refl
before_first-none p (x ∷ xs) none =
    let first : p x ≡ false = or_left (p x) (list_any p xs) none in
    let rest : list_any p xs ≡ false = or_right (p x) (list_any p xs) none in
    rw (first, before_first-none p xs rest) refl

longer : {X : Type 0} (x : X) (n : ℕ) (behind : Option (List X)) (front : List X) → ((f : List X) → behind ≡ Some f → n ≤ length f) → option_map (λ f. x ∷ f) behind ≡ Some front → suc n ≤ length front
longer x n None front rest is = cc
longer x n (Some f) front rest is =
    let same : x ∷ f ≡ front = cc in
    let count : n ≤ length f = rest f refl in
    let P : List _ → Type 0 = λ ys. suc n ≤ length ys in
    subst P same (omega arith)

-- where the first n items fail, at least n stand before the first that passes
pub before_first-long : {X : Type 0} (p : X → Bool) (n : ℕ) (xs : List X) (front : List X) → list_any p (take n xs) ≡ false → n ≤ length xs → before_first p xs ≡ Some front → n ≤ length front
before_first-long p zero xs front none inside found = omega arith
before_first-long p (suc n) [] front none inside found = absurd (omega arith)
before_first-long p (suc n) (x ∷ xs) front none inside found =
    let first : p x ≡ false = or_left (p x) (list_any p (take n xs)) none in
    let rest : list_any p (take n xs) ≡ false = or_right (p x) (list_any p (take n xs)) none in
    let within : n ≤ length xs = omega arith in
    let behind = rw first at found in
    longer x n (before_first p xs) front (λ f is. before_first-long p n xs f rest within is) behind

-- a list split at an item
pub split_at : {X : Type 0} (xs : List X) (i : ℕ) (d : X) → i < length xs → xs ≡ take i xs ++ get_or xs i d ∷ drop (suc i) xs
split_at xs i d inside = sym (take-append-drop i xs) ∙ ap (λ (ys : List _). take i xs ++ ys) (drop-cons xs i d inside)

pub any_more : {X : Type 0} (p : X → Bool) (xs : List X) (i : ℕ) (d : X) → i < length xs → list_any p (take i xs) ≡ false → p (get_or xs i d) ≡ false → list_any p (take (i + 1) xs) ≡ false
any_more p xs i d inside before here =
    let step : take (i + 1) xs ≡ take i xs ++ get_or xs i d ∷ [] = take_more xs i d inside in
    rw (step, list_any-append, before, here) refl

pub find_more : {X : Type 0} (p : X → Bool) (xs : List X) (i : ℕ) (d : X) → i < length xs → find p (take i xs) ≡ None → p (get_or xs i d) ≡ false → find p (take (i + 1) xs) ≡ None
find_more p xs i d inside before here =
    let step : take (i + 1) xs ≡ take i xs ++ get_or xs i d ∷ [] = take_more xs i d inside in
    rw (step, find-append, before, here) refl

pub find_here : {X : Type 0} (p : X → Bool) (xs : List X) (i : ℕ) (d : X) → i < length xs → find p (take i xs) ≡ None → p (get_or xs i d) ≡ true → find p xs ≡ Some (get_or xs i d)
find_here p xs i d inside before here =
    let step : find p (take i xs ++ get_or xs i d ∷ drop (suc i) xs) ≡ Some (get_or xs i d) = rw (find-append, before, here) refl in
    ap (find p) (split_at xs i d inside) ∙ step

pub find_past : {X : Type 0} (p : X → Bool) (xs : List X) (i : ℕ) → length xs ≤ i → find p (take i xs) ≡ None → find p xs ≡ None
find_past p xs i past none = ap (find p) (sym (take_all i xs past)) ∙ none

-- what is found passes, and is one of the items
pub find_holds : {X : Type 0} (P : X → Type 0) (p : X → Bool) (xs : List X) (x : X) → All P xs → find p xs ≡ Some x → P x × (p x ≡ true)
find_holds P p [] x all found = cc
find_holds P p (y ∷ ys) x all found =
    found_step (λ z. P z × (p z ≡ true)) p y x (find p ys) (p y) refl (λ is. (All-head P y ys all, is)) (λ _ is. find_holds P p ys x (All-tail P y ys all) is) found
