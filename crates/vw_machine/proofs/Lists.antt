-- Items of a list that pass a test.
use Rattle.std.proofs.Common.{◌≡◌, ◌⊎◌, inl, inr, ℕ, zero, suc, ◌<◌, ◌≤◌, ◌&&◌, ◌||◌, Bool, true, false, List, [], ◌∷◌, length, get_or, map, Option, Some, None, Result, Ok, Err, refl, sym, ◌∙◌, ap, arith, cond}
use Rattle.std.specs.Prelude.{Contains, nat_lt, position, is_some, IfNone, IfOk}
use Rattle.std.specs.List.{list_any, position_or_len}
use Rattle.std.proofs.lemmas.Bool.{false≢true}
use Rattle.std.proofs.lemmas.Bool.Decides.{nat_tests}
use Rattle.std.proofs.lemmas.List.Sums.{fails_before_first}
use Rattle.std.proofs.lemmas.List.Quantifiers.{position-Some}

pub or_cases : (a b : Bool) → (a || b) ≡ true → (a ≡ true) ⊎ (b ≡ true)
or_cases true b h = inl refl
or_cases false b h = inr h

pub or_left : (a b : Bool) → a ≡ true → (a || b) ≡ true
or_left true b h = refl
or_left false b h = absurd (false≢true h)

pub or_right : (a b : Bool) → b ≡ true → (a || b) ≡ true
or_right true b h = refl
or_right false b h = h

pub and_parts : (a b : Bool) → (a && b) ≡ true → (a ≡ true) × (b ≡ true)
and_parts true b h = (refl, h)
and_parts false b h = absurd (false≢true h)

pub and_both : (a b : Bool) → a ≡ true → b ≡ true → (a && b) ≡ true
and_both true b one two = two
and_both false b one two = absurd (false≢true one)

-- where one passes, some does
pub any_of : {X : Type 0} (p : X → Bool) (xs : List X) (x : X) → Contains xs x → p x ≡ true → list_any p xs ≡ true
any_of p [] x (k, inside, is) passes = absurd (omega arith)
any_of p (y ∷ xs) x (zero, inside, is) passes = or_left (p y) (list_any p xs) (ap p is ∙ passes)
any_of p (y ∷ xs) x (suc k, inside, is) passes = or_right (p y) (list_any p xs) (any_of p xs x (k, omega arith, is) passes)

-- where some does, here is one that passes
pub one_of : {X : Type 0} (p : X → Bool) (xs : List X) → list_any p xs ≡ true → (x : X) × Contains xs x × (p x ≡ true)
one_of p [] some = absurd (false≢true some)
one_of p (y ∷ xs) some =
    elim (or_cases (p y) (list_any p xs) some) [
      | inl here ↦ (y, (0, omega arith, refl), here)
      | inr later ↦ let x = one_of p xs later in (x.0, (suc x.1.0, omega (arith, x.1.1), x.1.2), x.2)
    ]

pub Contains-map : {X Y : Type 0} (f : X → Y) (xs : List X) (x : X) → Contains xs x → Contains (map f xs) (f x)
Contains-map f [] x (k, inside, is) = absurd (omega arith)
Contains-map f (y ∷ xs) x (zero, inside, is) = (0, omega arith, ap f is)
Contains-map f (y ∷ xs) x (suc k, inside, is) =
    let later = Contains-map f xs x (k, omega arith, is) in (suc later.0, omega (arith, later.1), later.2)

-- each item of a list that is made by a function is that of an item
pub one_mapped : {X Y : Type 0} (f : X → Y) (xs : List X) (y : Y) → Contains (map f xs) y → (x : X) × Contains xs x × (f x ≡ y)
one_mapped f [] y (k, inside, is) = absurd (omega arith)
one_mapped f (x ∷ xs) y (zero, inside, is) = (x, (0, omega arith, refl), is)
one_mapped f (x ∷ xs) y (suc k, inside, is) =
    let later = one_mapped f xs y (k, omega arith, is) in (later.0, (suc later.1.0, omega (arith, later.1.1), later.1.2), later.2)

pub position_passes : {X : Type 0} (p : X → Bool) (xs : List X) (i : ℕ) → position p xs ≡ Some i → (x : X) × (i < length xs) × (get_or xs i x ≡ x) × (p x ≡ true)
position_passes p [] i is = absurd (let none : ◌≡◌ {A = Option ℕ} None (Some i) = is in cc)
position_passes {X} p (y ∷ xs) i is =
    let found = position-Some p (y ∷ xs) i y is in
    let x : X = get_or (y ∷ xs) i y in
    let again = position-Some p (y ∷ xs) i x is in
    (x, found.0, same_read (y ∷ xs) i y x found.0, found.1)
  where
    same_read : {X : Type 0} (xs : List X) (i : ℕ) (d e : X) → i < length xs → get_or xs i e ≡ get_or xs i d
    same_read [] i d e inside = absurd (omega arith)
    same_read (x ∷ xs) zero d e inside = refl
    same_read (x ∷ xs) (suc i) d e inside = same_read xs i d e (omega arith)

found_place : (b : Bool) (n : ℕ) → cond b (Some n) None ≡ None → b ≡ false
found_place true n is = absurd (let some : ◌≡◌ {A = Option ℕ} (Some n) None = is in cc)
found_place false n is = refl

-- where no place is found, none passes
pub none_passes : {X : Type 0} (p : X → Bool) (xs : List X) → position p xs ≡ None → (x : X) → Contains xs x → p x ≡ false
none_passes p xs none x (k, inside, is) =
    let test : nat_lt (position_or_len p xs) (length xs) ≡ false = found_place (nat_lt (position_or_len p xs) (length xs)) (position_or_len p xs) none in
    let all : length xs ≤ position_or_len p xs = grind (arith, nat_tests) in
    ap p (sym is) ∙ fails_before_first p xs k x (omega arith)

none_or_some : {X : Type 0} (p : X → Bool) (xs : List X) (b : Bool) → list_any p xs ≡ b → position p xs ≡ None → b ≡ false
none_or_some p xs true is none = let x = one_of p xs is in absurd (false≢true (sym (none_passes p xs none x.0 x.1) ∙ x.2))
none_or_some p xs false is none = refl

some_by : {X : Type 0} (p : X → Bool) (xs : List X) (o : Option ℕ) → position p xs ≡ o → is_some o ≡ list_any p xs
some_by p xs None is = sym (none_or_some p xs (list_any p xs) refl is)
some_by p xs (Some i) is = let x = position_passes p xs i is in sym (any_of p xs x.0 (i, x.1, x.2) x.3)

-- a place is found where one passes
pub is_some-position : {X : Type 0} (p : X → Bool) (xs : List X) → is_some (position p xs) ≡ list_any p xs
is_some-position p xs = some_by p xs (position p xs) refl

pub if_none : {A : Type 0} {P Q : Type 0} (o : Option A) → (P → Q) → IfNone o P → IfNone o Q
if_none None f h = f h
if_none (Some x) f h = tt

pub if_ok : {A E : Type 0} {P Q : A → Type 0} (r : Result A E) → ((x : A) → P x → Q x) → IfOk r P → IfOk r Q
if_ok (Ok x) f h = f x h
if_ok (Err e) f h = tt
