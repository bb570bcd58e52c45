-- Steps that may give nothing.
use Rattle.std.proofs.Common.{◌≡◌, ℕ, ◌≤◌, Bool, true, false, cond, List, ◌++◌, length, take, drop, Option, Some, None, refl, sym, arith}
use Rattle.std.proofs.lemmas.Bool.{leb-true, le-leb}
use Rattle.std.proofs.lemmas.List.{take_at, drop_at, take-append-drop, length-append, length-take}
use Rattle.vw_decode.specs.Lexing.{◌>>=◌, split}

pub bind_some : {A B : Type 0} (o : Option A) (f : A → Option B) (y : B) → (o >>= f) ≡ Some y → (x : A) × (o ≡ Some x) × (f x ≡ Some y)
bind_some None f y e = absurd cc
bind_some (Some x) f y e = (x, refl, e)

pub guard_some : {A : Type 0} (b : Bool) (x y : A) → cond b (Some x) None ≡ Some y → (b ≡ true) × (x ≡ y)
guard_some true x y e = (refl, cc)
guard_some false x y e = absurd cc

pub guard_not : {A : Type 0} (b : Bool) (x y : A) → cond b None (Some x) ≡ Some y → (b ≡ false) × (x ≡ y)
guard_not true x y e = absurd cc
guard_not false x y e = (refl, cc)

abbrev pub some : {A : Type 0} → A → Option A
some x = Some x

pub some_is : {A : Type 0} (x y : A) → some x ≡ some y → x ≡ y
some_is x y e = cc

pub split_takes : (n : ℕ) (bytes : List ℕ) (s : List ℕ × List ℕ) → split n bytes ≡ Some s → (bytes ≡ s.0 ++ s.1) × (length s.0 ≡ n)
split_takes n bytes s e =
    let g = guard_some _ (take n bytes, drop n bytes) s e in
    let le : n ≤ length bytes = leb-true _ _ g.0 in
    rw (← g.1) (sym (take-append-drop n bytes), omega (arith, length-take n bytes))

pub split_again : (n : ℕ) (front rest : List ℕ) → length front ≡ n → split n (front ++ rest) ≡ Some (front, rest)
split_again n front rest len =
    rw (le-leb n (length (front ++ rest)) (omega (arith, length-append front rest)), take_at front rest n len, drop_at front rest n len) refl
