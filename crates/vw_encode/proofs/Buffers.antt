-- Bytes that are put into a buffer one after the other.
use Rattle.std.proofs.Common.{◌≡◌, ℕ, zero, suc, ◌+◌, ◌<◌, ◌≤◌, List, [], ◌∷◌, ◌++◌, length, take, get_or, replicate, set, Option, Some, None, refl, sym, ◌∙◌, ap, subst, append_assoc, arith}
use Rattle.std.proofs.lemmas.List.{length-append, length-take-le, take_more, take_all}
use Rattle.vw_rows.specs.Numbers.{IsBytes}
use Rattle.vw_encode.specs.declared.buffer.Spelled.{Spelled}
use Rattle.vw_encode.specs.search.Buffer.{Holds, Pushed}

pub grown : (bytes xs : List ℕ) (i : ℕ) (s : Spelled) → i < length bytes → Holds s ((xs ++ take i bytes) ++ get_or bytes i 0 ∷ []) → Holds s (xs ++ take (i + 1) bytes)
grown bytes xs i s lt h =
    let more : take (i + 1) bytes ≡ take i bytes ++ get_or bytes i 0 ∷ [] = take_more bytes i 0 lt in
    subst (λ (l : List ℕ). Holds s l) (append_assoc xs (take i bytes) (get_or bytes i 0 ∷ []) ∙ ap (λ (t : List ℕ). xs ++ t) (sym more)) h

pub no_room : (bytes xs : List ℕ) (i : ℕ) → i < length bytes → 16 ≤ length (xs ++ take i bytes) + 1 → 16 ≤ length xs + length bytes
no_room bytes xs i lt h = omega (arith, length-append xs (take i bytes), length-take-le i bytes (omega arith))

pub grown_all : (bytes xs : List ℕ) (i : ℕ) (s : Spelled) → length bytes ≤ i → Holds s (xs ++ take i bytes) → Holds s (xs ++ bytes)
grown_all bytes xs i s le h = subst (λ (l : List ℕ). Holds s (xs ++ l)) (take_all i bytes le) h

pub regroup : (xs a b c : List ℕ) (r : Option Spelled) → Pushed ((xs ++ a) ++ b) c r → Pushed xs (a ++ (b ++ c)) r
regroup xs a b c (Some s) h = subst (λ (l : List ℕ). Holds s l) (simp append_assoc) h
regroup xs a b c None h =
    let one = length-append (xs ++ a) b in
    let two = length-append xs a in
    let three = length-append a (b ++ c) in
    let four = length-append b c in
    omega arith

-- all is put
pub pushed_onto_nothing : (front more all : List ℕ) (r : Option Spelled) → front ++ more ≡ all → Pushed front more r → Pushed [] all r
pushed_onto_nothing front more all (Some s) e h = subst (λ (l : List ℕ). Holds s l) e h
pushed_onto_nothing front more all None e h = omega (arith, length-append front more, ap length e)

-- there is no room for what is put before the rest
pub cut : (front more rest all : List ℕ) → (front ++ more) ++ rest ≡ all → 16 ≤ length front + length more → 16 ≤ 0 + length all
cut front more rest all e h =
    let one = length-append front more in
    let two = length-append (front ++ more) rest in
    let three = ap length e in
    omega arith

abbrev pub blank : Spelled
blank = record { len = 0; bytes = 0 ∷ 0 ∷ 0 ∷ 0 ∷ 0 ∷ 0 ∷ 0 ∷ 0 ∷ 0 ∷ 0 ∷ 0 ∷ 0 ∷ 0 ∷ 0 ∷ 0 ∷ [] }

abbrev nothing : ℕ
nothing = 0

zeros_only : (n i : ℕ) → get_or (replicate n nothing) i nothing ≡ nothing
zeros_only zero i = refl
zeros_only (suc n) zero = refl
zeros_only (suc n) (suc i) = zeros_only n i

pub empty : Holds blank []
empty = record { taken = refl; fits = omega arith; are_bytes = λ i. rw (zeros_only 15 i) (omega arith); zeros = λ i le. zeros_only 15 i }

pub bytes_set : (bytes : List ℕ) (at b : ℕ) → IsBytes bytes → b < 256 → IsBytes (set bytes at b)
bytes_set [] at b h lt i = h i
bytes_set (x ∷ xs) zero b h lt zero = lt
bytes_set (x ∷ xs) zero b h lt (suc i) = h (suc i)
bytes_set (x ∷ xs) (suc n) b h lt zero = h 0
bytes_set (x ∷ xs) (suc n) b h lt (suc i) = bytes_set xs n b (λ j. h (suc j)) lt i
