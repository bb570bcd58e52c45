-- Text that is made of pieces, one behind the other.
use Rattle.std.proofs.Common.{◌≡◌, ℕ, ◌+◌, ◌<◌, ◌≤◌, List, [], ◌∷◌, ◌++◌, length, take, get_or, append_assoc, ◌∙◌, ap, arith}
use Rattle.std.specs.List.{flat_map, enumerate_from}
use Rattle.std.proofs.lemmas.List.FromFn.{get_or-enumerate_from, length-enumerate_from}
use Rattle.std.proofs.lemmas.List.{take_all, take_more, flat_map_more}

pub pieces2 : (start one new a b : List ℕ) → one ≡ start ++ a → new ≡ one ++ b → new ≡ start ++ (a ++ b)
pieces2 start one new a b p q = rw (q, p) (simp append_assoc)

pub pieces3 : (start one two new a b c : List ℕ) → one ≡ start ++ a → two ≡ one ++ b → new ≡ two ++ c → new ≡ start ++ (a ++ b ++ c)
pieces3 start one two new a b c p q r = rw (r, q, p) (simp append_assoc)

pub pieces4 : (start one two three new a b c d : List ℕ) → one ≡ start ++ a → two ≡ one ++ b → three ≡ two ++ c → new ≡ three ++ d → new ≡ start ++ (a ++ b ++ c ++ d)
pieces4 start one two three new a b c d p q r s = rw (s, r, q, p) (simp append_assoc)

pub pieces5 : (start one two three four new a b c d e : List ℕ) → one ≡ start ++ a → two ≡ one ++ b → three ≡ two ++ c → four ≡ three ++ d → new ≡ four ++ e → new ≡ start ++ (a ++ b ++ c ++ d ++ e)
pieces5 start one two three four new a b c d e p q r s t = rw (t, s, r, q, p) (simp append_assoc)

pub pieces6 : (start one two three four five new a b c d e f : List ℕ) → one ≡ start ++ a → two ≡ one ++ b → three ≡ two ++ c → four ≡ three ++ d → five ≡ four ++ e → new ≡ five ++ f → new ≡ start ++ (a ++ b ++ c ++ d ++ e ++ f)
pieces6 start one two three four five new a b c d e f p q r s t u = rw (u, t, s, r, q, p) (simp append_assoc)

pub pieces7 : (start one two three four five six new a b c d e f g : List ℕ) → one ≡ start ++ a → two ≡ one ++ b → three ≡ two ++ c → four ≡ three ++ d → five ≡ four ++ e → six ≡ five ++ f → new ≡ six ++ g → new ≡ start ++ (a ++ b ++ c ++ d ++ e ++ f ++ g)
pieces7 start one two three four five six new a b c d e f g p q r s t u v = rw (v, u, t, s, r, q, p) (simp append_assoc)

-- three parts, the last two as one
pub three_parts : (start one two new a b c : List ℕ) → one ≡ start ++ a → two ≡ one ++ b → new ≡ two ++ c → new ≡ start ++ (a ++ (b ++ c))
three_parts start one two new a b c p q r = rw (r, q, p) (simp append_assoc)

-- a loop that appends a piece for each item
pub each_piece : {X : Type 0} (piece : X → List ℕ) (start old new : List ℕ) (xs : List X) (i : ℕ) (d : X) → i < length xs → old ≡ start ++ flat_map piece (take i xs) → new ≡ old ++ piece (get_or xs i d) → new ≡ start ++ flat_map piece (take (i + 1) xs)
each_piece piece start old new xs i d inside before appended =
    let more : take (i + 1) xs ≡ take i xs ++ get_or xs i d ∷ [] = take_more xs i d inside in
    rw (more, appended, before) (flat_map_more piece start (take i xs) (get_or xs i d))

pub each_item : {X : Type 0} (piece : X → List ℕ) (start old new : List ℕ) (xs : List X) (i : ℕ) (x : X) → i < length xs → get_or xs i x ≡ x → old ≡ start ++ flat_map piece (take i xs) → new ≡ old ++ piece x → new ≡ start ++ flat_map piece (take (i + 1) xs)
each_item piece start old new xs i x inside is before appended = each_piece piece start old new xs i x inside before (rw is appended)

-- the same for items with their numbers
pub each_numbered : {X : Type 0} (piece : ℕ × X → List ℕ) (start old new : List ℕ) (xs : List X) (i : ℕ) (x : X) → i < length xs → get_or xs i x ≡ x → old ≡ start ++ flat_map piece (take i (enumerate_from 0 xs)) → new ≡ old ++ piece (i, x)
    → new ≡ start ++ flat_map piece (take (i + 1) (enumerate_from 0 xs))
each_numbered {X} piece start old new xs i x inside is before appended =
    let first : 0 + i ≡ i = omega arith in
    let at : get_or (enumerate_from 0 xs) i (0, x) ≡ (i, x) = get_or-enumerate_from 0 xs i (0, x) inside ∙ (ap (λ (k : ℕ). (k, get_or xs i x)) first ∙ ap (λ (y : X). (i, y)) is) in
    each_piece piece start old new (enumerate_from 0 xs) i (0, x) (omega (arith, inside, length-enumerate_from 0 xs)) before (rw at appended)

pub all_pieces : {X : Type 0} (piece : X → List ℕ) (start new : List ℕ) (xs : List X) (i : ℕ) → length xs ≤ i → new ≡ start ++ flat_map piece (take i xs) → new ≡ start ++ flat_map piece xs
all_pieces piece start new xs i all made = rw (take_all i xs all) at made

pub all_numbered : {X : Type 0} (piece : ℕ × X → List ℕ) (start new : List ℕ) (xs : List X) (i : ℕ) → length xs ≤ i → new ≡ start ++ flat_map piece (take i (enumerate_from 0 xs)) → new ≡ start ++ flat_map piece (enumerate_from 0 xs)
all_numbered piece start new xs i all made = all_pieces piece start new (enumerate_from 0 xs) i (omega (arith, all, length-enumerate_from 0 xs)) made
