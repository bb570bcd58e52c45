-- Text that is made of pieces, one behind the other.
use Rattle.std.proofs.Common.{◌≡◌, ℕ, ◌+◌, ◌<◌, ◌≤◌, List, [], ◌∷◌, ◌++◌, length, take, get_or, append_assoc}
use Rattle.std.specs.List.{flat_map}
use Rattle.std.proofs.lemmas.List.{take_all, take_more, flat_map_more}

-- a loop that appends a piece for each item
pub each_piece : {X : Type 0} (piece : X → List ℕ) (start old new : List ℕ) (xs : List X) (i : ℕ) (d : X) → i < length xs → old ≡ start ++ flat_map piece (take i xs) → new ≡ old ++ piece (get_or xs i d) → new ≡ start ++ flat_map piece (take (i + 1) xs)
each_piece piece start old new xs i d inside before appended =
    let more : take (i + 1) xs ≡ take i xs ++ get_or xs i d ∷ [] = take_more xs i d inside in
    rw (more, appended, before) (flat_map_more piece start (take i xs) (get_or xs i d))

pub each_item : {X : Type 0} (piece : X → List ℕ) (start old new : List ℕ) (xs : List X) (i : ℕ) (x : X) → i < length xs → get_or xs i x ≡ x → old ≡ start ++ flat_map piece (take i xs) → new ≡ old ++ piece x → new ≡ start ++ flat_map piece (take (i + 1) xs)
each_item piece start old new xs i x inside is before appended = each_piece piece start old new xs i x inside before (rw is appended)

pub all_pieces : {X : Type 0} (piece : X → List ℕ) (start new : List ℕ) (xs : List X) (i : ℕ) → length xs ≤ i → new ≡ start ++ flat_map piece (take i xs) → new ≡ start ++ flat_map piece xs
all_pieces piece start new xs i all made = rw (take_all i xs all) at made

-- the first items, and one more
pub taken : {X : Type 0} (xs : List X) (i : ℕ) (x : X) → i < length xs → get_or xs i x ≡ x → take (i + 1) xs ≡ take i xs ++ x ∷ []
taken xs i x inside is = rw is at (take_more xs i x inside)

-- three pieces and a last one
pub pieces4 : (start one two three new a b c d : List ℕ) → one ≡ start ++ a → two ≡ one ++ b → three ≡ two ++ c → new ≡ three ++ d → new ≡ start ++ ((a ++ (b ++ c)) ++ d)
pieces4 start one two three new a b c d p q r s = rw (s, r, q, p) (simp append_assoc)

-- eight pieces
pub pieces8 : (start one two three four five six seven new a b c d e f g h : List ℕ) → one ≡ start ++ a → two ≡ one ++ b → three ≡ two ++ c → four ≡ three ++ d → five ≡ four ++ e → six ≡ five ++ f → seven ≡ six ++ g → new ≡ seven ++ h → new ≡ start ++ (a ++ (b ++ (c ++ (d ++ (e ++ (f ++ (g ++ h)))))))
pieces8 start one two three four five six seven new a b c d e f g h p q r s t u v w = rw (w, v, u, t, s, r, q, p) (simp append_assoc)
