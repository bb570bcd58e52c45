-- Pieces that were appended one by one.
use Rattle.std.proofs.Common.{◌≡◌, ◌∙◌, ℕ, zero, suc, ◌+◌, ◌<◌, List, [], ◌∷◌, ◌++◌, length, take, get_or, append_assoc, append-nil, add-one, refl, sym, ap, arith}
use Rattle.vw_make.specs.Bytes.{counted, numbered}

numbered_suc : {X : Type 0} (f : ℕ → X → List ℕ) (n : ℕ) (xs : List X) (i : ℕ) (d : X) → i < length xs → numbered f n (take (suc i) xs) ≡ numbered f n (take i xs) ++ f (n + i) (get_or xs i d)
numbered_suc f n [] i d inside = absurd (omega arith)
numbered_suc f n (x ∷ xs) zero d inside = append-nil (f n x) ∙ ap (λ (k : ℕ). f k x) (let e : n ≡ n + 0 = omega arith in e)
numbered_suc f n (x ∷ xs) (suc i) d inside =
    let e : (n + 1) + i ≡ n + suc i = omega arith in
    ap (λ (rest : List ℕ). f n x ++ rest) (numbered_suc f (n + 1) xs i d (omega arith))
    ∙ (sym (append_assoc (f n x) (numbered f (n + 1) (take i xs)) (f ((n + 1) + i) (get_or xs i d)))
    ∙ ap (λ (k : ℕ). (f n x ++ numbered f (n + 1) (take i xs)) ++ f k (get_or xs i d)) e)

-- one more item, counted from 0
pub numbered_more : {X : Type 0} (f : ℕ → X → List ℕ) (xs : List X) (i : ℕ) (d : X) → i < length xs → numbered f 0 (take (i + 1) xs) ≡ numbered f 0 (take i xs) ++ f i (get_or xs i d)
numbered_more f xs i d inside =
    rw add-one (numbered_suc f 0 xs i d inside ∙ ap (λ (k : ℕ). numbered f 0 (take i xs) ++ f k (get_or xs i d)) (let e : 0 + i ≡ i = omega arith in e))

pub counted_more : (f : ℕ → List ℕ) (i : ℕ) → counted f (i + 1) ≡ counted f i ++ f i
counted_more f i = rw add-one refl

-- a list of bytes to which two pieces were appended
pub appended : (old now new done piece next : List ℕ) → now ≡ old ++ done → new ≡ now ++ piece → next ≡ done ++ piece → new ≡ old ++ next
appended old now new done piece next e f g = f ∙ (ap (λ (bytes : List ℕ). bytes ++ piece) e ∙ (append_assoc old done piece ∙ ap (λ (bytes : List ℕ). old ++ bytes) (sym g)))

pub joined_eight : (old one two three four five six seven new a b c d e f g h : List ℕ) → one ≡ old ++ a → two ≡ one ++ b → three ≡ two ++ c → four ≡ three ++ d → five ≡ four ++ e → six ≡ five ++ f → seven ≡ six ++ g → new ≡ seven ++ h
    → new ≡ old ++ (a ++ (b ++ (c ++ (d ++ (e ++ (f ++ (g ++ h)))))))
joined_eight old one two three four five six seven new a b c d e f g h p1 p2 p3 p4 p5 p6 p7 p8 = rw (p8, p7, p6, p5, p4, p3, p2, p1) (simp append_assoc)

pub joined_three : (old one two new a b c : List ℕ) → one ≡ old ++ a → two ≡ one ++ b → new ≡ two ++ c → new ≡ old ++ (a ++ (b ++ c))
joined_three old one two new a b c p1 p2 p3 = rw (p3, p2, p1) (simp append_assoc)

pub joined_five : (old one two three four new a b c d e : List ℕ) → one ≡ old ++ a → two ≡ one ++ b → three ≡ two ++ c → four ≡ three ++ d → new ≡ four ++ e → new ≡ old ++ (a ++ (b ++ (c ++ (d ++ e))))
joined_five old one two three four new a b c d e p1 p2 p3 p4 p5 = rw (p5, p4, p3, p2, p1) (simp append_assoc)
