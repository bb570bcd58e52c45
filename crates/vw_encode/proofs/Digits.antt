-- Numbers that are written as they were read.
use Rattle.std.proofs.Common.{◌≡◌, ℕ, zero, suc, ◌+◌, ◌*◌, ◌/◌, ◌%◌, ◌^◌, ◌<◌, ◌≤◌, ◌==◌, true, List, [], ◌∷◌, length, take, refl, ◌∙◌, ap, arith}
use Rattle.std.proofs.lemmas.Bool.{eqb-true}
use Rattle.std.proofs.lemmas.Int.{ints, of_z-to_z}
use Rattle.std.proofs.lemmas.Nat.{le_bytes_4, le_bytes_8}
use Rattle.std.specs.Int.{w8, w16, w32, w64, cast_signed, cast_unsigned, to_le_bytes}
use Rattle.vw_rows.specs.Numbers.{IsBytes, signed_of, unsigned_of}
use Rattle.vw_rows.proofs.Below.{below, below_at}

bytes_again : below (λ a. cast_unsigned w32 (cast_signed w8 a) % 256 == a) 256 ≡ true
bytes_again = refl

low_byte : (a : ℕ) → a < 256 → cast_unsigned w32 (cast_signed w8 a) % 256 ≡ a
low_byte a lt = eqb-true (cast_unsigned w32 (cast_signed w8 a) % 256) a (below_at (λ k. cast_unsigned w32 (cast_signed w8 k) % 256 == k) 256 bytes_again a lt)

low_word : (n : ℕ) → n < 65536 → cast_unsigned w32 (cast_signed w16 n) % 65536 ≡ n
low_word n lt = grind (arith, ints)

one_of : (n : ℕ) → take 1 (to_le_bytes w32 n) ≡ (n % 256) ∷ []
one_of n = refl

two_of : (n : ℕ) → take 2 (to_le_bytes w32 n) ≡ (n % 256) ∷ (n / 256 % 256) ∷ []
two_of n = refl

same_pair : (a b c d : ℕ) → a ≡ c → b ≡ d → a ∷ b ∷ [] ≡ c ∷ d ∷ []
same_pair a b c d e f = rw (e, f) refl

-- the bytes of a signed number
pub signed_again : (n : ℕ) (bs : List ℕ) → length bs ≡ n → IsBytes bs → n ≤ 2 → take n (to_le_bytes w32 (cast_unsigned w32 (signed_of bs))) ≡ bs
signed_again zero [] e h le = refl
signed_again zero (a ∷ bs) e h le = absurd (omega arith)
signed_again (suc zero) [] e h le = absurd (omega arith)
signed_again (suc zero) (a ∷ []) e h le = one_of (cast_unsigned w32 (cast_signed w8 a)) ∙ ap (λ (k : ℕ). k ∷ []) (low_byte a (h 0))
signed_again (suc zero) (a ∷ b ∷ bs) e h le = absurd (omega arith)
signed_again (suc (suc zero)) [] e h le = absurd (omega arith)
signed_again (suc (suc zero)) (a ∷ []) e h le = absurd (omega arith)
signed_again (suc (suc zero)) (a ∷ b ∷ []) e h le =
    let one = h 0 in
    let two = h 1 in
    let m : ℕ = cast_unsigned w32 (cast_signed w16 (a + 2 ^ 8 * b)) in
    let low : m % 65536 ≡ a + 2 ^ 8 * b = low_word (a + 2 ^ 8 * b) (omega arith) in
    two_of m ∙ same_pair (m % 256) (m / 256 % 256) a b (omega arith) (omega arith)
signed_again (suc (suc zero)) (a ∷ b ∷ c ∷ bs) e h le = absurd (omega arith)
signed_again (suc (suc (suc n))) bs e h le = absurd (omega arith)

pub signed_again_4 : (bs : List ℕ) → length bs ≡ 4 → IsBytes bs → to_le_bytes w32 (cast_unsigned w32 (signed_of bs)) ≡ bs
signed_again_4 [] e h = absurd (omega arith)
signed_again_4 (a ∷ []) e h = absurd (omega arith)
signed_again_4 (a ∷ b ∷ []) e h = absurd (omega arith)
signed_again_4 (a ∷ b ∷ c ∷ []) e h = absurd (omega arith)
signed_again_4 (a ∷ b ∷ c ∷ d ∷ []) e h =
    let n : ℕ = a + 2 ^ 8 * b + 2 ^ 16 * c + 2 ^ 24 * d in
    let h0 = h 0 in
    let h1 = h 1 in
    let h2 = h 2 in
    let h3 = h 3 in
    let same : cast_unsigned w32 (cast_signed w32 n) ≡ n = of_z-to_z w32 n (omega arith) in
    rw same (le_bytes_4 (a ∷ b ∷ c ∷ d ∷ []) n refl h (omega arith))
signed_again_4 (a ∷ b ∷ c ∷ d ∷ f ∷ bs) e h = absurd (omega arith)

pub unsigned_again : (bs : List ℕ) → length bs ≡ 8 → IsBytes bs → to_le_bytes w64 (unsigned_of bs) ≡ bs
unsigned_again [] e h = absurd (omega arith)
unsigned_again (a ∷ []) e h = absurd (omega arith)
unsigned_again (a ∷ b ∷ []) e h = absurd (omega arith)
unsigned_again (a ∷ b ∷ c ∷ []) e h = absurd (omega arith)
unsigned_again (a ∷ b ∷ c ∷ d ∷ []) e h = absurd (omega arith)
unsigned_again (a ∷ b ∷ c ∷ d ∷ f ∷ []) e h = absurd (omega arith)
unsigned_again (a ∷ b ∷ c ∷ d ∷ f ∷ g ∷ []) e h = absurd (omega arith)
unsigned_again (a ∷ b ∷ c ∷ d ∷ f ∷ g ∷ i ∷ []) e h = absurd (omega arith)
unsigned_again (a ∷ b ∷ c ∷ d ∷ f ∷ g ∷ i ∷ j ∷ []) e h = le_bytes_8 (a ∷ b ∷ c ∷ d ∷ f ∷ g ∷ i ∷ j ∷ []) (unsigned_of (a ∷ b ∷ c ∷ d ∷ f ∷ g ∷ i ∷ j ∷ [])) refl h (omega arith)
unsigned_again (a ∷ b ∷ c ∷ d ∷ f ∷ g ∷ i ∷ j ∷ k ∷ bs) e h = absurd (omega arith)
