-- Hexadecimal digits, one after the other.
use Rattle.std.proofs.Common.{◌≡◌, ℕ, zero, suc, ◌+◌, ◌-◌, ◌*◌, ◌/◌, ◌%◌, ◌^◌, ◌<◌, ◌≤◌, List, [], ◌∷◌, ◌++◌, Option, Some, None, refl, ◌∙◌, pow-suc, arith}
use Rattle.std.proofs.Math.Nat.{pow-le-pow_right}
use Rattle.vw_report.specs.Items.{◌>>=◌}
use Rattle.vw_report.specs.NumberItems.{glyph, hex, nibble, read_hex}

hex_split : (k n : ℕ) (bytes : List ℕ) → read_hex (suc k) n bytes ≡ (read_hex 1 n bytes >>= λ x. read_hex k x.0 x.1)
hex_split k n [] = refl
hex_split k n (b ∷ bs) = go (nibble b)
  where
    go : (o : Option ℕ) → (o >>= λ d. read_hex k (n * 16 + d) bs) ≡ ((o >>= λ d. read_hex 0 (n * 16 + d) bs) >>= λ x. read_hex k x.0 x.1)
    go None = refl
    go (Some d) = refl

pub hex_one : (count i n m : ℕ) (bytes rest : List ℕ) → i < count → read_hex 1 n bytes ≡ Some (m, rest) → read_hex (count - i) n bytes ≡ read_hex (count - (i + 1)) m rest
hex_one count i n m bytes rest lt e =
    let s : count - i ≡ suc (count - (i + 1)) = omega arith in
    rw s (hex_split (count - (i + 1)) n bytes ∙ rw e refl)

pub hex_none : (count i n : ℕ) (bytes : List ℕ) → i < count → read_hex 1 n bytes ≡ None → read_hex (count - i) n bytes ≡ None
hex_none count i n bytes lt e =
    let s : count - i ≡ suc (count - (i + 1)) = omega arith in
    rw s (hex_split (count - (i + 1)) n bytes ∙ rw e refl)

pub hex_room : (i n : ℕ) → i < 16 → n < 16 ^ i → n < 2 ^ 60
hex_room i n lt h = let z : 0 < 16 = omega arith in let le : i ≤ 15 = omega arith in omega (arith, pow-le-pow_right z le)

pub hex_more : (i n m : ℕ) → n < 16 ^ i → m < 16 * n + 16 → m < 16 ^ (i + 1)
hex_more i n m h l = let s : i + 1 ≡ suc i = omega arith in rw (s, pow-suc) (omega arith)

pub hex_last : (k n : ℕ) → 0 < k → hex k n ≡ hex (k - 1) (n / 16) ++ (glyph (n % 16) ∷ [])
hex_last zero n h = absurd (omega arith)
hex_last (suc k) n h = let s : suc k - 1 ≡ k = omega arith in rw s refl
