-- A number's hexadecimal text of a width is its last digits, as many.
use Rattle.std.proofs.Common.{◌≡◌, ℕ, zero, suc, ◌+◌, ◌-◌, ◌*◌, ◌/◌, ◌%◌, ◌^◌, ◌<◌, ◌≤◌, Bool, true, false, cond, List, [], ◌∷◌, ◌++◌, length, length-append, refl, sym, ap, ◌∙◌, append_assoc, pow-suc, arith}
use Rattle.std.specs.Prelude.{◌==◌, replicate}
use Rattle.std.specs.Fmt.{digits, digits_onto}
use Rattle.std.proofs.lemmas.Bool.Decides.{nat_tests}
use Rattle.std.proofs.lemmas.List.{append-nil}
use Rattle.vw_bits.specs.Numerals.{hex_text}
use Rattle.vw_report.specs.NumberItems.{glyph, hex}

same_on : (d k : ℕ) → replicate k d ++ d ∷ [] ≡ replicate (suc k) d
same_on d zero = refl
same_on d (suc k) = ap (λ (xs : List ℕ). d ∷ xs) (same_on d k)

hex_zero : (k : ℕ) → hex k 0 ≡ replicate k 48
hex_zero zero = refl
hex_zero (suc k) = ap (λ (xs : List ℕ). xs ++ 48 ∷ []) (hex_zero k) ∙ same_on 48 k

-- the digits of a number, followed by others, are its last k digits but for zeros in front
record Padded (k n : ℕ) (whole others : List ℕ) : Type 0 where
  numeral : List ℕ
  split : whole ≡ numeral ++ others
  short : length numeral ≤ k
  padded : hex k n ≡ replicate (k - length numeral) 48 ++ numeral

less_room : (k n : ℕ) → n < 16 ^ suc k → n / 16 < 16 ^ k
less_room k n h = let e : n < 16 ^ k * 16 = rw pow-suc at h in omega arith

is_zero : (n : ℕ) → (n == 0) ≡ true → n ≡ 0
is_zero n h = grind (arith, nat_tests)

is_more : (n : ℕ) → (n == 0) ≡ false → 0 < n
is_more n h = grind (arith, nat_tests)

one_digit : (k n : ℕ) (others : List ℕ) → n / 16 ≡ 0 → Padded (suc k) n (glyph (n % 16) ∷ others) others
one_digit k n others front =
    let same : suc k - 1 ≡ k = omega arith in
    record {
      numeral = glyph (n % 16) ∷ [];
      split = refl;
      short = omega arith;
      padded = ap (λ x. hex k x ++ glyph (n % 16) ∷ []) front ∙ ap (λ (xs : List ℕ). xs ++ glyph (n % 16) ∷ []) (hex_zero k)
          ∙ ap (λ m. replicate m 48 ++ glyph (n % 16) ∷ []) (sym same);
    }

more_digits : (k n : ℕ) (whole others : List ℕ) → Padded k (n / 16) whole (glyph (n % 16) ∷ others) → Padded (suc k) n whole others
more_digits k n whole others before =
    let last : List ℕ = glyph (n % 16) ∷ [] in
    let longer : length (before.numeral ++ last) ≡ length before.numeral + 1 = length-append before.numeral last in
    let same : suc k - length (before.numeral ++ last) ≡ k - length before.numeral = omega (arith, longer) in
    record {
      numeral = before.numeral ++ last;
      split = before.split ∙ sym (append_assoc before.numeral last others);
      short = let s = before.short in omega (arith, longer);
      padded = ap (λ (xs : List ℕ). xs ++ last) before.padded ∙ append_assoc (replicate (k - length before.numeral) 48) before.numeral last
          ∙ ap (λ m. replicate m 48 ++ (before.numeral ++ last)) (sym same);
    }

padded : (k j n : ℕ) (others : List ℕ) → suc k ≤ j → n < 16 ^ suc k → Padded (suc k) n (digits_onto j 16 false n others) others
padded k zero n others fuel room = absurd (omega arith)
padded k (suc j) n others fuel room = go k (n / 16 == 0) refl fuel room (λ m less front. padded m j (n / 16) (glyph (n % 16) ∷ others) less front)
  where
    go : (k : ℕ) (test : Bool) → (n / 16 == 0) ≡ test → suc k ≤ suc j → n < 16 ^ suc k
        → ((m : ℕ) → suc m ≤ j → n / 16 < 16 ^ suc m → Padded (suc m) (n / 16) (digits_onto j 16 false (n / 16) (glyph (n % 16) ∷ others)) (glyph (n % 16) ∷ others))
        → Padded (suc k) n (cond test (glyph (n % 16) ∷ others) (digits_onto j 16 false (n / 16) (glyph (n % 16) ∷ others))) others
    go k true t fuel room again = one_digit k n others (is_zero (n / 16) t)
    go zero false t fuel room again = let some = is_more (n / 16) t in let front = less_room 0 n room in absurd (omega arith)
    go (suc m) false t fuel room again = more_digits (suc m) n _ others (again m (omega arith) (less_room (suc m) n room))

digits_padded : (k n : ℕ) → suc k ≤ 64 → n < 16 ^ suc k → hex_text n (suc k) ≡ hex (suc k) n
unfolding hex_text digits
digits_padded k n fuel room =
    let p = padded k 64 n [] fuel room in
    let is : digits_onto 64 16 false n [] ≡ p.numeral = p.split ∙ append-nil p.numeral in
    ap (λ (xs : List ℕ). replicate (suc k - length xs) 48 ++ xs) is ∙ sym p.padded

-- for widths from 1 to 64
pub hex_text_is : (k n : ℕ) → 0 < k → k ≤ 64 → n < 16 ^ k → hex_text n k ≡ hex k n
hex_text_is zero n some fuel room = absurd (omega arith)
hex_text_is (suc k) n some fuel room = digits_padded k n fuel room
