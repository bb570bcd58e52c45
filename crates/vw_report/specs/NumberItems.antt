-- How numbers are read.
use Rattle.std.specs.Prelude.{◌≡◌, ℕ, zero, suc, ◌+◌, ◌-◌, ◌*◌, ◌/◌, ◌%◌, ◌^◌, ◌<◌, ◌==◌, nat_lt, nat_le, Bool, false, ◌&&◌, if◌then◌else◌, List, [], ◌∷◌, ◌++◌, Option, Some, None}
use Rattle.std.specs.Fmt.{decimal, digit_glyph}
use Rattle.vw_bits.specs.Numerals.{hex_text}
use Rattle.vw_report.specs.Items.{Item, ◌>>=◌, Anything}

abbrev pub is_digit : ℕ → Bool
is_digit b = nat_le 48 b && nat_lt b 58

-- no digit follows
abbrev pub NoDigit : List ℕ → Type 0
NoDigit [] = Unit {0}
NoDigit (b ∷ bs) = is_digit b ≡ false

-- the digits go on a number that is not 0
abbrev pub more_digits : ℕ → List ℕ → Option (ℕ × List ℕ)
more_digits n [] = Some (n, [])
more_digits n (b ∷ bs) =
    if is_digit b
    then (if nat_lt (n * 10 + (b - 48)) (2 ^ 64) then more_digits (n * 10 + (b - 48)) bs else None)
    else Some (n, b ∷ bs)

abbrev pub read_number : List ℕ → Option (ℕ × List ℕ)
read_number [] = None
read_number (b ∷ bs) = if is_digit b then (if b == 48 then Some (0, bs) else more_digits (b - 48) bs) else None

-- a number in decimal, without leading zeros
unfoldable pub number : Item ℕ
number = record { Is = λ n. n < 2 ^ 64; text = decimal; Ends = NoDigit; read = read_number }

-- a hexadecimal digit
abbrev pub glyph : ℕ → ℕ
glyph d = digit_glyph false d

-- the last k hexadecimal digits of n, in lower case
abbrev pub hex : ℕ → ℕ → List ℕ
hex zero n = []
hex (suc k) n = hex k (n / 16) ++ glyph (n % 16) ∷ []

-- the number of a hexadecimal digit
abbrev pub nibble : ℕ → Option ℕ
nibble b = if is_digit b then Some (b - 48) else (if nat_le 97 b && nat_lt b 103 then Some (b - 87) else None)

-- k more digits go on a number
abbrev pub read_hex : ℕ → ℕ → List ℕ → Option (ℕ × List ℕ)
read_hex zero n bytes = Some (n, bytes)
read_hex (suc k) n [] = None
read_hex (suc k) n (b ∷ bs) = nibble b >>= λ d. read_hex k (n * 16 + d) bs

-- a number in k hexadecimal digits
unfoldable pub digits_of_hex : ℕ → Item ℕ
digits_of_hex k = record { Is = λ n. n < 16 ^ k; text = λ n. hex_text n k; Ends = Anything; read = read_hex k 0 }
