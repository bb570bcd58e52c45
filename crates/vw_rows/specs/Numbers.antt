-- Numbers that stand in an instruction's bytes, the least significant byte first (SDM volume 1, 1.3.1
-- and 4.2.1).
use Rattle.std.specs.Prelude.{ℕ, ◌+◌, ◌*◌, ◌^◌, ◌<◌, ℤ, pos, List, [], ◌∷◌, slice_index}
use Rattle.std.specs.Int.{w8, w16, w32, cast_signed}

-- each item is a byte
abbrev pub IsBytes : List ℕ → Type 0
IsBytes bytes = (i : ℕ) → slice_index bytes i < 256

-- The number in two's complement of one, two or four bytes (SDM volume 2, 2.2.1.3 and 2.2.1.5:
-- a displacement or an immediate is sign-extended). Without bytes it is 0.
abbrev pub signed_of : List ℕ → ℤ
signed_of (a ∷ []) = cast_signed w8 a
signed_of (a ∷ b ∷ []) = cast_signed w16 (a + 2 ^ 8 * b)
signed_of (a ∷ b ∷ c ∷ d ∷ []) = cast_signed w32 (a + 2 ^ 8 * b + 2 ^ 16 * c + 2 ^ 24 * d)
signed_of _ = pos 0

-- the unsigned number of one byte
abbrev pub byte_of : List ℕ → ℕ
byte_of (a ∷ []) = a
byte_of _ = 0

-- the unsigned number of eight bytes (SDM volume 2, 2.2.1.5: MOV of 64 immediate bits)
abbrev pub unsigned_of : List ℕ → ℕ
unsigned_of (a ∷ b ∷ c ∷ d ∷ e ∷ f ∷ g ∷ h ∷ []) =
    a + 2 ^ 8 * b + 2 ^ 16 * c + 2 ^ 24 * d + 2 ^ 32 * e + 2 ^ 40 * f + 2 ^ 48 * g + 2 ^ 56 * h
unsigned_of _ = 0
