-- Lists of bytes: padding, pieces one after the other, and fields written over bytes.
use Rattle.std.specs.Prelude.{ℕ, zero, suc, ◌+◌, ◌-◌, ◌*◌, ◌/◌, ◌%◌, ◌^◌, Bool, ◌&&◌, nat_le, nat_lt, List, [], ◌∷◌, ◌++◌, length, map, replicate, slice_index, take, drop}
use Rattle.std.specs.List.{find, range_with_len}
use Rattle.std.specs.Option.{option_map_or}

-- n zero bytes
abbrev pub zeros : ℕ → List ℕ
zeros n = replicate n 0

-- the least multiple of `align` that is not below n, which is n itself where n is one; `align` is not 0
unfoldable pub rounded_up : ℕ → ℕ → ℕ
rounded_up align n = (n + (align - 1)) / align * align

-- the bytes, and zeros behind them up to the offset `at`
abbrev pub filled_to : ℕ → List ℕ → List ℕ
filled_to at bytes = bytes ++ zeros (at - length bytes)

-- the bytes, and behind them as many of `filler` as make the length a multiple of `align`
abbrev pub padded : ℕ → ℕ → List ℕ → List ℕ
padded align filler bytes = bytes ++ replicate (rounded_up align (length bytes) - length bytes) filler

-- the bytes of the items with the numbers 0 to count - 1, one after the other
abbrev pub counted : (ℕ → List ℕ) → ℕ → List ℕ
counted bytes_of zero = []
counted bytes_of (suc n) = counted bytes_of n ++ bytes_of n

-- the bytes of the items, one after the other. Those of an item depend on its number too; the first one
-- has the number n.
abbrev pub numbered : {X : Type 0} → (ℕ → X → List ℕ) → ℕ → List X → List ℕ
numbered bytes_of n [] = []
numbered bytes_of n (x ∷ xs) = bytes_of n x ++ numbered bytes_of (n + 1) xs

-- k is one of the `size` offsets from `at` on
abbrev pub is_within : ℕ → ℕ → ℕ → Bool
is_within at size k = nat_le at k && nat_lt k (at + size)

-- Fields of `size` bytes are written over bytes: an item (offset, x) has the field `field (offset, x)`,
-- whose first byte stands at the offset. No two fields share a byte.

-- the byte at offset k then: that of the field whose bytes k is among, and the byte that was there where
-- there is none
abbrev pub byte_with : {X : Type 0} → (ℕ × X → List ℕ) → ℕ → List (ℕ × X) → List ℕ → ℕ → ℕ
byte_with field size items bytes k =
    option_map_or (λ item. slice_index (field item) (k - item.0)) (find (λ item. is_within item.0 size k) items) (slice_index bytes k)

-- all bytes then
unfoldable pub with_fields : {X : Type 0} → (ℕ × X → List ℕ) → ℕ → List (ℕ × X) → List ℕ → List ℕ
with_fields field size items bytes = map (byte_with field size items bytes) (range_with_len 0 (length bytes))

-- `to` less `from`, as two's complement of 32 bits; `from` is at most 2^32
abbrev pub difference : ℕ → ℕ → ℕ
difference to from = (to + 2 ^ 32 - from) % 2 ^ 32

-- the bytes, with a field written over those from `at` on
abbrev pub put_at : ℕ → List ℕ → List ℕ → List ℕ
put_at at field bytes = take at bytes ++ field ++ drop (at + length field) bytes
