-- Fields of a byte string, in the data encoding ELFDATA2LSB of the System V gABI ("Data Encoding").
use Rattle.std.specs.Prelude.{ℕ, zero, suc, ◌+◌, ◌*◌, List, slice_index}

-- the number that n bytes from address `a` spell, the least significant byte first
abbrev pub load : (ℕ → ℕ) → ℕ → ℕ → ℕ
load bytes a zero = 0
load bytes a (suc n) = bytes a + 256 * load bytes (a + 1) n

-- the field of `size` bytes at offset `at` of a byte string
unfoldable pub field : List ℕ → ℕ → ℕ → ℕ
field bytes at size = load (slice_index bytes) at size
