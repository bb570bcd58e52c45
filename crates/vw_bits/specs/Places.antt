-- Where the bytes of an address are: in the memory of a segment, and in the file (System V gABI, "Program
-- Header": p_offset, p_vaddr, p_filesz, p_memsz).
use Rattle.std.specs.Prelude.{ℕ, ◌+◌, ◌-◌, Bool, ◌&&◌, nat_le, nat_lt, List, Option, option_map}
use Rattle.std.specs.List.{find}
use Rattle.vw_bits.specs.declared.records.Segment.{Segment}

-- n bytes from address a are among the `size` bytes from `start` on. No bytes are there where their address
-- is that of one of these.
abbrev pub is_among : ℕ → ℕ → ℕ → ℕ → Bool
is_among start size a n = nat_le start a && nat_lt a (start + size) && nat_le (a + n) (start + size)

-- in the file part of a segment: its first p_filesz bytes
abbrev pub in_file_part : ℕ → ℕ → Segment → Bool
in_file_part a n s = is_among s.vaddr s.filesz a n

-- in the memory of a segment
abbrev pub in_memory : ℕ → ℕ → Segment → Bool
in_memory a n s = is_among s.vaddr s.memsz a n

-- the file offset of n bytes at address a, which are wholly in the file part of one segment; `None` where
-- they are in that of none
unfoldable pub file_offset : List Segment → ℕ → ℕ → Option ℕ
file_offset segments a n = option_map (λ s. s.offset + (a - s.vaddr)) (find (in_file_part a n) segments)
