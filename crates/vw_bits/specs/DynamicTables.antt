-- Entries of the dynamic section and of its relocation tables, by their file offsets (System V gABI, "Dynamic
-- Section", "Relocation"; offsets of the ELF64 forms).
use Rattle.std.specs.Prelude.{ℕ, ◌+◌, List}
use Rattle.vw_bits.specs.Fields.{field}

-- entry of the dynamic section
abbrev pub d_tag : List ℕ → ℕ → ℕ
d_tag bytes entry = field bytes entry 8

abbrev pub d_un : List ℕ → ℕ → ℕ
d_un bytes entry = field bytes (entry + 8) 8

-- relocation with an addend
abbrev pub r_offset : List ℕ → ℕ → ℕ
r_offset bytes entry = field bytes entry 8

abbrev pub r_info : List ℕ → ℕ → ℕ
r_info bytes entry = field bytes (entry + 8) 8

abbrev pub r_addend : List ℕ → ℕ → ℕ
r_addend bytes entry = field bytes (entry + 16) 8
