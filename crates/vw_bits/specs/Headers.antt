-- The header, the program headers and the section headers of an ELF64 file whose data encoding is
-- ELFDATA2LSB, as functions of the file's bytes (System V gABI, "ELF Header", "Program Header",
-- "Section Header"; sizes and offsets of the ELF64 forms).
use Rattle.std.specs.Prelude.{ℕ, ◌+◌, ◌*◌, ◌%◌, Bool, List, map, filter, ◌==◌, bit_and}
use Rattle.std.specs.List.{range_with_len}
use Rattle.vw_bits.specs.Fields.{field}
use Rattle.vw_bits.specs.declared.records.Segment.{Segment}
use Rattle.vw_bits.specs.declared.records.DynHeader.{DynHeader}

-- the file offsets of the items of a table, in order: `count` items of `size` bytes each, from `at` on
unfoldable pub table : ℕ → ℕ → ℕ → List ℕ
table at size count = map (λ k. at + size * k) (range_with_len 0 count)

-- ELF header
abbrev pub e_type : List ℕ → ℕ
e_type bytes = field bytes 16 2

abbrev pub e_machine : List ℕ → ℕ
e_machine bytes = field bytes 18 2

abbrev pub e_phoff : List ℕ → ℕ
e_phoff bytes = field bytes 32 8

abbrev pub e_shoff : List ℕ → ℕ
e_shoff bytes = field bytes 40 8

abbrev pub e_phentsize : List ℕ → ℕ
e_phentsize bytes = field bytes 54 2

abbrev pub e_phnum : List ℕ → ℕ
e_phnum bytes = field bytes 56 2

abbrev pub e_shentsize : List ℕ → ℕ
e_shentsize bytes = field bytes 58 2

abbrev pub e_shnum : List ℕ → ℕ
e_shnum bytes = field bytes 60 2

-- program header, by its file offset
abbrev pub p_type : List ℕ → ℕ → ℕ
p_type bytes header = field bytes header 4

abbrev pub p_flags : List ℕ → ℕ → ℕ
p_flags bytes header = field bytes (header + 4) 4

abbrev pub p_offset : List ℕ → ℕ → ℕ
p_offset bytes header = field bytes (header + 8) 8

abbrev pub p_vaddr : List ℕ → ℕ → ℕ
p_vaddr bytes header = field bytes (header + 16) 8

abbrev pub p_filesz : List ℕ → ℕ → ℕ
p_filesz bytes header = field bytes (header + 32) 8

abbrev pub p_memsz : List ℕ → ℕ → ℕ
p_memsz bytes header = field bytes (header + 40) 8

-- section header, by its file offset
abbrev pub sh_type : List ℕ → ℕ → ℕ
sh_type bytes header = field bytes (header + 4) 4

abbrev pub sh_offset : List ℕ → ℕ → ℕ
sh_offset bytes header = field bytes (header + 24) 8

abbrev pub sh_size : List ℕ → ℕ → ℕ
sh_size bytes header = field bytes (header + 32) 8

abbrev pub sh_link : List ℕ → ℕ → ℕ
sh_link bytes header = field bytes (header + 40) 4

abbrev pub sh_entsize : List ℕ → ℕ → ℕ
sh_entsize bytes header = field bytes (header + 56) 8

-- the program headers
unfoldable pub program_headers : List ℕ → List ℕ
program_headers bytes = table (e_phoff bytes) 56 (e_phnum bytes)

-- the segment that a program header describes. PF_X is 1, PF_W 2 and PF_R 4; other flags are unread
unfoldable pub segment_at : List ℕ → ℕ → Segment
segment_at bytes header = record {
  offset = p_offset bytes header;
  vaddr = p_vaddr bytes header;
  filesz = p_filesz bytes header;
  memsz = p_memsz bytes header;
  rights = record { 0 = p_flags bytes header % 8 };
  header_at = header;
}

-- the program headers of type PT_LOAD (1), in order
unfoldable pub segments_of : List ℕ → List Segment
segments_of bytes = map (segment_at bytes) (filter (λ header. p_type bytes header == 1) (program_headers bytes))

-- the permissions of a segment (gABI, "Segment Permissions")
abbrev pub is_executable : Segment → Bool
is_executable s = bit_and s.rights.0 1 == 1

abbrev pub is_writable : Segment → Bool
is_writable s = bit_and s.rights.0 2 == 2

abbrev pub is_readable : Segment → Bool
is_readable s = bit_and s.rights.0 4 == 4

unfoldable pub dyn_header_at : List ℕ → ℕ → DynHeader
dyn_header_at bytes header = record {
  vaddr = p_vaddr bytes header;
  filesz = p_filesz bytes header;
  header_at = header;
}

-- the program headers of type PT_DYNAMIC (2), in order
unfoldable pub dynamics_of : List ℕ → List DynHeader
dynamics_of bytes = map (dyn_header_at bytes) (filter (λ header. p_type bytes header == 2) (program_headers bytes))

-- the section headers
unfoldable pub section_headers : List ℕ → List ℕ
section_headers bytes = table (e_shoff bytes) 64 (e_shnum bytes)

-- the section header with this index
abbrev pub section_header : List ℕ → ℕ → ℕ
section_header bytes index = e_shoff bytes + 64 * index
