-- Rules 1 to 14 of a module: its length, its header, its segments and its section headers.
use Rattle.std.specs.Prelude.{◌<◌, ◌≤◌, ℕ, ◌+◌, ◌-◌, ◌*◌, ◌/◌, ◌%◌, Bool, not, ◌&&◌, ◌||◌, ◌==◌, nat_le, nat_lt, List, [], ◌∷◌, ◌++◌, length, slice_index, Option, Some, None, option_map, if◌then◌else◌}
use Rattle.std.specs.List.{find, list_any}
use Rattle.vw_bits.specs.Rules.{unless, lowest_broken, with_earlier}
use Rattle.vw_bits.specs.Headers.{table, e_type, e_machine, e_phoff, e_shoff, e_phentsize, e_phnum, e_shentsize, e_shnum, sh_type, sh_offset, sh_size, sh_link, sh_entsize, is_writable, is_executable, segments_of, section_headers, section_header}
use Rattle.vw_bits.specs.declared.records.Segment.{Segment}

-- the first byte that differs from the expected ones, which begin at `at`
unfoldable pub first_difference : List ℕ → ℕ → List ℕ → Option ℕ
first_difference bytes at expected = find (λ k. not (slice_index bytes k == slice_index expected (k - at))) (table at 1 (length expected))

-- EI_MAG0 to EI_MAG3 (gABI, "ELF Identification")
abbrev pub magic : List ℕ
magic = 0x7F ∷ 0x45 ∷ 0x4C ∷ 0x46 ∷ []

-- EI_CLASS is ELFCLASS64, EI_DATA is ELFDATA2LSB
abbrev pub class_and_data : List ℕ
class_and_data = 2 ∷ 1 ∷ []

-- Rules 1 to 9: the length, e_ident, e_type ET_DYN (3), e_machine EM_X86_64 (62), and program headers
-- of 56 bytes, 1 to 64 of them, inside the file.
unfoldable pub header_rules : List ℕ → List (Option ℕ)
header_rules bytes =
    unless (nat_le (length bytes) 67108864) 67108864
    ∷ unless (nat_le 64 (length bytes)) (length bytes)
    ∷ first_difference bytes 0 magic
    ∷ first_difference bytes 4 class_and_data
    ∷ unless (e_type bytes == 3) 16
    ∷ unless (e_machine bytes == 62) 18
    ∷ unless (e_phentsize bytes == 56) 54
    ∷ unless (nat_le 1 (e_phnum bytes) && nat_le (e_phnum bytes) 64) 56
    ∷ unless (nat_le (e_phoff bytes + 56 * e_phnum bytes) (length bytes)) 32
    ∷ []

-- Rule 10: no more bytes in the file than in memory, its bytes inside a file of `len` bytes, its memory
-- at or below 2^31, and address and offset congruent modulo the page size (gABI, "Program Header":
-- p_vaddr, p_offset, p_align).
abbrev pub segment_fits : ℕ → Segment → Bool
segment_fits len s = nat_le s.filesz s.memsz && nat_le (s.offset + s.filesz) len && nat_le (s.vaddr + s.memsz) 2147483648 && s.vaddr % 4096 == s.offset % 4096

-- The pages of 4,096 bytes that a segment touches are those from its first to its last. One without
-- memory touches the page of its address (`-` stops at 0).
abbrev pub first_page : Segment → ℕ
first_page s = s.vaddr / 4096

abbrev pub last_page : Segment → ℕ
last_page s = (s.vaddr + (s.memsz - 1)) / 4096

abbrev pub share_page : Segment → Segment → Bool
share_page a b = nat_le (first_page a) (last_page b) && nat_le (first_page b) (last_page a)

-- Rule 11 of two segments in the order of their headers: the addresses ascend, and no page is shared.
abbrev pub segments_clash : Segment → Segment → Bool
segments_clash earlier later = nat_le later.vaddr earlier.vaddr || share_page earlier later

-- the first segment that clashes with one before it
unfoldable pub first_clash : List Segment → Option Segment
first_clash segments = option_map (λ p. p.1) (find (λ p. list_any (λ earlier. segments_clash earlier p.1) p.0) (with_earlier segments))

-- Rule 12: a segment is not both written and executed.
abbrev pub is_writable_code : Segment → Bool
is_writable_code s = is_writable s && is_executable s

-- the file offset of a segment's header
abbrev pub header_of : Option Segment → Option ℕ
header_of segment = option_map (λ s. s.header_at) segment

-- there is none
abbrev pub has_no_segment : List Segment → Bool
has_no_segment segments = length segments == 0

-- Rules 10 to 12, for the segments of a file of `len` bytes.
unfoldable pub segment_rules : ℕ → List Segment → List (Option ℕ)
segment_rules len segments =
    header_of (find (λ s. not (segment_fits len s)) segments)
    ∷ (if has_no_segment segments then Some 32 else header_of (first_clash segments))
    ∷ header_of (find is_writable_code segments)
    ∷ []

-- Rule 13: section headers of 64 bytes inside the file, where there are any.
unfoldable pub section_table_rule : List ℕ → Option ℕ
section_table_rule bytes =
    if e_shnum bytes == 0 then None
    else (if e_shentsize bytes == 64 then unless (nat_le (e_shoff bytes + 64 * e_shnum bytes) (length bytes)) 40 else Some 58)

-- the section's bytes are in the file
abbrev pub section_inside : List ℕ → ℕ → Bool
section_inside bytes header = nat_le (sh_offset bytes header + sh_size bytes header) (length bytes)

-- a section of symbols: SHT_SYMTAB (2) or SHT_DYNSYM (11)
abbrev pub is_symbol_section : List ℕ → ℕ → Bool
is_symbol_section bytes header = sh_type bytes header == 2 || sh_type bytes header == 11

-- sh_link is the index of a string table (SHT_STRTAB, 3) whose bytes are in the file
unfoldable pub has_strings : List ℕ → ℕ → Bool
has_strings bytes header =
    let link = sh_link bytes header in
    nat_lt link (e_shnum bytes) && sh_type bytes (section_header bytes link) == 3 && section_inside bytes (section_header bytes link)

-- Rule 14: whole entries of 24 bytes (gABI, "Symbol Table"), in the file, and a string table.
unfoldable pub symbol_section_fits : List ℕ → ℕ → Bool
symbol_section_fits bytes header =
    sh_entsize bytes header == 24 && sh_size bytes header % 24 == 0 && section_inside bytes header && has_strings bytes header

unfoldable pub symbol_section_rule : List ℕ → Option ℕ
symbol_section_rule bytes = find (λ header. is_symbol_section bytes header && not (symbol_section_fits bytes header)) (section_headers bytes)

-- The first broken rule of 1 to 14, with its offset; `None` where they all hold.
unfoldable pub header_fault : List ℕ → Option (ℕ × ℕ)
header_fault bytes =
    lowest_broken 1 (header_rules bytes ++ segment_rules (length bytes) (segments_of bytes) ++ section_table_rule bytes ∷ symbol_section_rule bytes ∷ [])

-- what rule 13 gives: the section headers, if there are any, lie in the file
abbrev pub SectionsInside : List ℕ → Type 0
SectionsInside bytes = 0 < e_shnum bytes → e_shoff bytes + 64 * e_shnum bytes ≤ length bytes
