-- The records of an ELF64 file with ELFDATA2LSB, field by field (System V gABI, "ELF Header", "Program
-- Header", "Symbol Table", "Relocation", "Dynamic Section", "Section Header"; psABI for x86-64,
-- "Relocation Types"). An address in this file is the offset of the same byte.
use Rattle.std.specs.Prelude.{ℕ, List, [], ◌∷◌, ◌++◌}
use Rattle.byteorder.specs.Endian.{little_bytes}
use Rattle.vw_make.specs.Bytes.{zeros}

-- e_ident: ELFMAG, ELFCLASS64, ELFDATA2LSB, EV_CURRENT, and padding
abbrev pub identification : List ℕ
identification = 0x7F ∷ 0x45 ∷ 0x4C ∷ 0x46 ∷ 2 ∷ 1 ∷ 1 ∷ zeros 9

-- the 64 bytes of the ELF header, of a file with three program headers at 64 and three section headers at
-- `sections`
unfoldable pub file_header : ℕ → List ℕ
file_header sections =
    identification
    -- e_type ET_DYN, e_machine EM_X86_64, e_version EV_CURRENT
    ++ little_bytes 2 3 ++ little_bytes 2 62 ++ little_bytes 4 1
    -- e_entry, e_phoff, e_shoff, e_flags
    ++ little_bytes 8 0 ++ little_bytes 8 64 ++ little_bytes 8 sections ++ little_bytes 4 0
    -- e_ehsize, e_phentsize, e_phnum, e_shentsize, e_shnum, e_shstrndx
    ++ little_bytes 2 64 ++ little_bytes 2 56 ++ little_bytes 2 3 ++ little_bytes 2 64 ++ little_bytes 2 3 ++ little_bytes 2 0

-- the 56 bytes of a program header, of `size` bytes from `at` on, in the file and in memory
unfoldable pub program_header : ℕ → ℕ → ℕ → ℕ → ℕ → List ℕ
program_header type' flags at size align =
    -- p_type, p_flags, p_offset, p_vaddr, p_paddr
    little_bytes 4 type' ++ little_bytes 4 flags ++ little_bytes 8 at ++ little_bytes 8 at ++ little_bytes 8 0
    -- p_filesz, p_memsz, p_align
    ++ little_bytes 8 size ++ little_bytes 8 size ++ little_bytes 8 align

-- the 24 bytes of a symbol: st_name, st_info, st_other, st_shndx, st_value, st_size
unfoldable pub symbol : ℕ → ℕ → ℕ → ℕ → ℕ → List ℕ
symbol name info section value size =
    little_bytes 4 name ++ (info ∷ 0 ∷ []) ++ little_bytes 2 section ++ little_bytes 8 value ++ little_bytes 8 size

-- the 24 bytes of a relocation with addend, an Elf64_Rela: r_offset, r_info (the type in its low four
-- bytes, the symbol's index in its high four), r_addend
unfoldable pub relocation : ℕ → ℕ → ℕ → ℕ → List ℕ
relocation offset type' symbol' addend =
    little_bytes 8 offset ++ little_bytes 4 type' ++ little_bytes 4 symbol' ++ little_bytes 8 addend

-- the 16 bytes of an entry of the dynamic section: d_tag, d_un
unfoldable pub dynamic_entry : ℕ → ℕ → List ℕ
dynamic_entry tag value = little_bytes 8 tag ++ little_bytes 8 value

-- the 64 bytes of a section header: sh_name, sh_type, sh_flags, sh_addr, sh_offset, sh_size, sh_link,
-- sh_info, sh_addralign, sh_entsize
unfoldable pub section_header : ℕ → ℕ → ℕ → ℕ → ℕ → List ℕ
section_header type' offset size link entry_size =
    little_bytes 4 0 ++ little_bytes 4 type' ++ little_bytes 8 0 ++ little_bytes 8 0
    ++ little_bytes 8 offset ++ little_bytes 8 size ++ little_bytes 4 link ++ little_bytes 4 0 ++ little_bytes 8 0 ++ little_bytes 8 entry_size
