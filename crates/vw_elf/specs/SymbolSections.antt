-- The sections of symbols of a file (System V gABI, "Symbol Table").
use Rattle.std.specs.Prelude.{ℕ, ◌/◌, List, map, filter}
use Rattle.vw_bits.specs.Headers.{sh_offset, sh_size, sh_link, section_headers, section_header}
use Rattle.vw_bits.specs.HeaderRules.{is_symbol_section}
use Rattle.vw_elf.specs.declared.sections.SymbolSection.{SymbolSection}

-- the section that a section header describes, with the string table that sh_link names
unfoldable pub symbol_section_at : List ℕ → ℕ → SymbolSection
symbol_section_at bytes header =
    let strings = section_header bytes (sh_link bytes header) in
    record {
      offset = sh_offset bytes header;
      count = sh_size bytes header / 24;
      strings_at = sh_offset bytes strings;
      strings_size = sh_size bytes strings;
    }

-- the sections of type SHT_SYMTAB or SHT_DYNSYM, in the order of their headers
unfoldable pub symbol_sections : List ℕ → List SymbolSection
symbol_sections bytes = map (symbol_section_at bytes) (filter (is_symbol_section bytes) (section_headers bytes))
