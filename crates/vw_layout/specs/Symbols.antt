-- The symbols of a file, with their names (System V gABI, "Symbol Table", "String Table").
use Rattle.std.specs.Prelude.{ℕ, Bool, false, ◌&&◌, ◌==◌, nat_le, List, [], ◌∷◌, ◌++◌, take, drop, map, fold, filter, Option, codes, if◌then◌else◌}
use Rattle.std.specs.List.{flat_map, list_any}
use Rattle.std.specs.Option.{option_map_or}
use Rattle.std.specs.Str.{bytes_eq}
use Rattle.vw_bits.specs.Headers.{table}
use Rattle.vw_bits.specs.Symbols.{symbol_at, symbol_type, is_defined, short_string_at}
use Rattle.vw_elf.specs.declared.sections.SymbolSection.{SymbolSection}
use Rattle.vw_layout.specs.declared.symbols.SymbolEntry.{SymbolEntry}
use Rattle.vw_layout.specs.declared.symbols.Role.{Role}
use Rattle.vw_layout.specs.declared.symbols.Role.TheVariants as role

-- the symbol whose entry begins at a file offset, with the string table of its section
unfoldable pub entry_at : List ℕ → SymbolSection → ℕ → SymbolEntry
entry_at bytes section at = record {
  symbol = symbol_at bytes at;
  strings_at = section.strings_at;
  strings_size = section.strings_size;
}

-- the symbols of a section, by their indices from 0 on
unfoldable pub section_symbols : List ℕ → SymbolSection → List SymbolEntry
section_symbols bytes section = map (entry_at bytes section) (table section.offset 24 section.count)

-- a section has the symbols and the string table of another
abbrev pub is_same_section : SymbolSection → SymbolSection → Bool
is_same_section a b = a.offset == b.offset && (a.count == b.count && (a.strings_at == b.strings_at && a.strings_size == b.strings_size))

-- a section behind those that are there, where it is new
abbrev pub with_section : List SymbolSection → SymbolSection → List SymbolSection
with_section sections s = if list_any (is_same_section s) sections then sections else sections ++ s ∷ []

-- sections, each once, in the order of their first headers
unfoldable pub distinct_sections : List SymbolSection → List SymbolSection
distinct_sections sections = fold with_section [] sections

-- the symbols of sections, by section and then by index
unfoldable pub symbols_of : List ℕ → List SymbolSection → List SymbolEntry
symbols_of bytes sections = flat_map (section_symbols bytes) sections

-- the bytes of the string table of a symbol's section
abbrev pub strings_of : List ℕ → SymbolEntry → List ℕ
strings_of bytes s = take s.strings_size (drop s.strings_at bytes)

-- a symbol's name, which ends with a zero byte inside the string table of its section after at most 1,024
-- bytes; `None` where it does not
unfoldable pub name_of : List ℕ → SymbolEntry → Option (List ℕ)
name_of bytes s = short_string_at (strings_of bytes s) s.symbol.name

-- a function symbol: defined, of type STT_FUNC (2) and of a size of at least 1
abbrev pub is_function : SymbolEntry → Bool
is_function s = is_defined s.symbol && symbol_type s.symbol == 2 && nat_le 1 s.symbol.size

-- the name of the symbol of the tables of a module
abbrev pub tables_name : List ℕ
tables_name = codes "lucet_tables"

-- a symbol of the tables: defined, of type STT_OBJECT (1) and of that name
unfoldable pub is_tables_symbol : List ℕ → SymbolEntry → Bool
is_tables_symbol bytes s = is_defined s.symbol && symbol_type s.symbol == 1 && option_map_or (bytes_eq tables_name) (name_of bytes s) false

abbrev pub has_role : List ℕ → Role → SymbolEntry → Bool
has_role bytes role.Function s = is_function s
has_role bytes role.Tables s = is_tables_symbol bytes s

-- the symbols of one role, in order
unfoldable pub symbols_for : List ℕ → List SymbolSection → Role → List SymbolEntry
symbols_for bytes sections role = filter (has_role bytes role) (symbols_of bytes sections)
