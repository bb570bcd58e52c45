-- How large the parts of a module are, and where each begins. An offset in the file is the address in memory
-- too.
use Rattle.std.specs.Prelude.{ℕ, ◌+◌, ◌*◌, Bool, ◌==◌, not, List, length, map, take, Option, is_some, if◌then◌else◌}
use Rattle.std.specs.List.{sum_by, count_by}
use Rattle.vw_make.specs.declared.parts.Parts.{Parts}
use Rattle.vw_make.specs.declared.parts.Func.{Func}
use Rattle.vw_make.specs.declared.sizes.Sizes.{Sizes}
use Rattle.vw_make.specs.declared.layout.Layout.{Layout}
use Rattle.vw_make.specs.Bytes.{rounded_up}

-- the size of a string table with these names: a zero byte, and each name with its zero byte
abbrev pub strings_size : List (List ℕ) → ℕ
strings_size names = 1 + sum_by (λ name. length name + 1) names

-- the names of the functions
abbrev pub function_names : List Func → List (List ℕ)
function_names functions = map (λ f. f.name) functions

-- the size of a function in the text: its code, padded to a multiple of 16
abbrev pub function_space : Func → ℕ
function_space f = rounded_up 16 (length f.code)

-- there is a table
abbrev pub has_table : Parts → Bool
has_table parts = not (length parts.tables == 0)

-- how many entries of a table are not empty
abbrev pub filled_entries : List (ℕ × Option ℕ) → ℕ
filled_entries entries = count_by (λ entry. is_some entry.1) entries

-- how many relocations there are: one for each slot, each table, each entry that is not empty, each bind
abbrev pub relocation_count : Parts → ℕ
relocation_count parts = length parts.imports + length parts.tables + sum_by filled_entries parts.tables + length parts.binds

-- how many symbols there are: the null symbol, the functions, and `lucet_tables` where there is a table
abbrev pub symbol_count : Parts → ℕ
symbol_count parts = 1 + length parts.functions + (if has_table parts then 1 else 0)

-- the size of the symbols' string table; the name `lucet_tables` has 12 bytes
abbrev pub symbol_strings_size : Parts → ℕ
symbol_strings_size parts = strings_size (function_names parts.functions) + (if has_table parts then 13 else 0)

-- the sizes: a relocation and a symbol have 24 bytes
unfoldable pub sizes_of : Parts → Sizes
sizes_of parts = record {
  imports = length parts.imports;
  dynamic_strings = strings_size parts.imports;
  relocations = 24 * relocation_count parts;
  functions = sum_by function_space parts.functions;
  tables = length parts.tables;
  entries = sum_by length parts.tables;
  content = rounded_up 8 (length parts.content);
  symbols = 24 * symbol_count parts;
  strings = symbol_strings_size parts;
}

-- The places, in the order of the file. The ELF header has 64 bytes and the three program headers have 168,
-- so the dynamic symbols begin at 232. A stub has 16 bytes, a slot 8, a pair of `lucet_tables` and an entry of
-- a table 16, the dynamic section 128.
unfoldable pub layout_from : Sizes → Layout
layout_from size =
    let dynamic_strings = 232 + 24 * (1 + size.imports) in
    let relocations = rounded_up 8 (dynamic_strings + size.dynamic_strings) in
    let text = rounded_up 16 (relocations + size.relocations) in
    let stubs = text + size.functions in
    let text_end = stubs + 16 * size.imports in
    let slots = rounded_up 4096 text_end in
    let lucet_tables = slots + 8 * size.imports in
    let tables = lucet_tables + 16 * size.tables in
    let content = tables + 16 * size.entries in
    let dynamic = content + size.content in
    let symbols = dynamic + 128 in
    let strings = symbols + size.symbols in
    let sections = rounded_up 8 (strings + size.strings) in
    record {
      dynamic_strings = dynamic_strings;
      relocations = relocations;
      text = text;
      stubs = stubs;
      text_end = text_end;
      slots = slots;
      lucet_tables = lucet_tables;
      tables = tables;
      content = content;
      dynamic = dynamic;
      symbols = symbols;
      strings = strings;
      sections = sections;
    }

abbrev pub layout_of : Parts → Layout
layout_of parts = layout_from (sizes_of parts)

-- the size of the file, which ends with three section headers of 64 bytes
abbrev pub file_size : Parts → ℕ
file_size parts = (layout_of parts).sections + 192

-- the address of the function with this number; those before it stand in front of it
abbrev pub function_at : List Func → Layout → ℕ → ℕ
function_at functions layout number = layout.text + sum_by function_space (take number functions)

-- the address of the stub of the import with this number
abbrev pub stub_at : Layout → ℕ → ℕ
stub_at layout number = layout.stubs + 16 * number

-- the address of the slot of the import with this number
abbrev pub slot_at : Layout → ℕ → ℕ
slot_at layout number = layout.slots + 8 * number

-- the address of the table with this number
abbrev pub table_at : List (List (ℕ × Option ℕ)) → Layout → ℕ → ℕ
table_at tables layout number = layout.tables + 16 * sum_by length (take number tables)
