-- Symbol tables and their string tables (System V gABI, "Symbol Table", "String Table").
use Rattle.std.specs.Prelude.{ℕ, ◌*◌, List, [], ◌∷◌, ◌++◌, length, take, codes, if◌then◌else◌}
use Rattle.std.specs.List.{flat_map}
use Rattle.vw_make.specs.declared.parts.Parts.{Parts}
use Rattle.vw_make.specs.declared.parts.Func.{Func}
use Rattle.vw_make.specs.declared.layout.Layout.{Layout}
use Rattle.vw_make.specs.Bytes.{counted, numbered}
use Rattle.vw_make.specs.Records.{symbol}
use Rattle.vw_make.specs.Layout.{strings_size, function_names, has_table, function_at}

-- a name and its zero byte
abbrev pub string : List ℕ → List ℕ
string name = name ++ 0 ∷ []

-- the names, one behind the other
abbrev pub strings : List (List ℕ) → List ℕ
strings names = flat_map string names

-- the string table: a zero byte, and then the names
unfoldable pub string_table : List (List ℕ) → List ℕ
string_table names = 0 ∷ strings names

-- where the name with this number begins in the string table
abbrev pub name_at : List (List ℕ) → ℕ → ℕ
name_at names number = strings_size (take number names)

-- the symbol with index 0 (STN_UNDEF)
abbrev pub null_symbol : List ℕ
null_symbol = symbol 0 0 0 0 0

-- an import: STB_GLOBAL, STT_FUNC, SHN_UNDEF
abbrev pub import_symbol : List (List ℕ) → ℕ → List ℕ
import_symbol names number = symbol (name_at names number) 0x12 0 0 0

-- the symbols of the imports, in their order; import k has the index k + 1
unfoldable pub import_symbols : List (List ℕ) → List ℕ
import_symbols imports = counted (import_symbol imports) (length imports)

-- the dynamic symbols
unfoldable pub dynamic_symbols : List (List ℕ) → List ℕ
dynamic_symbols imports = null_symbol ++ import_symbols imports

-- a function: STB_GLOBAL, STT_FUNC, defined in section 1; the size is that of its code
abbrev pub function_symbol : List Func → Layout → ℕ → Func → List ℕ
function_symbol functions layout number f =
    symbol (name_at (function_names functions) number) 0x12 1 (function_at functions layout number) (length f.code)

unfoldable pub function_symbols : List Func → Layout → List ℕ
function_symbols functions layout = numbered (function_symbol functions layout) 0 functions

-- `lucet_tables`, whose name stands behind those of the functions: STB_GLOBAL, STT_OBJECT, defined in
-- section 1; one pair of 16 bytes for each table
unfoldable pub tables_symbol : Parts → Layout → List ℕ
tables_symbol parts layout = symbol (strings_size (function_names parts.functions)) 0x11 1 layout.lucet_tables (16 * length parts.tables)

-- the symbols: the null symbol, the functions, and `lucet_tables` where there is a table
unfoldable pub symbols : Parts → Layout → List ℕ
symbols parts layout =
    null_symbol ++ function_symbols parts.functions layout ++ (if has_table parts then tables_symbol parts layout else [])

-- their names, in the same order
abbrev pub symbol_names : Parts → List (List ℕ)
symbol_names parts = function_names parts.functions ++ (if has_table parts then codes "lucet_tables" ∷ [] else [])
