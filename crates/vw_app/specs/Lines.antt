-- The lines of text that the program prints. A text is the list of its bytes.
use Rattle.std.specs.Prelude.{ℕ, ◌==◌, ◌&&◌, not, nat_le, if◌then◌else◌, List, [], ◌∷◌, ◌++◌, length, codes}
use Rattle.std.specs.List.{flat_map, enumerate_from}
use Rattle.std.specs.Fmt.{decimal}
use Rattle.vw_bits.specs.Numerals.{hex_text}
use Rattle.vw_layout.specs.declared.functions.Function.{Function}
use Rattle.vw_layout.specs.declared.tables.TableInfo.{TableInfo}

-- a text as a line
abbrev pub line : List ℕ → List ℕ
line text = text ++ 10 ∷ []

-- an address, in sixteen digits
abbrev pub address_text : ℕ → List ℕ
address_text a = codes "0x" ++ hex_text a 16

-- a byte of a name: as it is where it is a visible ASCII character other than the backslash, and else a
-- backslash, `x` and two hexadecimal digits
abbrev pub name_byte : ℕ → List ℕ
name_byte b = if nat_le 33 b && nat_le b 126 && not (b == 92) then b ∷ [] else codes "\\x" ++ hex_text b 2

abbrev pub name_text : List ℕ → List ℕ
name_text name = flat_map name_byte name

unfoldable pub usage_line : List ℕ
usage_line =
    line (codes "usage: vw verify FILE | report FILE | check FILE REPORT | list FILE | info FILE | trace FILE FUNCTION STEPS NUMBER | make FUNCTIONS NUMBER | selftest FUNCTIONS NUMBER")

-- a count of functions
unfoldable pub safe_line : ℕ → List ℕ
safe_line count = line (codes "safe, functions " ++ decimal count)

-- a count of functions, and one of states
unfoldable pub selftest_line : ℕ → ℕ → List ℕ
selftest_line functions states =
    line (codes "selftest, functions " ++ decimal functions ++ codes ", instructions " ++ decimal states ++ codes ", safe, rechecked")

unfoldable pub read_fault_line : List ℕ
read_fault_line = line (codes "read fault")

-- the first broken rule and the offset that it names
unfoldable pub malformed_line : ℕ → ℕ → List ℕ
malformed_line rule offset = line (codes "malformed, rule " ++ decimal rule ++ codes " at " ++ decimal offset)

-- the first line of a report that is in error, counted from 1, and 0 of a report that is too long
unfoldable pub bad_report_line : ℕ → List ℕ
bad_report_line number = line (codes "bad report, line " ++ decimal number)

-- the word of a check; 0 is that tables are a solution
abbrev pub check_word : ℕ → List ℕ
check_word check =
    if check == 0 then codes "table"
    else (if check == 1 then codes "code"
    else (if check == 2 then codes "jump"
    else (if check == 3 then codes "depth"
    else (if check == 4 then codes "address"
    else (if check == 5 then codes "read only"
    else (if check == 6 then codes "local"
    else (if check == 7 then codes "call" else codes "return")))))))

-- a check: its number and its word
abbrev pub check_text : ℕ → List ℕ
check_text check = codes "C" ++ decimal check ++ codes " " ++ check_word check

-- a function's name, an offset in the function, and the check that fails there
unfoldable pub unsafe_line : List ℕ → ℕ → ℕ → List ℕ
unsafe_line name at check = line (codes "unsafe, " ++ name_text name ++ codes "+0x" ++ hex_text at 1 ++ codes ", " ++ check_text check)

-- a function: its entry, how many bytes it has, and its name
abbrev pub function_line : Function → List ℕ
function_line f = line (address_text f.entry ++ codes " " ++ decimal f.size ++ codes " " ++ name_text f.name)

-- a table by its number: its address and how many entries it has
abbrev pub table_line : ℕ × TableInfo → List ℕ
table_line t = line (decimal t.0 ++ codes " " ++ address_text t.1.address ++ codes " " ++ decimal (length t.1.entries))

-- an import by its number
abbrev pub import_line : ℕ × List ℕ → List ℕ
import_line import = line (decimal import.0 ++ codes " " ++ name_text import.1)

-- how many there are
abbrev pub count_line : List ℕ → ℕ → List ℕ
count_line what count = line (what ++ decimal count)

abbrev pub function_lines : List Function → List ℕ
function_lines functions = count_line (codes "functions ") (length functions) ++ flat_map function_line functions

abbrev pub table_lines : List TableInfo → List ℕ
table_lines tables = count_line (codes "tables ") (length tables) ++ flat_map table_line (enumerate_from 0 tables)

abbrev pub import_lines : List (List ℕ) → List ℕ
import_lines imports = count_line (codes "imports ") (length imports) ++ flat_map import_line (enumerate_from 0 imports)

-- the functions, tables and imports of a module
unfoldable pub info_text : List Function → List TableInfo → List (List ℕ) → List ℕ
info_text functions tables imports = function_lines functions ++ (table_lines tables ++ import_lines imports)
