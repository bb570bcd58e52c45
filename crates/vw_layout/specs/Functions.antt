-- The declared functions of a file, and rules 27 to 31.
use Rattle.std.specs.Prelude.{ℕ, ◌+◌, Bool, false, not, ◌&&◌, ◌==◌, nat_le, nat_lt, List, [], ◌∷◌, length, map, fold, Option, is_none, option_map, unwrap_or, if◌then◌else◌}
use Rattle.std.specs.List.{find, list_any, filter_map}
use Rattle.std.specs.Option.{option_map_or}
use Rattle.vw_bits.specs.Headers.{is_readable, is_executable}
use Rattle.vw_bits.specs.Places.{in_file_part}
use Rattle.vw_bits.specs.Rules.{with_earlier}
use Rattle.vw_bits.specs.declared.records.Segment.{Segment}
use Rattle.vw_layout.specs.Symbols.{name_of}
use Rattle.vw_layout.specs.declared.symbols.SymbolEntry.{SymbolEntry}
use Rattle.vw_layout.specs.declared.functions.Function.{Function}

-- the file offset of a symbol
abbrev pub symbol_offset : Option SymbolEntry → Option ℕ
symbol_offset entry = option_map (λ s. s.symbol.at) entry

-- Rule 27: a function symbol's name ends inside its string table after at most 1,024 bytes.
abbrev pub is_nameless : List ℕ → SymbolEntry → Bool
is_nameless bytes s = is_none (name_of bytes s)

-- Rule 28: its size is at most 1,048,576, and its bytes are in the file part of a segment that is read and
-- executed.
abbrev pub is_code : Segment → SymbolEntry → Bool
is_code segment s = is_readable segment && is_executable segment && in_file_part s.symbol.value s.symbol.size segment

abbrev pub is_misplaced : List Segment → SymbolEntry → Bool
is_misplaced segments s = not (nat_le s.symbol.size 1048576 && list_any (λ segment. is_code segment s) segments)

-- the first of the symbols at an address
abbrev pub first_at : List SymbolEntry → ℕ → Option SymbolEntry
first_at symbols address = find (λ s. s.symbol.value == address) symbols

-- Rule 29: function symbols of one address have one size. A symbol breaks it where an earlier symbol of its
-- address has another size. To find the first that does, it is enough to compare each symbol with the first of
-- its address, since the symbols of an address before the one that breaks the rule all have one size.
abbrev pub is_resized : List SymbolEntry → SymbolEntry → Bool
is_resized symbols s = option_map_or (λ first. not (first.symbol.size == s.symbol.size)) (first_at symbols s.symbol.value) false

-- a number among ascending ones, which each stand once
abbrev pub placed : List ℕ → ℕ → List ℕ
placed [] n = n ∷ []
placed (m ∷ ms) n = if nat_lt n m then n ∷ m ∷ ms else (if n == m then m ∷ ms else m ∷ placed ms n)

-- numbers, each once, ascending
unfoldable pub ascending : List ℕ → List ℕ
ascending numbers = fold placed [] numbers

-- the addresses of symbols, each once, ascending
unfoldable pub addresses_of : List SymbolEntry → List ℕ
addresses_of symbols = ascending (map (λ s. s.symbol.value) symbols)

-- the first symbol of each address, by ascending address
unfoldable pub by_address : List SymbolEntry → List SymbolEntry
by_address symbols = filter_map (first_at symbols) (addresses_of symbols)

-- Rule 30: the functions of two symbols share a byte.
abbrev pub share_byte : SymbolEntry → SymbolEntry → Bool
share_byte a b = nat_lt a.symbol.value (b.symbol.value + b.symbol.size) && nat_lt b.symbol.value (a.symbol.value + a.symbol.size)

-- of the functions by ascending address, the first that shares a byte with one of a lower address
unfoldable pub first_overlap : List SymbolEntry → Option SymbolEntry
first_overlap functions = option_map (λ p. p.1) (find (λ p. list_any (λ lower. share_byte lower p.1) p.0) (with_earlier functions))

-- Rule 31: a symbol has a new address behind symbols of 65,536 addresses.
abbrev pub is_excess : List SymbolEntry → SymbolEntry → Bool
is_excess earlier s = not (list_any (λ e. e.symbol.value == s.symbol.value) earlier) && nat_le 65536 (length (addresses_of earlier))

-- the symbol that first has the 65,537th address
unfoldable pub first_excess : List SymbolEntry → Option SymbolEntry
first_excess symbols = option_map (λ p. p.1) (find (λ p. is_excess p.0 p.1) (with_earlier symbols))

-- Rules 27 to 31, for the function symbols of a file.
unfoldable pub function_rules : List ℕ → List Segment → List SymbolEntry → List (Option ℕ)
function_rules bytes segments symbols =
    symbol_offset (find (is_nameless bytes) symbols)
    ∷ symbol_offset (find (is_misplaced segments) symbols)
    ∷ symbol_offset (find (is_resized symbols) symbols)
    ∷ symbol_offset (first_overlap (by_address symbols))
    ∷ symbol_offset (first_excess symbols)
    ∷ []

-- the function that a symbol declares
abbrev pub function_of : List ℕ → SymbolEntry → Function
function_of bytes s = record {
  entry = s.symbol.value;
  size = s.symbol.size;
  name = unwrap_or (name_of bytes s) [];
}

-- The functions that function symbols declare: one for each address, ascending, by the first symbol there.
unfoldable pub functions_of : List ℕ → List SymbolEntry → List Function
functions_of bytes symbols = map (function_of bytes) (by_address symbols)
