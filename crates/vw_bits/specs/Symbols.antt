-- Symbols and names (System V gABI, "Symbol Table", "String Table").
use Rattle.std.specs.Prelude.{ℕ, ◌+◌, ◌%◌, Bool, ◌&&◌, ◌==◌, nat_le, List, length, drop, Option, Some, None, option_and_then, if◌then◌else◌}
use Rattle.vw_bits.specs.Lists.{before_first}
use Rattle.vw_bits.specs.Fields.{field}
use Rattle.vw_bits.specs.declared.records.Symbol.{Symbol}

-- an entry of a symbol table, by its file offset
abbrev pub st_name : List ℕ → ℕ → ℕ
st_name bytes entry = field bytes entry 4

abbrev pub st_info : List ℕ → ℕ → ℕ
st_info bytes entry = field bytes (entry + 4) 1

abbrev pub st_shndx : List ℕ → ℕ → ℕ
st_shndx bytes entry = field bytes (entry + 6) 2

abbrev pub st_value : List ℕ → ℕ → ℕ
st_value bytes entry = field bytes (entry + 8) 8

abbrev pub st_size : List ℕ → ℕ → ℕ
st_size bytes entry = field bytes (entry + 16) 8

-- the symbol whose entry begins at a file offset
unfoldable pub symbol_at : List ℕ → ℕ → Symbol
symbol_at bytes at = record {
  name = st_name bytes at;
  info = st_info bytes at;
  shndx = st_shndx bytes at;
  value = st_value bytes at;
  size = st_size bytes at;
  at = at;
}

-- ELF64_ST_TYPE
abbrev pub symbol_type : Symbol → ℕ
symbol_type s = s.info % 16

-- defined in this file: st_shndx is neither SHN_UNDEF nor at or above SHN_LORESERVE (0xff00)
abbrev pub is_defined : Symbol → Bool
is_defined s = nat_le 1 s.shndx && nat_le s.shndx 65279

-- an import: st_shndx is SHN_UNDEF
abbrev pub is_import : Symbol → Bool
is_import s = s.shndx == 0

-- the bytes of a string table from offset n up to the first zero byte; `None` where there is no such byte
unfoldable pub string_at : List ℕ → ℕ → Option (List ℕ)
string_at strings n = before_first (λ b. b == 0) (drop n strings)

-- a string of at most 1,024 bytes
abbrev pub short : Option (List ℕ) → Option (List ℕ)
short string = option_and_then (λ s. if nat_le (length s) 1024 then Some s else None) string

-- the string at an offset of a string table, where it has at most 1,024 bytes
unfoldable pub short_string_at : List ℕ → ℕ → Option (List ℕ)
short_string_at strings n = short (string_at strings n)
