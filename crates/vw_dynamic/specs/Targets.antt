-- What relocations resolve to, and rule 26 (System V gABI, "Relocation", "Symbol Table", "String Table";
-- x86-64 psABI, "Relocation Types").
use Rattle.std.specs.Prelude.{ℕ, ◌+◌, ◌*◌, ◌%◌, ◌^◌, Bool, false, not, ◌&&◌, ◌||◌, ◌==◌, nat_le, List, [], length, take, drop, map, filter, Option, Some, None, is_some, option_map, option_and_then, unwrap_or, if◌then◌else◌}
use Rattle.std.specs.List.{filter_map, position}
use Rattle.std.specs.Option.{option_map_or}
use Rattle.std.specs.Str.{bytes_eq}
use Rattle.vw_bits.specs.Places.{file_offset}
use Rattle.vw_bits.specs.Symbols.{symbol_at, symbol_type, is_defined, is_import, string_at}
use Rattle.vw_bits.specs.declared.records.Segment.{Segment}
use Rattle.vw_bits.specs.declared.records.Symbol.{Symbol}
use Rattle.vw_dynamic.specs.declared.directory.Directory.{Directory}
use Rattle.vw_dynamic.specs.declared.relas.RelaEntry.{RelaEntry}
use Rattle.vw_dynamic.specs.declared.dynamic.Relocation.{Relocation}
use Rattle.vw_dynamic.specs.declared.dynamic.RelKind.{RelKind}
use Rattle.vw_dynamic.specs.declared.dynamic.RelKind.TheVariants.{Based, Bound}
use Rattle.vw_dynamic.specs.Directory.{table_offset}
use Rattle.vw_dynamic.specs.Relas.{is_none_kind}
use Rattle.vw_dynamic.specs.Names.{distinct}

-- the bytes of a table with an offset and a size, where they stand
abbrev pub bytes_from : List ℕ → Option ℕ → Option ℕ → List ℕ
bytes_from bytes None size = []
bytes_from bytes (Some offset) size = take (unwrap_or size 0) (drop offset bytes)

-- the bytes of the string table; none where it is not in the file
unfoldable pub strings_of : List ℕ → List Segment → Directory → List ℕ
strings_of bytes segments d = bytes_from bytes (table_offset segments d.strtab d.strsz) d.strsz

-- the file offset of the symbol with an index, whose 24 bytes are in the file part
abbrev pub symbol_offset : List Segment → Option ℕ → ℕ → Option ℕ
symbol_offset segments symtab index = option_and_then (λ first. file_offset segments (first + 24 * index) 24) symtab

-- the symbol with an index other than 0, whose 24 bytes are in the file part
unfoldable pub symbol_of : List ℕ → List Segment → Option ℕ → ℕ → Option Symbol
symbol_of bytes segments symtab index =
    if index == 0 then None
    else option_map (symbol_at bytes) (symbol_offset segments symtab index)

-- a name of an import: a string of 1 to 1,024 bytes in the string table
abbrev pub is_name : List ℕ → Bool
is_name name = nat_le 1 (length name) && nat_le (length name) 1024

-- the name that bytes begin with
abbrev pub named : Option (List ℕ) → Option (List ℕ)
named string = option_and_then (λ name. if is_name name then Some name else None) string

-- the name at an offset of the string table
unfoldable pub name_at : List ℕ → ℕ → Option (List ℕ)
name_at strings at = named (string_at strings at)

-- the types that name a symbol: R_X86_64_64, GLOB_DAT and JUMP_SLOT
abbrev pub is_symbolic : RelaEntry → Bool
is_symbolic r = r.kind == 1 || r.kind == 6 || r.kind == 7

-- R_X86_64_64
abbrev pub adds_addend : RelaEntry → Bool
adds_addend r = r.kind == 1

-- A relocation resolves to a symbol that is not of type STT_GNU_IFUNC (10): one that is defined here, or an
-- import with a name, to which no addend is added.
unfoldable pub resolves_to : List ℕ → RelaEntry → Symbol → Bool
resolves_to strings r s =
    not (symbol_type s == 10)
    && (if is_import s then (not (adds_addend r) || r.addend == 0) && is_some (name_at strings s.name) else is_defined s)

-- Rule 26: a relocation by a symbol resolves.
abbrev pub is_unresolved : List ℕ → List Segment → List ℕ → Option ℕ → RelaEntry → Bool
is_unresolved bytes segments strings symtab r =
    is_symbolic r && not (option_map_or (resolves_to strings r) (symbol_of bytes segments symtab r.symbol) false)

-- the name of the import that a relocation is on
unfoldable pub import_of : List ℕ → List Segment → List ℕ → Option ℕ → RelaEntry → Option (List ℕ)
import_of bytes segments strings symtab r =
    if is_symbolic r
    then option_and_then (λ s. if is_import s then name_at strings s.name else None) (symbol_of bytes segments symtab r.symbol)
    else None

-- the names of the imports, in the order of the first relocations on them
unfoldable pub imports_of : List ℕ → List Segment → List ℕ → Option ℕ → List RelaEntry → List (List ℕ)
imports_of bytes segments strings symtab relas = distinct (filter_map (import_of bytes segments strings symtab) relas)

-- what is added to the load address: r_addend for RELATIVE, S + A modulo 2^64 for 64, S for GLOB_DAT and JUMP_SLOT
abbrev pub defined_word : RelaEntry → Symbol → ℕ
defined_word r s = if adds_addend r then (s.value + r.addend) % 2 ^ 64 else s.value

-- an import is bound by the number of its name
unfoldable pub kind_of : List ℕ → List Segment → List ℕ → Option ℕ → List (List ℕ) → RelaEntry → RelKind
kind_of bytes segments strings symtab imports r =
    if r.kind == 8 then Based r.addend
    else option_map_or (λ name. Bound (unwrap_or (position (bytes_eq name) imports) 0))
    (import_of bytes segments strings symtab r)
    (Based (option_map_or (defined_word r) (symbol_of bytes segments symtab r.symbol) 0))

abbrev pub relocation_of : List ℕ → List Segment → List ℕ → Option ℕ → List (List ℕ) → RelaEntry → Relocation
relocation_of bytes segments strings symtab imports r = record {
  place = r.place;
  kind = kind_of bytes segments strings symtab imports r;
  at = r.at;
}

-- one for each relocation, in order, and none for R_X86_64_NONE
unfoldable pub relocations_of : List ℕ → List Segment → List ℕ → Option ℕ → List (List ℕ) → List RelaEntry → List Relocation
relocations_of bytes segments strings symtab imports relas =
    map (relocation_of bytes segments strings symtab imports) (filter (λ r. not (is_none_kind r)) relas)
