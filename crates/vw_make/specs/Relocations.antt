-- The relocation table, DT_RELA (System V gABI, "Relocation"; psABI for x86-64, "Relocation Types":
-- R_X86_64_64 is 1, R_X86_64_GLOB_DAT 6, R_X86_64_RELATIVE 8).
use Rattle.std.specs.Prelude.{ℕ, ◌+◌, ◌*◌, List, [], ◌++◌, length, Option, Some, None}
use Rattle.std.specs.List.{flat_map}
use Rattle.vw_make.specs.declared.parts.Parts.{Parts}
use Rattle.vw_make.specs.declared.parts.Func.{Func}
use Rattle.vw_make.specs.declared.layout.Layout.{Layout}
use Rattle.vw_make.specs.Bytes.{counted, numbered}
use Rattle.vw_make.specs.Records.{relocation}
use Rattle.vw_make.specs.Layout.{function_at, slot_at, table_at}

-- the index of an import's dynamic symbol, behind the null symbol
abbrev pub symbol_index : ℕ → ℕ
symbol_index number = number + 1

-- R_X86_64_GLOB_DAT of the slot of an import
abbrev pub slot_relocation : Layout → ℕ → List ℕ
slot_relocation layout number = relocation (slot_at layout number) 6 (symbol_index number) 0

-- R_X86_64_RELATIVE: the word at `at` is the load address and `addend`
abbrev pub relative : ℕ → ℕ → List ℕ
relative at addend = relocation at 8 0 addend

-- the address in the pair of a table
abbrev pub pair_relocation : List (List (ℕ × Option ℕ)) → Layout → ℕ → List ℕ
pair_relocation tables layout number = relative (layout.lucet_tables + 16 * number) (table_at tables layout number)

-- the pointer of an entry, whose 16 bytes begin at `at`: none for an empty entry
abbrev pub entry_relocation : List Func → Layout → ℕ → ℕ × Option ℕ → List ℕ
entry_relocation functions layout at (tag, None) = []
entry_relocation functions layout at (tag, Some function) = relative (at + 8) (function_at functions layout function)

-- those of the entries of a table that begins at `at`
unfoldable pub table_relocations : List Func → Layout → ℕ → List (ℕ × Option ℕ) → List ℕ
table_relocations functions layout at entries =
    numbered (λ number entry. entry_relocation functions layout (at + 16 * number) entry) 0 entries

-- R_X86_64_64 of the eight bytes of a bind
abbrev pub bind_relocation : Layout → ℕ × ℕ → List ℕ
bind_relocation layout bind = relocation (layout.content + bind.0) 1 (symbol_index bind.1) 0

unfoldable pub slot_relocations : List (List ℕ) → Layout → List ℕ
slot_relocations imports layout = counted (slot_relocation layout) (length imports)

unfoldable pub pair_relocations : List (List (ℕ × Option ℕ)) → Layout → List ℕ
pair_relocations tables layout = counted (pair_relocation tables layout) (length tables)

unfoldable pub entry_relocations : List Func → List (List (ℕ × Option ℕ)) → Layout → List ℕ
entry_relocations functions tables layout =
    numbered (λ number entries. table_relocations functions layout (table_at tables layout number) entries) 0 tables

unfoldable pub bind_relocations : List (ℕ × ℕ) → Layout → List ℕ
bind_relocations binds layout = flat_map (bind_relocation layout) binds

-- the relocations: of the slots, of the pairs, of the entries, of the binds
unfoldable pub relocations : Parts → Layout → List ℕ
relocations parts layout =
    slot_relocations parts.imports layout
    ++ pair_relocations parts.tables layout
    ++ entry_relocations parts.functions parts.tables layout
    ++ bind_relocations parts.binds layout
