-- What the second segment holds: slots, `lucet_tables`, the tables, the data, the dynamic section. Words that
-- are relocated are 0 in the file.
use Rattle.std.specs.Prelude.{ℕ, ◌-◌, ◌*◌, ◌^◌, List, ◌++◌, length, Option, Some, None}
use Rattle.std.specs.List.{flat_map}
use Rattle.byteorder.specs.Endian.{little_bytes}
use Rattle.vw_make.specs.declared.parts.Parts.{Parts}
use Rattle.vw_make.specs.declared.sizes.Sizes.{Sizes}
use Rattle.vw_make.specs.declared.layout.Layout.{Layout}
use Rattle.vw_make.specs.Bytes.{zeros, padded, with_fields}
use Rattle.vw_make.specs.Records.{dynamic_entry}

-- eight bytes for each import
unfoldable pub slots : List (List ℕ) → List ℕ
slots imports = zeros (8 * length imports)

-- the pair of a table: its address, and how many entries it has
abbrev pub pair : List (ℕ × Option ℕ) → List ℕ
pair entries = zeros 8 ++ little_bytes 8 (length entries)

-- `lucet_tables`
unfoldable pub pairs : List (List (ℕ × Option ℕ)) → List ℕ
pairs tables = flat_map pair tables

-- the tag of an empty entry
abbrev pub empty_tag : ℕ
empty_tag = 2 ^ 64 - 1

-- an entry: its tag, and the pointer to its function; an empty entry has the pointer 0
abbrev pub entry : ℕ × Option ℕ → List ℕ
entry (tag, None) = little_bytes 8 empty_tag ++ zeros 8
entry (tag, Some function) = little_bytes 8 tag ++ zeros 8

unfoldable pub table : List (ℕ × Option ℕ) → List ℕ
table entries = flat_map entry entries

unfoldable pub tables : List (List (ℕ × Option ℕ)) → List ℕ
tables all_tables = flat_map table all_tables

-- the content, with the words under binds 0
unfoldable pub bound_content : Parts → List ℕ
bound_content parts = with_fields (λ bind. zeros 8) 8 parts.binds parts.content

-- the data
unfoldable pub padded_content : Parts → List ℕ
padded_content parts = padded 8 0 (bound_content parts)

-- the dynamic section (System V gABI, "Dynamic Section"): DT_STRTAB, DT_SYMTAB, DT_STRSZ, DT_SYMENT, DT_RELA,
-- DT_RELASZ, DT_RELAENT, DT_NULL
unfoldable pub dynamic_section : Sizes → Layout → List ℕ
dynamic_section size layout =
    dynamic_entry 5 layout.dynamic_strings
    ++ dynamic_entry 6 232
    ++ dynamic_entry 10 size.dynamic_strings
    ++ dynamic_entry 11 24
    ++ dynamic_entry 7 layout.relocations
    ++ dynamic_entry 8 size.relocations
    ++ dynamic_entry 9 24
    ++ dynamic_entry 0 0
