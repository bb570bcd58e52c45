-- The tables that the dynamic section names, and rules 20 to 22.
use Rattle.std.specs.Prelude.{ℕ, ◌/◌, ◌%◌, Bool, false, not, ◌&&◌, ◌||◌, ◌==◌, List, [], Option, Some, None, is_none, option_map, if◌then◌else◌, unwrap_or, ◌++◌, filter}
use Rattle.std.specs.List.{find, list_any}
use Rattle.vw_bits.specs.Headers.{table}
use Rattle.vw_bits.specs.Places.{file_offset}
use Rattle.vw_bits.specs.declared.records.Segment.{Segment}
use Rattle.vw_dynamic.specs.declared.entries.Entry.{Entry}
use Rattle.vw_dynamic.specs.declared.directory.Directory.{Directory}

-- the value of the first entry of a tag
unfoldable pub value_of : ℕ → List Entry → Option ℕ
value_of tag entries = option_map (λ e. e.value) (find (λ e. e.tag == tag) entries)

-- the values of DT_STRTAB (5), DT_STRSZ (10), DT_SYMTAB (6), DT_RELA (7), DT_RELASZ (8), DT_JMPREL (23) and
-- DT_PLTRELSZ (2), where they stand
unfoldable pub directory_of : List Entry → Directory
directory_of entries = record {
  strtab = value_of 5 entries;
  strsz = value_of 10 entries;
  symtab = value_of 6 entries;
  rela = value_of 7 entries;
  relasz = value_of 8 entries;
  jmprel = value_of 23 entries;
  pltrelsz = value_of 2 entries;
}

-- Rule 20: DT_RELAENT (9) is 24 and DT_PLTREL (20) is DT_RELA; an address has its size, and a size its
-- address and whole entries of 24 bytes.
unfoldable pub is_misfit : Directory → Entry → Bool
is_misfit d e =
    if e.tag == 9 then not (e.value == 24)
    else (if e.tag == 20 then not (e.value == 7)
    else (if e.tag == 7 then is_none d.relasz
    else (if e.tag == 8 then is_none d.rela || not (e.value % 24 == 0)
    else (if e.tag == 23 then is_none d.pltrelsz
    else (if e.tag == 2 then is_none d.jmprel || not (e.value % 24 == 0)
    else false)))))

-- the file offset of a table with an address and a size, where both stand and it is in the file part
abbrev pub table_offset : List Segment → Option ℕ → Option ℕ → Option ℕ
table_offset segments None size = None
table_offset segments (Some address) None = None
table_offset segments (Some address) (Some size) = file_offset segments address size

-- Rule 21: where DT_SYMTAB stands, so does the string table, in the file part.
abbrev pub lacks_strings : List Segment → Directory → Entry → Bool
lacks_strings segments d e = e.tag == 6 && is_none (table_offset segments d.strtab d.strsz)

-- Rule 22: each relocation table is in the file part.
abbrev pub is_unplaced : List Segment → Directory → Entry → Bool
is_unplaced segments d e =
    (e.tag == 7 && is_none (table_offset segments d.rela d.relasz))
    || (e.tag == 23 && is_none (table_offset segments d.jmprel d.pltrelsz))

-- the file offsets of the entries of a relocation table, in order
abbrev pub items_at : Option ℕ → Option ℕ → List ℕ
items_at None size = []
items_at (Some offset) size = table offset 24 (unwrap_or size 0 / 24)

-- those of DT_RELA, and then those of DT_JMPREL that do not begin where one of DT_RELA begins
unfoldable pub relocation_offsets : List Segment → Directory → List ℕ
relocation_offsets segments d =
    let first = items_at (table_offset segments d.rela d.relasz) d.relasz in
    let second = items_at (table_offset segments d.jmprel d.pltrelsz) d.pltrelsz in
    first ++ filter (λ at. not (list_any (λ other. other == at) first)) second
