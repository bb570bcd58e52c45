-- The entries of the dynamic section, and rules 15 to 19 (System V gABI, "Dynamic Section").
use Rattle.std.specs.Prelude.{ℕ, ◌/◌, Bool, not, ◌&&◌, ◌||◌, ◌==◌, List, [], ◌∷◌, map, Option, Some, None, option_map, option_and_then, Vec}
use Rattle.std.specs.List.{find, list_any}
use Rattle.vw_bits.specs.DynamicTables.{d_tag, d_un}
use Rattle.vw_bits.specs.Headers.{table}
use Rattle.vw_bits.specs.Lists.{before_first}
use Rattle.vw_bits.specs.Rules.{with_earlier}
use Rattle.vw_bits.specs.Places.{file_offset}
use Rattle.vw_bits.specs.declared.records.Segment.{Segment}
use Rattle.vw_bits.specs.declared.records.DynHeader.{DynHeader}
use Rattle.vw_dynamic.specs.declared.entries.Entry.{Entry}

-- d_tag and d_un of the entry at a file offset
unfoldable pub entry_at : List ℕ → ℕ → Entry
entry_at bytes at = record { at = at; tag = d_tag bytes at; value = d_un bytes at }

-- the whole entries among `size` bytes from a file offset on
unfoldable pub whole_entries : List ℕ → ℕ → ℕ → List Entry
whole_entries bytes start size = map (entry_at bytes) (table start 16 (size / 16))

abbrev pub is_null : Entry → Bool
is_null entry = entry.tag == 0

-- the entries before the first DT_NULL, which ends the section; `None` where none ends it
unfoldable pub ended_entries : List ℕ → ℕ → ℕ → Option (List Entry)
ended_entries bytes start size = before_first is_null (whole_entries bytes start size)

-- where the section that a program header describes is in the file
abbrev pub section_offset : List Segment → DynHeader → Option ℕ
section_offset segments header = file_offset segments header.vaddr header.filesz

-- its entries
unfoldable pub section_entries : List ℕ → List Segment → DynHeader → Option (List Entry)
section_entries bytes segments header = option_and_then (λ start. ended_entries bytes start header.filesz) (section_offset segments header)

-- Rule 15: at most one dynamic section; the second header. `more` are those behind the first.
abbrev pub second_header : List DynHeader → Option ℕ
second_header [] = None
second_header (header ∷ more) = Some header.header_at

-- Rule 18: DT_INIT (12), DT_FINI (13), DT_REL (17), DT_RELR (36), or DT_INIT_ARRAYSZ (27) or
-- DT_FINI_ARRAYSZ (28) of a size other than 0.
abbrev pub is_forbidden : Entry → Bool
is_forbidden e =
    e.tag == 12 || e.tag == 13 || e.tag == 17 || e.tag == 36
    || ((e.tag == 27 || e.tag == 28) && not (e.value == 0))

-- the tags that stand at most once: DT_PLTRELSZ, DT_STRTAB, DT_SYMTAB, DT_RELA, DT_RELASZ, DT_RELAENT,
-- DT_STRSZ, DT_PLTREL and DT_JMPREL
abbrev pub single_tags : List ℕ
single_tags = 2 ∷ 5 ∷ 6 ∷ 7 ∷ 8 ∷ 9 ∷ 10 ∷ 20 ∷ 23 ∷ []

abbrev pub is_single : ℕ → Bool
is_single tag = list_any (λ t. t == tag) single_tags

abbrev pub stands_in : ℕ → List Entry → Bool
stands_in tag entries = list_any (λ e. e.tag == tag) entries

-- Rule 19: the first entry of such a tag behind another one of it.
unfoldable pub first_repeated : List Entry → Option Entry
first_repeated entries = option_map (λ p. p.1) (find (λ p. is_single p.1.tag && stands_in p.1.tag p.0) (with_earlier entries))

-- the file offset of an entry
abbrev pub offset_of : Option Entry → Option ℕ
offset_of entry = option_map (λ e. e.at) entry

-- what a reader answers, as a list
abbrev pub entry_list : {A : Type 0} → Option (Vec Entry A) → Option (List Entry)
entry_list entries = option_map (λ v. v.items) entries
