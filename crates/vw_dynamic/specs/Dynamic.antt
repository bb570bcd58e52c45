-- The first broken rule of 15 to 26, and what the dynamic section of a file gives.
use Rattle.std.specs.Prelude.{ℕ, not, List, [], ◌∷◌, ◌++◌, Option, is_some, unwrap_or}
use Rattle.std.specs.List.{find}
use Rattle.vw_bits.specs.Headers.{segments_of, dynamics_of}
use Rattle.vw_bits.specs.Rules.{unless, lowest_broken}
use Rattle.vw_bits.specs.declared.records.Segment.{Segment}
use Rattle.vw_bits.specs.declared.records.DynHeader.{DynHeader}
use Rattle.vw_dynamic.specs.declared.entries.Entry.{Entry}
use Rattle.vw_dynamic.specs.declared.directory.Directory.{Directory}
use Rattle.vw_dynamic.specs.declared.relas.RelaEntry.{RelaEntry}
use Rattle.vw_dynamic.specs.declared.dynamic.Relocation.{Relocation}
use Rattle.vw_dynamic.specs.Entries.{section_offset, section_entries, second_header, is_forbidden, first_repeated, offset_of}
use Rattle.vw_dynamic.specs.Directory.{directory_of, is_misfit, lacks_strings, is_unplaced}
use Rattle.vw_dynamic.specs.Relas.{relas_of, is_known, is_misplaced, first_overlap, rela_offset}
use Rattle.vw_dynamic.specs.Targets.{strings_of, is_unresolved, imports_of, relocations_of}

-- Rules 15 to 17, for the first header and those behind it.
unfoldable pub section_rules : List ℕ → List Segment → DynHeader → List DynHeader → List (Option ℕ)
section_rules bytes segments header more =
    second_header more
    ∷ unless (is_some (section_offset segments header)) header.header_at
    ∷ unless (is_some (section_entries bytes segments header)) header.header_at
    ∷ []

-- Rules 18 to 22, for the entries.
unfoldable pub entry_rules : List Segment → List Entry → List (Option ℕ)
entry_rules segments entries =
    offset_of (find is_forbidden entries)
    ∷ offset_of (first_repeated entries)
    ∷ offset_of (find (is_misfit (directory_of entries)) entries)
    ∷ offset_of (find (lacks_strings segments (directory_of entries)) entries)
    ∷ offset_of (find (is_unplaced segments (directory_of entries)) entries)
    ∷ []

-- Rules 23 to 25, for the types and the places of the relocations.
abbrev pub place_rules : List Segment → List RelaEntry → List (Option ℕ)
place_rules segments relas =
    rela_offset (find (λ r. not (is_known r)) relas)
    ∷ rela_offset (find (is_misplaced segments) relas)
    ∷ rela_offset (first_overlap relas)
    ∷ []

-- Rules 23 to 26, for the relocations.
unfoldable pub rela_rules : List ℕ → List Segment → List ℕ → Option ℕ → List RelaEntry → List (Option ℕ)
rela_rules bytes segments strings symtab relas =
    place_rules segments relas ++ rela_offset (find (is_unresolved bytes segments strings symtab) relas) ∷ []

-- the entries of the first dynamic section; none where there is no section
unfoldable pub entries_of : List ℕ → List Segment → List DynHeader → List Entry
entries_of bytes segments [] = []
entries_of bytes segments (header ∷ more) = unwrap_or (section_entries bytes segments header) []

abbrev pub rules_behind : List ℕ → List Segment → List Entry → List (Option ℕ)
rules_behind bytes segments entries =
    let d = directory_of entries in
    entry_rules segments entries ++ rela_rules bytes segments (strings_of bytes segments d) d.symtab (relas_of bytes segments d)

-- rules 15 to 26, which all hold where there is no dynamic section
unfoldable pub dynamic_rules : List ℕ → List Segment → List DynHeader → List (Option ℕ)
dynamic_rules bytes segments [] = []
dynamic_rules bytes segments (header ∷ more) =
    section_rules bytes segments header more ++ rules_behind bytes segments (unwrap_or (section_entries bytes segments header) [])

-- The first broken rule of 15 to 26, with its offset; `None` where they all hold.
unfoldable pub dynamic_fault : List ℕ → Option (ℕ × ℕ)
dynamic_fault bytes = lowest_broken 15 (dynamic_rules bytes (segments_of bytes) (dynamics_of bytes))

-- what the relocations of a directory bind
abbrev pub imports_in : List ℕ → List Segment → Directory → List (List ℕ)
imports_in bytes segments d = imports_of bytes segments (strings_of bytes segments d) d.symtab (relas_of bytes segments d)

abbrev pub relocations_in : List ℕ → List Segment → Directory → List Relocation
relocations_in bytes segments d =
    relocations_of bytes segments (strings_of bytes segments d) d.symtab (imports_in bytes segments d) (relas_of bytes segments d)

-- the names of the file's imports, in the order of the first relocations on them
unfoldable pub file_imports : List ℕ → List (List ℕ)
file_imports bytes = imports_in bytes (segments_of bytes) (directory_of (entries_of bytes (segments_of bytes) (dynamics_of bytes)))

-- the file's relocations
unfoldable pub file_relocations : List ℕ → List Relocation
file_relocations bytes = relocations_in bytes (segments_of bytes) (directory_of (entries_of bytes (segments_of bytes) (dynamics_of bytes)))
