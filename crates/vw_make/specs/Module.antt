-- The file of a module.
use Rattle.std.specs.Prelude.{ℕ, ◌+◌, ◌-◌, List, ◌++◌}
use Rattle.vw_make.specs.declared.parts.Parts.{Parts}
use Rattle.vw_make.specs.declared.sizes.Sizes.{Sizes}
use Rattle.vw_make.specs.declared.layout.Layout.{Layout}
use Rattle.vw_make.specs.Bytes.{filled_to}
use Rattle.vw_make.specs.Records.{file_header, program_header, section_header}
use Rattle.vw_make.specs.Layout.{sizes_of, layout_of}
use Rattle.vw_make.specs.Symbols.{dynamic_symbols, string_table, symbols, symbol_names}
use Rattle.vw_make.specs.Relocations.{relocations}
use Rattle.vw_make.specs.Text.{text}
use Rattle.vw_make.specs.Tables.{slots, pairs, tables, padded_content, dynamic_section}

-- The program headers: what is read and executed (PT_LOAD, PF_R and PF_X), from the file's begin to the
-- text's end; what is read and written (PT_LOAD, PF_R and PF_W), from the slots to the end of the dynamic
-- section; and the dynamic section (PT_DYNAMIC).
unfoldable pub program_headers : Layout → List ℕ
program_headers layout =
    program_header 1 5 0 layout.text_end 4096
    ++ program_header 1 6 layout.slots (layout.dynamic + 128 - layout.slots) 4096
    ++ program_header 2 6 layout.dynamic 128 8

-- the section headers: a null one, SHT_SYMTAB with the string table of section 2, SHT_STRTAB
unfoldable pub section_headers : Sizes → Layout → List ℕ
section_headers size layout =
    section_header 0 0 0 0 0
    ++ section_header 2 layout.symbols size.symbols 2 24
    ++ section_header 3 layout.strings size.strings 0 0

-- Each of the following begins with the one before it.

-- up to the strings of the dynamic symbols
unfoldable pub front : Parts → Layout → List ℕ
front parts layout = file_header layout.sections ++ program_headers layout ++ dynamic_symbols parts.imports ++ string_table parts.imports

-- up to the text's end: what is loaded for reading and executing
unfoldable pub with_text : Parts → Layout → List ℕ
with_text parts layout =
    filled_to layout.text (filled_to layout.relocations (front parts layout) ++ relocations parts layout) ++ text parts layout

-- up to the end of the dynamic section; what stands behind the slots' begin is loaded for reading and writing
unfoldable pub with_dynamic : Parts → Sizes → Layout → List ℕ
with_dynamic parts size layout =
    filled_to layout.slots (with_text parts layout)
    ++ slots parts.imports ++ pairs parts.tables ++ tables parts.tables ++ padded_content parts ++ dynamic_section size layout

-- the file with the parts at these places
unfoldable pub file_of : Parts → Sizes → Layout → List ℕ
file_of parts size layout =
    filled_to layout.sections (with_dynamic parts size layout ++ symbols parts layout ++ string_table (symbol_names parts))
    ++ section_headers size layout

-- the bytes of the module with these parts
unfoldable pub module_bytes : Parts → List ℕ
module_bytes parts = file_of parts (sizes_of parts) (layout_of parts)
