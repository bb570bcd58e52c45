-- Modules: the files of which all 36 rules hold, and what they declare.
use Rattle.std.specs.Prelude.{◌≡◌, ℕ, Bool, false, nat_le, List, [], ◌∷◌, ◌++◌, Option, None, option_map}
use Rattle.std.specs.List.{find}
use Rattle.std.specs.Option.{option_or}
use Rattle.vw_bits.specs.Rules.{lowest_broken}
use Rattle.vw_bits.specs.Headers.{segments_of}
use Rattle.vw_bits.specs.HeaderRules.{header_fault}
use Rattle.vw_elf.specs.SymbolSections.{symbol_sections}
use Rattle.vw_dynamic.specs.Dynamic.{dynamic_fault, file_relocations}
use Rattle.vw_dynamic.specs.declared.dynamic.Relocation.{Relocation}
use Rattle.vw_dynamic.specs.declared.dynamic.RelKind.{RelKind}
use Rattle.vw_dynamic.specs.declared.dynamic.RelKind.TheVariants.{Based, Bound}
use Rattle.vw_image.specs.Image.{image_of}
use Rattle.vw_layout.specs.Symbols.{symbols_for}
use Rattle.vw_layout.specs.Functions.{function_rules, functions_of}
use Rattle.vw_layout.specs.Tables.{table_rules, tables_of}
use Rattle.vw_layout.specs.declared.symbols.SymbolEntry.{SymbolEntry}
use Rattle.vw_layout.specs.declared.symbols.Role.TheVariants as role
use Rattle.vw_layout.specs.declared.functions.Function.{Function}
use Rattle.vw_layout.specs.declared.tables.TableInfo.{TableInfo}
use Rattle.vw_layout.specs.declared.layout.Module.{Module}

-- the function symbols of a file
abbrev pub function_symbols : List ℕ → List SymbolEntry
function_symbols bytes = symbols_for bytes (symbol_sections bytes) role.Function

-- its symbols of the tables
abbrev pub tables_symbols : List ℕ → List SymbolEntry
tables_symbols bytes = symbols_for bytes (symbol_sections bytes) role.Tables

-- the functions that a file declares, by ascending address
abbrev pub declared_functions : List ℕ → List Function
declared_functions bytes = functions_of bytes (function_symbols bytes)

-- its tables, in the order of their pairs
abbrev pub declared_tables : List ℕ → List TableInfo
declared_tables bytes = tables_of (image_of bytes) (tables_symbols bytes)

-- a relocation binds an import behind the first 65,536. Imports are numbered from 0, in the order of the first
-- relocations on them.
abbrev pub is_late : RelKind → Bool
is_late (Based addend) = false
is_late (Bound number) = nat_le 65536 number

-- Rule 36: there are at most 65,536 distinct names of imports. The first relocation that binds another one.
abbrev pub import_rule : List Relocation → Option ℕ
import_rule relocations = option_map (λ r. r.at) (find (λ r. is_late r.kind) relocations)

-- Rules 27 to 36.
abbrev pub layout_rules : List ℕ → List (Option ℕ)
layout_rules bytes =
    function_rules bytes (segments_of bytes) (function_symbols bytes)
    ++ table_rules (image_of bytes) (declared_functions bytes) (tables_symbols bytes)
    ++ import_rule (file_relocations bytes) ∷ []

-- the first broken rule of 27 to 36, with its offset; `None` where they all hold
unfoldable pub layout_fault : List ℕ → Option (ℕ × ℕ)
layout_fault bytes = lowest_broken 27 (layout_rules bytes)

-- The first broken rule of the 36, with its offset; `None` where they all hold.
unfoldable pub module_fault : List ℕ → Option (ℕ × ℕ)
module_fault bytes = option_or (header_fault bytes) (option_or (dynamic_fault bytes) (layout_fault bytes))

-- all 36 rules hold of a file
abbrev pub IsModule : List ℕ → Type 0
IsModule bytes = module_fault bytes ≡ None

-- the module of a file
pub record IsModuleOf (bytes : List ℕ) (m : Module) : Type 0 where
  pub rules : IsModule bytes
  pub functions : m.functions ≡ declared_functions bytes
  pub tables : m.tables ≡ declared_tables bytes
  pub image : m.image ≡ image_of bytes

-- A module is the one that its file gives: the condition of each call that takes a module.
abbrev pub IsWhole : Module → Type 0
IsWhole m = IsModuleOf m.image.bytes m
