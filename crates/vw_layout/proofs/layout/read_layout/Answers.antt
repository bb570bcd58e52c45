use Rattle.std.proofs.Common.{◌≡◌, ℕ, ◌≤◌, ◌^◌, List, Option, None, length, rules, sym, ap, subst, ◌∙◌}
use Rattle.std.proofs.lemmas.Result.{err_from_is_err_and}
use Rattle.vw_bits.specs.declared.records.Segment.{Segment}
use Rattle.vw_bits.specs.Headers.{segments_of}
use Rattle.vw_bits.specs.Rules.{lowest_broken, AllHold}
use Rattle.vw_elf.specs.SymbolSections.{symbol_sections}
use Rattle.vw_elf.specs.declared.sections.SymbolSection.{SymbolSection}
use Rattle.vw_bits.specs.Bounds.{AreBounded}
use Rattle.vw_dynamic.specs.Dynamic.{file_relocations}
use Rattle.vw_image.specs.Image.{Contents, image_of, IsImage}
use Rattle.vw_layout.specs.Bounds.{AreInside}
use Rattle.vw_layout.specs.Faults.{Names, Tells}
use Rattle.vw_layout.specs.Symbols.{symbols_for, distinct_sections}
use Rattle.vw_layout.specs.Functions.{function_rules, functions_of}
use Rattle.vw_layout.specs.Tables.{table_rules}
use Rattle.vw_layout.specs.Spans.{Ascend}
use Rattle.vw_layout.specs.Layout.{function_symbols, tables_symbols, declared_functions, import_rule, layout_fault}
use Rattle.vw_layout.specs.declared.symbols.Role.TheVariants as role
use Rattle.vw_layout.specs.declared.functions.Function.{Function}
use Rattle.vw_layout.specs.declared.symbols.SymbolEntry.{SymbolEntry}
use Rattle.vw_layout.specs.declared.faults.ModuleError.{ModuleError}
use Rattle.vw_layout.proofs.SectionLemmas.{AreInside-from_rules}
use Rattle.vw_layout.proofs.DistinctLemmas.{AreAlike, inside_distinct}
use Rattle.vw_layout.proofs.ModuleLemmas.{segments_low, segments_are, relocations_are, functions_ascend, in_functions, in_tables, in_imports, none_broken, function_rules_same, functions_same, tables_symbols_same, table_rules_same, tables_same}
use Rattle.vw_layout.proofs.ApartLemmas.{few_by_rules}
use Rattle.vw_layout.proofs.layout.read_layout.Goals as goal

inside_of : (bytes lent : List ℕ) (sections : List SymbolSection) → lent ≡ bytes → sections ≡ distinct_sections (symbol_sections bytes) → AreInside (length bytes) (symbol_sections bytes) → AreInside (length lent) sections
inside_of bytes lent sections same are inside =
    let P : List SymbolSection → Type 0 = λ ss. AreInside (length bytes) ss in
    let Q : List ℕ → Type 0 = λ bs. AreInside (length bs) sections in
    subst Q (sym same) (subst P (sym are) (inside_distinct (length bytes) (symbol_sections bytes) inside))

low_of : (bytes : List ℕ) (segments : List Segment) → segments ≡ segments_of bytes → AreBounded (2 ^ 64) (segments_of bytes) → AreBounded (2 ^ 64) segments
low_of bytes segments are low = let P : List Segment → Type 0 = λ ss. AreBounded (2 ^ 64) ss in subst P (sym are) low

-- what is read of the image's bytes and segments, and of its sections of symbols, each once
module _ (image : Contents) (whole : IsImage image) (lent : List ℕ) (same : lent ≡ image.bytes) (segments : List Segment) (are : segments ≡ image.segments) (sections : List SymbolSection) (once : sections ≡ distinct_sections (symbol_sections image.bytes)) where
  abbrev read_rules : List (Option ℕ)
  read_rules = function_rules lent segments (symbols_for lent sections role.Function)

  agree : read_rules ≡ function_rules image.bytes (segments_of image.bytes) (function_symbols image.bytes)
  agree = function_rules_same lent image.bytes segments (segments_of image.bytes) sections (symbol_sections image.bytes) same (are ∙ segments_are image whole) once

  at_functions : (e : ModuleError) → Names (lowest_broken 27 read_rules) e → Names (layout_fault image.bytes) e
  at_functions e names =
      let P : List (Option ℕ) → Type 0 = λ r. Names (lowest_broken 27 r) e in
      in_functions image.bytes e (subst P agree names)

  declared : (functions : List Function) → functions ≡ functions_of lent (symbols_for lent sections role.Function) → functions ≡ declared_functions image.bytes
  declared functions read = read ∙ functions_same lent image.bytes sections (symbol_sections image.bytes) same once

  alike : (symbols : List SymbolEntry) → symbols ≡ symbols_for lent sections role.Tables → AreAlike (tables_symbols image.bytes) symbols
  alike symbols read = tables_symbols_same lent image.bytes sections (symbol_sections image.bytes) symbols same once read

  module _ (holds : AllHold read_rules) (functions : List Function) (read : functions ≡ functions_of lent (symbols_for lent sections role.Function)) (symbols : List SymbolEntry) (found : symbols ≡ symbols_for lent sections role.Tables) where
    held : AllHold (function_rules image.bytes (segments_of image.bytes) (function_symbols image.bytes))
    held = let H : List (Option ℕ) → Type 0 = λ r. AllHold r in subst H agree holds

    tables_agree : table_rules image functions symbols ≡ table_rules (image_of image.bytes) (declared_functions image.bytes) (tables_symbols image.bytes)
    tables_agree = table_rules_same image (image_of image.bytes) functions (declared_functions image.bytes) symbols (tables_symbols image.bytes) whole.whole (declared functions read) (alike symbols found)

    at_tables : (e : ModuleError) → Names (lowest_broken 32 (table_rules image functions symbols)) e → Names (layout_fault image.bytes) e
    at_tables e names =
        let P : List (Option ℕ) → Type 0 = λ r. Names (lowest_broken 32 r) e in
        in_tables image.bytes e held (subst P tables_agree names)

    module _ (hold : AllHold (table_rules image functions symbols)) (late : Option ℕ) (is : late ≡ import_rule image.relocations) where
      tables_held : AllHold (table_rules (image_of image.bytes) (declared_functions image.bytes) (tables_symbols image.bytes))
      tables_held = let H : List (Option ℕ) → Type 0 = λ r. AllHold r in subst H tables_agree hold

      late_is : late ≡ import_rule (file_relocations image.bytes)
      late_is = is ∙ ap import_rule (relocations_are image whole)

      at_imports : (e : ModuleError) → Tells 36 late e → Names (layout_fault image.bytes) e
      at_imports e tells = in_imports image.bytes late e held tables_held late_is tells

      none : late ≡ None → layout_fault image.bytes ≡ None
      none holds = none_broken image.bytes late held tables_held late_is holds

pub read_functions-requires-clause-inside : goal.read_functions-requires-clause-inside
read_functions-requires-clause-inside c = inside_of c.args.image.bytes c.bytes.result.now c.args.sections.now c.bytes.ensures.lent c.requires.sections (AreInside-from_rules c.args.image.bytes c.bytes.ensures.whole.headers)

pub read_functions-requires-clause-small : goal.read_functions-requires-clause-small
read_functions-requires-clause-small c = low_of c.args.image.bytes c.segments.result.now (c.segments.ensures.lent ∙ segments_are c.args.image c.bytes.ensures.whole) (segments_low c.args.image.bytes c.bytes.ensures.whole.headers)

pub returns-in_err-functions-clause-fault : goal.returns-in_err-functions-clause-fault
returns-in_err-functions-clause-fault c =
    let p = err_from_is_err_and c.from_residual.result c.from_residual.ensures.1 in
    rw (p.1, p.2) (at_functions c.args.image c.bytes.ensures.whole c.bytes.result.now c.bytes.ensures.lent c.segments.result.now c.segments.ensures.lent c.args.sections.now c.requires.sections _ c.in_err-functions.ensures.fault)

pub read_symbols-requires : goal.read_symbols-requires
read_symbols-requires c = inside_of c.args.image.bytes c.bytes-2.result.now c.args.sections.now c.bytes-2.ensures.lent c.requires.sections (AreInside-from_rules c.args.image.bytes c.bytes.ensures.whole.headers)

pub read_tables-requires-clause-bounded : goal.read_tables-requires-clause-bounded
read_tables-requires-clause-bounded c = low_of c.args.image.bytes c.args.image.segments (segments_are c.args.image c.bytes.ensures.whole) (segments_low c.args.image.bytes c.bytes.ensures.whole.headers)

pub read_tables-requires-clause-ascend : goal.read_tables-requires-clause-ascend
read_tables-requires-clause-ascend c =
    let bytes = c.bytes.result.now in
    let P : List Function → Type 0 = λ fs. Ascend fs in
    subst P (sym (c.as_slice.ensures ∙ c.in_ok-functions.ensures.ok)) (functions_ascend bytes (symbols_for bytes c.args.sections.now role.Function))

pub read_tables-requires-clause-few : goal.read_tables-requires-clause-few
read_tables-requires-clause-few c =
    let bytes = c.bytes.result.now in
    let P : List Function → Type 0 = λ fs. length fs ≤ 65536 in
    let symbols = symbols_for bytes c.args.sections.now role.Function in
    subst P (sym (c.as_slice.ensures ∙ c.in_ok-functions.ensures.ok)) (few_by_rules bytes c.segments.result.now symbols c.in_ok-functions.ensures.rules)

pub returns-in_err-tables-clause-fault : goal.returns-in_err-tables-clause-fault
returns-in_err-tables-clause-fault c =
    let read : c.in_ok-symbols.symbols.items ≡ symbols_for c.bytes-2.result.now c.args.sections.now role.Tables = search rules in
    let found : c.as_slice-2.result.now ≡ symbols_for c.bytes.result.now c.args.sections.now role.Tables = c.as_slice-2.ensures.value ∙ read ∙ ap (λ (bytes : List ℕ). symbols_for bytes c.args.sections.now role.Tables) (c.bytes-2.ensures.lent ∙ sym c.bytes.ensures.lent) in
    let p = err_from_is_err_and c.from_residual-in_err-tables.result c.from_residual-in_err-tables.ensures.1 in
    rw (p.1, p.2) (at_tables c.args.image c.bytes.ensures.whole c.bytes.result.now c.bytes.ensures.lent c.segments.result.now c.segments.ensures.lent c.args.sections.now c.requires.sections c.in_ok-functions.ensures.rules c.as_slice.result.now (c.as_slice.ensures ∙ c.in_ok-functions.ensures.ok) c.as_slice-2.result.now found _ c.in_err-tables.ensures.fault)

pub returns-in_err-refuse-clause-fault : goal.returns-in_err-refuse-clause-fault
returns-in_err-refuse-clause-fault c =
    let read : c.in_ok-symbols.symbols.items ≡ symbols_for c.bytes-2.result.now c.args.sections.now role.Tables = search rules in
    let found : c.as_slice-2.result.now ≡ symbols_for c.bytes.result.now c.args.sections.now role.Tables = c.as_slice-2.ensures.value ∙ read ∙ ap (λ (bytes : List ℕ). symbols_for bytes c.args.sections.now role.Tables) (c.bytes-2.ensures.lent ∙ sym c.bytes.ensures.lent) in
    let p = err_from_is_err_and c.from_residual-in_err-refuse.result c.from_residual-in_err-refuse.ensures.1 in
    rw (p.1, p.2) (at_imports c.args.image c.bytes.ensures.whole c.bytes.result.now c.bytes.ensures.lent c.segments.result.now c.segments.ensures.lent c.args.sections.now c.requires.sections c.in_ok-functions.ensures.rules c.as_slice.result.now (c.as_slice.ensures ∙ c.in_ok-functions.ensures.ok) c.as_slice-2.result.now found c.in_ok-tables.ensures.rules c.args.late c.requires.late _ c.in_err-refuse.ensures.broken)

pub returns-clause-functions : goal.returns-clause-functions
returns-clause-functions c = declared c.args.image c.bytes.ensures.whole c.bytes.result.now c.bytes.ensures.lent c.segments.result.now c.segments.ensures.lent c.args.sections.now c.requires.sections _ c.in_ok-functions.ensures.ok

pub returns-clause-tables : goal.returns-clause-tables
returns-clause-tables c =
    let read : c.in_ok-symbols.symbols.items ≡ symbols_for c.bytes-2.result.now c.args.sections.now role.Tables = search rules in
    let found : c.as_slice-2.result.now ≡ symbols_for c.bytes.result.now c.args.sections.now role.Tables = c.as_slice-2.ensures.value ∙ read ∙ ap (λ (bytes : List ℕ). symbols_for bytes c.args.sections.now role.Tables) (c.bytes-2.ensures.lent ∙ sym c.bytes.ensures.lent) in
    c.in_ok-tables.ensures.ok ∙ tables_same c.args.image (image_of c.args.image.bytes) c.as_slice-2.result.now (tables_symbols c.args.image.bytes) c.bytes.ensures.whole.whole (alike c.args.image c.bytes.ensures.whole c.bytes.result.now c.bytes.ensures.lent c.segments.result.now c.segments.ensures.lent c.args.sections.now c.requires.sections c.as_slice-2.result.now found)

pub returns-clause-rules : goal.returns-clause-rules
returns-clause-rules c =
    let read : c.in_ok-symbols.symbols.items ≡ symbols_for c.bytes-2.result.now c.args.sections.now role.Tables = search rules in
    let found : c.as_slice-2.result.now ≡ symbols_for c.bytes.result.now c.args.sections.now role.Tables = c.as_slice-2.ensures.value ∙ read ∙ ap (λ (bytes : List ℕ). symbols_for bytes c.args.sections.now role.Tables) (c.bytes-2.ensures.lent ∙ sym c.bytes.ensures.lent) in
    none c.args.image c.bytes.ensures.whole c.bytes.result.now c.bytes.ensures.lent c.segments.result.now c.segments.ensures.lent c.args.sections.now c.requires.sections c.in_ok-functions.ensures.rules c.as_slice.result.now (c.as_slice.ensures ∙ c.in_ok-functions.ensures.ok) c.as_slice-2.result.now found c.in_ok-tables.ensures.rules c.args.late c.requires.late c.in_ok-refuse.ensures.holds
