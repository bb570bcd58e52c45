use Rattle.std.proofs.Common.{◌≡◌, None, rules, sym, ap, ◌∙◌}
use Rattle.std.proofs.lemmas.Result.{err_from_is_err_and}
use Rattle.vw_bits.specs.HeaderRules.{header_fault}
use Rattle.vw_elf.specs.SymbolSections.{symbol_sections}
use Rattle.vw_dynamic.specs.Dynamic.{dynamic_fault, file_relocations}
use Rattle.vw_image.specs.Image.{Contents, image_of}
use Rattle.vw_layout.specs.Symbols.{distinct_sections}
use Rattle.vw_layout.specs.Layout.{import_rule}
use Rattle.vw_layout.proofs.ModuleLemmas.{bytes_are, file_relocations_are, module_of, whole_of, fault_of, header_names, dynamic_names}
use Rattle.vw_layout.proofs.layout.Module.read.Goals as goal

pub returns-in_err-elf-clause-fault : goal.returns-in_err-elf-clause-fault
returns-in_err-elf-clause-fault c =
    let p = err_from_is_err_and c.from_residual.result c.from_residual.ensures.1 in
    rw p.1 (header_names c.args.bytes c.as_slice.result.now _ _ c.as_slice.ensures p.2 c.in_err-elf.ensures.fault)

pub returns-in_err-dynamic-clause-fault : goal.returns-in_err-dynamic-clause-fault
returns-in_err-dynamic-clause-fault c =
    let p = err_from_is_err_and c.from_residual-in_err-dynamic.result c.from_residual-in_err-dynamic.ensures.1 in
    rw p.1 (dynamic_names c.args.bytes c.as_slice-2.result.now c.as_slice.result.now _ _ c.as_slice.ensures c.as_slice-2.ensures c.in_ok-elf.ensures.ok p.2 c.in_err-dynamic.ensures.fault)

pub read_layout-requires-clause-sections : goal.read_layout-requires-clause-sections
read_layout-requires-clause-sections c =
    let image : c.in_ok-image.image ≡ image_of c.args.bytes = search rules in
    let symbols : c.in_ok-elf.elf.symbols ≡ symbol_sections c.args.bytes = search rules in
    let whole : c.in_ok-image.image.bytes ≡ c.args.bytes = ap (λ (i : Contents). i.bytes) image ∙ bytes_are c.args.bytes in
    let sections : c.in_ok-sections.sections.keys ≡ distinct_sections c.as_slice-6.result.now = search rules in
    c.as_slice-7.ensures.keys ∙ (sections ∙ ap distinct_sections (c.as_slice-6.ensures ∙ symbols ∙ ap symbol_sections (sym whole)))

pub read_layout-requires-clause-late : goal.read_layout-requires-clause-late
read_layout-requires-clause-late c =
    let image : c.in_ok-image.image ≡ image_of c.args.bytes = search rules in
    let dynamic : c.in_ok-dynamic.dynamic.relocations ≡ file_relocations c.args.bytes = search rules in
    let whole : c.in_ok-image.image.relocations ≡ file_relocations c.args.bytes = ap (λ (i : Contents). i.relocations) image ∙ file_relocations_are c.args.bytes in
    c.first_late-late.ensures ∙ ap import_rule (c.as_slice-5.ensures ∙ dynamic ∙ sym whole)

pub returns-clause-ok : goal.returns-clause-ok
returns-clause-ok c =
    let image : c.in_ok-image.image ≡ image_of c.args.bytes = search rules in
    let headers : header_fault c.args.bytes ≡ None = search rules in
    let dynamic : dynamic_fault c.args.bytes ≡ None = search rules in
    module_of c.args.bytes c.in_ok-image.image c.read_layout.result image headers dynamic c.read_layout.ensures.image c.read_layout.ensures.functions c.read_layout.ensures.tables c.read_layout.ensures.rules

pub returns-clause-whole : goal.returns-clause-whole
returns-clause-whole c =
    let image : c.in_ok-image.image ≡ image_of c.args.bytes = search rules in
    let headers : header_fault c.args.bytes ≡ None = search rules in
    let dynamic : dynamic_fault c.args.bytes ≡ None = search rules in
    whole_of c.args.bytes c.read_layout.result (module_of c.args.bytes c.in_ok-image.image c.read_layout.result image headers dynamic c.read_layout.ensures.image c.read_layout.ensures.functions c.read_layout.ensures.tables c.read_layout.ensures.rules)

pub returns-clause-fault : goal.returns-clause-fault
returns-clause-fault c =
    let image : c.in_ok-image.image ≡ image_of c.args.bytes = search rules in
    let headers : header_fault c.args.bytes ≡ None = search rules in
    let dynamic : dynamic_fault c.args.bytes ≡ None = search rules in
    fault_of c.args.bytes c.in_ok-image.image c.read_layout.result image headers dynamic c.read_layout.ensures.fault
