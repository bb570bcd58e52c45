use Rattle.std.proofs.Common.{List, ap, ◌∙◌}
use Rattle.std.specs.List.{filter, flat_map}
use Rattle.std.proofs.lemmas.List.{take_all}
use Rattle.vw_elf.specs.declared.sections.SymbolSection.{SymbolSection}
use Rattle.vw_layout.specs.Symbols.{symbols_for, symbols_of, section_symbols, has_role}
use Rattle.vw_layout.proofs.SymbolLemmas.{sections_more}
use Rattle.vw_layout.proofs.symbols.read_symbols.Goals as goal

abbrev blank : SymbolSection
blank = record { offset = 0; count = 0; strings_at = 0; strings_size = 0 }

pub loop-section-preserved : goal.loop-section-preserved
loop-section-preserved c =
    rw (sections_more (section_symbols c.args.bytes.now) (has_role c.args.bytes.now c.args.role) c.args.sections.now c.loop-section.section-index blank c.loop-section-test.true, ← c.loop-section.invariant) c.in_ok-append_section.ensures

pub returns : goal.returns
unfolding symbols_for symbols_of
returns c =
    let sections = c.args.sections.now in
    let whole = take_all c.loop-section.section-index sections c.loop-section-test.false in
    c.loop-section.invariant ∙ ap (λ (s : List SymbolSection). filter (has_role c.args.bytes.now c.args.role) (flat_map (section_symbols c.args.bytes.now) s)) whole
