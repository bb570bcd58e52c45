use Rattle.std.proofs.Common.{◌≡◌, ◌+◌, ◌++◌, [], ◌∷◌, List, get_or, take, sym, ap, ◌∙◌}
use Rattle.std.proofs.lemmas.List.{take_more}
use Rattle.vw_elf.specs.declared.sections.SymbolSection.{SymbolSection}
use Rattle.vw_layout.specs.Symbols.{with_section, distinct_sections}
use Rattle.vw_layout.proofs.DistinctLemmas.{distinct-more}
use Rattle.vw_layout.proofs.symbols.distinct_sections.Goals as goal

abbrev blank : SymbolSection
blank = record { offset = 0; count = 0; strings_at = 0; strings_size = 0 }

pub loop-section-init : goal.loop-section-init
unfolding distinct_sections
loop-section-init c = c.new-set.ensures.empty

pub loop-section-preserved : goal.loop-section-preserved
loop-section-preserved c =
    let xs = c.args.sections.now in
    let i = c.loop-section.section-index in
    let x = get_or xs i blank in
    let step : take (i + 1) xs ≡ take i xs ++ x ∷ [] = take_more xs i blank c.loop-section-test.true in
    c.in_ok-insert.ensures.keys
    ∙ (ap (λ (kept : List SymbolSection). with_section kept x) c.loop-section.invariant
    ∙ sym (ap distinct_sections step ∙ distinct-more (take i xs) x))
