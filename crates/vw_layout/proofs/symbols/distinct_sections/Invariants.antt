use Rattle.std.proofs.Common.{◌≡◌, take}
use Rattle.vw_layout.specs.Symbols.{distinct_sections}
use Rattle.vw_layout.proofs.symbols.distinct_sections.Given as goal

abbrev pub invariant-loop-section : goal.invariant-loop-section
invariant-loop-section l = l.set.keys ≡ distinct_sections (take l.section-index l.sections)
