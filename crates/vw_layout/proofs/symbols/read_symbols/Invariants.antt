use Rattle.std.proofs.Common.{◌≡◌, take}
use Rattle.std.specs.List.{filter, flat_map}
use Rattle.vw_layout.specs.Symbols.{has_role, section_symbols}
use Rattle.vw_layout.proofs.symbols.read_symbols.Given as goal

abbrev pub invariant-loop-section : goal.invariant-loop-section
invariant-loop-section l = l.symbols.items ≡ filter (has_role l.bytes l.role) (flat_map (section_symbols l.bytes) (take l.section-index l.sections))
