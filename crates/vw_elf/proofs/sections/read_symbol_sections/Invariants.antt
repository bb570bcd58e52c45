use Rattle.std.proofs.Common.{◌≡◌, map}
use Rattle.std.specs.List.{filter}
use Rattle.vw_bits.specs.Headers.{table, e_shoff}
use Rattle.vw_bits.specs.HeaderRules.{is_symbol_section}
use Rattle.vw_elf.specs.SymbolSections.{symbol_section_at}
use Rattle.vw_elf.proofs.sections.read_symbol_sections.Given as goal

abbrev pub invariant-loop-index : goal.invariant-loop-index
invariant-loop-index l = l.sections ≡ map (symbol_section_at l.bytes) (filter (is_symbol_section l.bytes) (table (e_shoff l.bytes) 64 l.index))
