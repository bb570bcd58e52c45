use Rattle.std.proofs.Common.{◌≡◌, ◌&&◌, not, None}
use Rattle.std.specs.List.{find}
use Rattle.vw_bits.specs.Headers.{table, e_shoff}
use Rattle.vw_bits.specs.HeaderRules.{is_symbol_section, symbol_section_fits}
use Rattle.vw_elf.proofs.sections.broken_symbol_section.Given as goal

abbrev pub invariant-loop-index : goal.invariant-loop-index
invariant-loop-index l = find (λ header. is_symbol_section l.bytes header && not (symbol_section_fits l.bytes header)) (table (e_shoff l.bytes) 64 l.index) ≡ None
