use Rattle.std.proofs.Common.{◌≡◌, ◌++◌, map}
use Rattle.std.specs.List.{filter}
use Rattle.vw_bits.specs.Headers.{table}
use Rattle.vw_layout.specs.Symbols.{entry_at, has_role}
use Rattle.vw_layout.proofs.symbols.append_section.Given as goal

abbrev pub invariant-loop-index : goal.invariant-loop-index
invariant-loop-index l = l.symbols.items ≡ l.initial.symbols.items ++ filter (has_role l.bytes l.role) (map (entry_at l.bytes l.section) (table l.section.offset 24 l.index))
