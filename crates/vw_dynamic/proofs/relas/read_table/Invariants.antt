use Rattle.std.proofs.Common.{◌≡◌, map}
use Rattle.vw_bits.specs.Headers.{table}
use Rattle.vw_dynamic.specs.Relas.{rela_at}
use Rattle.vw_dynamic.proofs.relas.read_table.Given as goal

abbrev pub invariant-loop-index : goal.invariant-loop-index
invariant-loop-index l = l.relas.items ≡ map (rela_at l.bytes) (table l.first.offset 24 l.index)
