use Rattle.std.proofs.Common.{◌≡◌, map}
use Rattle.vw_bits.specs.Headers.{table}
use Rattle.vw_layout.specs.Spans.{span_at}
use Rattle.vw_layout.proofs.tables.read_spans.Given as goal

abbrev pub invariant-loop-index : goal.invariant-loop-index
invariant-loop-index l = l.spans.items ≡ map (span_at l.image) (table l.pairs.start 16 l.index)
