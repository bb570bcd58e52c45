use Rattle.std.proofs.Common.{◌≡◌, not, None}
use Rattle.std.specs.List.{find}
use Rattle.vw_bits.specs.Headers.{table}
use Rattle.vw_layout.specs.Tables.{is_pair}
use Rattle.vw_layout.proofs.tables.first_wrong_pair.Given as goal

abbrev pub invariant-loop-index : goal.invariant-loop-index
invariant-loop-index l = find (λ pair. not (is_pair l.image pair)) (table l.pairs.start 16 l.index) ≡ None
