use Rattle.std.proofs.Common.{◌≡◌, ◌==◌, ◌-◌, not, slice_index, None}
use Rattle.std.specs.List.{find}
use Rattle.vw_bits.specs.Headers.{table}
use Rattle.vw_elf.proofs.header.first_difference.Given as goal

abbrev pub invariant-loop-index : goal.invariant-loop-index
invariant-loop-index l = find (λ k. not (slice_index l.bytes k == slice_index l.expected (k - l.from))) (table l.from 1 l.index) ≡ None
