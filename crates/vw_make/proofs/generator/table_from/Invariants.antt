use Rattle.std.proofs.Common.{◌≡◌, ℕ, ◌%◌, map, Some}
use Rattle.std.specs.List.{range_with_len}
use Rattle.vw_make.proofs.generator.table_from.Given as goal

abbrev pub invariant-loop-index : goal.invariant-loop-index
invariant-loop-index l = l.entries ≡ map (λ (j : ℕ). (j % 8, Some j)) (range_with_len 0 l.index)
