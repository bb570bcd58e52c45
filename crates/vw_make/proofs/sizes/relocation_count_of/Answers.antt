use Rattle.std.proofs.Common.{List, ℕ, Option, length, ap, arith}
use Rattle.std.specs.List.{sum_by}
use Rattle.vw_make.specs.Layout.{filled_entries}
use Rattle.vw_make.proofs.Places.{small_parts}
use Rattle.vw_make.proofs.sizes.relocation_count_of.Goals as goal

pub filled_count-requires : goal.filled_count-requires
filled_count-requires c =
    let small = (small_parts c.requires).relocations in
    rw c.as_slice-tables.ensures (omega (arith, small))

pub overflow_add-result : goal.overflow_add-result
overflow_add-result c =
    let small = (small_parts c.requires).relocations in
    omega (arith, small, ap length c.as_slice-tables.ensures)

pub overflow_add-result-2 : goal.overflow_add-result-2
overflow_add-result-2 c =
    let small = (small_parts c.requires).relocations in
    let filled = ap (λ (tables : List (List (ℕ × Option ℕ))). sum_by filled_entries tables) c.as_slice-tables.ensures in
    omega (arith, small, filled, ap length c.as_slice-tables.ensures)

pub overflow_add-result-3 : goal.overflow_add-result-3
overflow_add-result-3 c =
    let small = (small_parts c.requires).relocations in
    let filled = ap (λ (tables : List (List (ℕ × Option ℕ))). sum_by filled_entries tables) c.as_slice-tables.ensures in
    omega (arith, small, filled, ap length c.as_slice-tables.ensures)
