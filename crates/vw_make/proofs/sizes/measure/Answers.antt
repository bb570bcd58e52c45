use Rattle.std.proofs.Common.{refl, arith}
use Rattle.vw_make.specs.Layout.{sizes_of}
use Rattle.vw_make.proofs.Places.{small_parts}
use Rattle.vw_make.proofs.sizes.measure.Goals as goal

pub import_strings_size-requires : goal.import_strings_size-requires
import_strings_size-requires c = rw c.as_slice-imports.ensures (small_parts c.requires).dynamic_strings

pub overflow_mul-result : goal.overflow_mul-result
overflow_mul-result c =
    let small = (small_parts c.requires).relocations in
    omega (arith, small)

pub functions_size-requires : goal.functions_size-requires
functions_size-requires c = rw c.as_slice-functions.ensures (small_parts c.requires).functions

pub entry_count-requires : goal.entry_count-requires
entry_count-requires c = rw c.as_slice-tables.ensures (small_parts c.requires).entries

pub returns : goal.returns
unfolding sizes_of
returns c =
    rw (c.import_strings_size.ensures, c.relocation_count_of.ensures, c.functions_size.ensures, c.entry_count.ensures, c.round_up.ensures.value, c.symbol_count_of.ensures, c.symbol_strings_size_of.ensures, c.as_slice-imports.ensures, c.as_slice-functions.ensures, c.as_slice-tables.ensures, c.as_slice.ensures)
    refl
