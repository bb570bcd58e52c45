use Rattle.std.proofs.Common.{arith, List, ap}
use Rattle.vw_make.specs.declared.parts.Func.{Func}
use Rattle.vw_make.specs.Layout.{strings_size, function_names}
use Rattle.vw_make.proofs.Places.{small_parts}
use Rattle.vw_make.proofs.sizes.symbol_strings_size_of.Goals as goal

pub function_strings_size-size-requires : goal.function_strings_size-size-requires
function_strings_size-size-requires c = rw c.as_slice.ensures (small_parts c.requires).names

pub overflow_add-result : goal.overflow_add-result
overflow_add-result c =
    let small = (small_parts c.requires).names in
    omega (arith, small, ap (λ (fs : List Func). strings_size (function_names fs)) c.as_slice.ensures)
