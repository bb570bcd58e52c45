use Rattle.std.proofs.Common.{List, ℕ, length, ap, arith}
use Rattle.vw_make.proofs.Places.{function_names_le}
use Rattle.vw_make.proofs.sizes.function_strings_size.Goals as goal

pub overflow_add-size-in-loop-func : goal.overflow_add-size-in-loop-func
overflow_add-size-in-loop-func c =
    let le = function_names_le c.args.functions.now c.loop-func.func-index c.func-item.result c.loop-func-test.true c.func-item.is in
    omega (arith, le, ap (λ (name : List ℕ). length name) c.as_slice.ensures)
