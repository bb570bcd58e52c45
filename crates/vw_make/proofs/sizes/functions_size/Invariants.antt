use Rattle.std.proofs.Common.{◌≡◌, take}
use Rattle.std.specs.List.{sum_by}
use Rattle.vw_make.specs.Layout.{function_space}
use Rattle.vw_make.proofs.sizes.functions_size.Given as goal

abbrev pub invariant-loop-func : goal.invariant-loop-func
invariant-loop-func l = l.size ≡ sum_by function_space (take l.func-index l.functions)
