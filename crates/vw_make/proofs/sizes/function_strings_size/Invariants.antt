use Rattle.std.proofs.Common.{◌≡◌, take}
use Rattle.vw_make.specs.Layout.{strings_size, function_names}
use Rattle.vw_make.proofs.sizes.function_strings_size.Given as goal

abbrev pub invariant-loop-func : goal.invariant-loop-func
invariant-loop-func l = l.size ≡ strings_size (function_names (take l.func-index l.functions))
