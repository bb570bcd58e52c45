use Rattle.std.proofs.Common.{◌≡◌, ◌++◌, take}
use Rattle.vw_make.specs.Layout.{function_names}
use Rattle.vw_make.specs.Symbols.{strings}
use Rattle.vw_make.proofs.strings.put_function_names.Given as goal

abbrev pub invariant-loop-func : goal.invariant-loop-func
invariant-loop-func l = l.out.items ≡ l.initial.out.items ++ strings (function_names (take l.func-index l.functions))
