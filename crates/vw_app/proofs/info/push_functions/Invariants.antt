use Rattle.std.proofs.Common.{◌≡◌, ◌++◌, take}
use Rattle.std.specs.List.{flat_map}
use Rattle.vw_app.specs.Lines.{function_line}
use Rattle.vw_app.proofs.info.push_functions.Given as goal

abbrev pub invariant-loop-function : goal.invariant-loop-function
invariant-loop-function l =
    l.text ≡ (l.initial.text ++ flat_map function_line (take l.function-index l.functions))
