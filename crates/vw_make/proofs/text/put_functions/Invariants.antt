use Rattle.std.proofs.Common.{◌≡◌, ◌++◌, take}
use Rattle.vw_make.specs.Bytes.{numbered}
use Rattle.vw_make.specs.Text.{function_text}
use Rattle.vw_make.proofs.text.put_functions.Given as goal

abbrev pub invariant-loop-number : goal.invariant-loop-number
invariant-loop-number l = l.out.items ≡ l.initial.out.items ++ numbered (function_text l.functions l.plan.layout) 0 (take l.number l.functions)
