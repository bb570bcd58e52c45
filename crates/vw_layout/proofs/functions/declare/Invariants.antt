use Rattle.std.proofs.Common.{◌≡◌, take, map}
use Rattle.vw_layout.specs.Functions.{function_of}
use Rattle.vw_layout.proofs.functions.declare.Given as goal

abbrev pub invariant-loop-symbol : goal.invariant-loop-symbol
invariant-loop-symbol l = l.functions ≡ map (function_of l.bytes) (take l.symbol-index l.symbols)
