use Rattle.std.proofs.Common.{◌≡◌, ◌++◌, take}
use Rattle.vw_make.specs.Layout.{strings_size, function_names}
use Rattle.vw_make.specs.Bytes.{numbered}
use Rattle.vw_make.specs.Symbols.{function_symbol}
use Rattle.vw_make.proofs.symbols.put_function_symbols.Given as goal

abbrev pub invariant-loop-number : goal.invariant-loop-number
invariant-loop-number l =
    record {
      name : l.name ≡ strings_size (function_names (take l.number l.functions));
      bytes : l.out.items ≡ l.initial.out.items ++ numbered (function_symbol l.functions l.plan.layout) 0 (take l.number l.functions);
    }
