use Rattle.std.proofs.Common.{◌≡◌, ◌++◌, take}
use Rattle.vw_make.specs.Layout.{strings_size}
use Rattle.vw_make.specs.Bytes.{counted}
use Rattle.vw_make.specs.Symbols.{import_symbol}
use Rattle.vw_make.proofs.symbols.put_import_symbols.Given as goal

abbrev pub invariant-loop-import : goal.invariant-loop-import
invariant-loop-import l =
    record {
      name : l.name ≡ strings_size (take l.import-index l.imports);
      bytes : l.out.items ≡ l.initial.out.items ++ counted (import_symbol l.imports) l.import-index;
    }
