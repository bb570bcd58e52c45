use Rattle.std.proofs.Common.{◌≡◌, ◌++◌, take}
use Rattle.vw_make.specs.Symbols.{strings}
use Rattle.vw_make.proofs.strings.put_import_names.Given as goal

abbrev pub invariant-loop-import : goal.invariant-loop-import
invariant-loop-import l = l.out.items ≡ l.initial.out.items ++ strings (take l.import-index l.imports)
