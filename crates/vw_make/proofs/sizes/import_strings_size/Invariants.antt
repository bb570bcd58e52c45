use Rattle.std.proofs.Common.{◌≡◌, take}
use Rattle.vw_make.specs.Layout.{strings_size}
use Rattle.vw_make.proofs.sizes.import_strings_size.Given as goal

abbrev pub invariant-loop-import : goal.invariant-loop-import
invariant-loop-import l = l.size ≡ strings_size (take l.import-index l.imports)
