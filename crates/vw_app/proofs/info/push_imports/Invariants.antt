use Rattle.std.proofs.Common.{◌≡◌, ◌++◌, take}
use Rattle.std.specs.List.{flat_map, enumerate_from}
use Rattle.vw_app.specs.Lines.{import_line}
use Rattle.vw_app.proofs.info.push_imports.Given as goal

abbrev pub invariant-loop-number : goal.invariant-loop-number
invariant-loop-number l = l.text ≡ (l.initial.text ++ flat_map import_line (take l.number (enumerate_from 0 l.imports)))
