use Rattle.std.proofs.Common.{◌≡◌, ◌++◌, take}
use Rattle.std.specs.List.{flat_map}
use Rattle.vw_make.specs.Tables.{table}
use Rattle.vw_make.proofs.tables.put_tables.Given as goal

abbrev pub invariant-loop-entries : goal.invariant-loop-entries
invariant-loop-entries l = l.out.items ≡ l.initial.out.items ++ flat_map table (take l.entries-index l.all)
