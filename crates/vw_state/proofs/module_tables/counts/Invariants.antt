use Rattle.std.proofs.Common.{◌≡◌, take}
use Rattle.vw_state.specs.Context.{lengths_of}
use Rattle.vw_state.proofs.module_tables.counts.Given as goal

abbrev pub invariant-loop-table : goal.invariant-loop-table
invariant-loop-table l = l.list ≡ lengths_of (take l.table-index l.tables)
