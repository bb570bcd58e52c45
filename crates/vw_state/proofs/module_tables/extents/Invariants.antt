use Rattle.std.proofs.Common.{◌≡◌, map, take}
use Rattle.vw_state.specs.Context.{extent_of}
use Rattle.vw_state.proofs.module_tables.extents.Given as goal

abbrev pub invariant-loop-table : goal.invariant-loop-table
invariant-loop-table l = l.list ≡ map extent_of (take l.table-index l.tables)
