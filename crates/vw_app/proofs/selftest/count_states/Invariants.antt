use Rattle.std.proofs.Common.{◌≡◌, take}
use Rattle.vw_app.specs.Selftest.{number_of_states}
use Rattle.vw_app.proofs.selftest.count_states.Given as goal

abbrev pub invariant-loop-table : goal.invariant-loop-table
invariant-loop-table l = l.states ≡ number_of_states (take l.table-index l.tables)
