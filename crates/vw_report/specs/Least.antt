-- What the least tables of functions give a report.
use Rattle.std.specs.Prelude.{◌^◌, ◌<◌, List}
use Rattle.vw_state.specs.declared.tables.PointState.{PointState}
use Rattle.vw_state.specs.Context.{Context}
use Rattle.vw_state.specs.Rounds.{IsLeast}
use Rattle.vw_report.specs.Reports.{ArePoints}

-- the least table of a function, whose size has 32 bits, gives ascending points states between two instructions
abbrev pub LeastTablesAreOfPoints : Type 0
LeastTablesAreOfPoints = (f : Context) (table : List PointState) → f.size < 2 ^ 32 → IsLeast f table → ArePoints 0 table
