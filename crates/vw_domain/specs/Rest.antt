-- The parts of a state beside its registers.
use Rattle.std.specs.Prelude.{◌≤◌}
use Rattle.vw_lattice.specs.Entries.{map_below}
use Rattle.vw_locals.specs.Ranges.{written_below}
use Rattle.vw_names.specs.Division.{division_below}
use Rattle.vw_values.specs.Values.{value_below}
use Rattle.vw_domain.specs.declared.parts.Parts.{Parts}
use Rattle.vw_domain.specs.State.{fact_below}

-- lower in each part but the registers
pub record rest_below (low high : Parts) : Type 0 where
  pub probed : high.probed ≤ low.probed
  pub written : written_below low.written high.written
  pub slots : map_below value_below low.slots high.slots
  pub classes : division_below low.classes high.classes
  pub fact : fact_below low.fact high.fact
