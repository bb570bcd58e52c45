-- The join of two states, part by part.
use Rattle.std.specs.Prelude.{◌≡◌, ℕ, ◌↔◌, ℤ, List, min}
use Rattle.vw_lattice.specs.Order.{IsJoin, IsLeast}
use Rattle.vw_lattice.specs.Entries.{map_below, IsValidMap, HasKey}
use Rattle.vw_locals.specs.Ranges.{IsRanges, IsCommon, written_below}
use Rattle.vw_names.specs.Division.{IsDivision, division_below, IsRefinement}
use Rattle.vw_values.specs.declared.value.Value.{Value}
use Rattle.vw_values.specs.Values.{IsValue, IsValid, value_below}
use Rattle.vw_domain.specs.declared.parts.Fact.{Fact}
use Rattle.vw_domain.specs.declared.parts.Parts.{Parts}
use Rattle.vw_domain.specs.Registers.{JoinsRows}
use Rattle.vw_domain.specs.State.{fact_below}

abbrev pub IsFactJoin : Fact → Fact → Fact → Type 0
IsFactJoin left right join = IsJoin fact_below (λ fact. Unit {0}) left right join

-- what the join of slots made of the first
pub record JoinsSlots (bounds : List ℕ) (left right join : List (ℤ × Value)) : Type 0 where
  pub values : IsValidMap IsValue join
  pub kept : IsValidMap (IsValid bounds) left → IsValidMap (IsValid bounds) join
  pub is_join : IsValidMap (IsValid bounds) left → IsValidMap (IsValid bounds) right → IsJoin (map_below value_below) (IsValidMap (IsValid bounds)) left right join
  pub least : IsLeast (map_below value_below) (IsValidMap (IsValid bounds)) left right join
  pub keys : (key : ℤ) → HasKey join key ↔ (HasKey left key × HasKey right key)

-- what the join of two states made of the first
pub record JoinsParts (bounds : List ℕ) (left right join : Parts) : Type 0 where
  pub registers : JoinsRows bounds left.registers right.registers join.registers
  pub probed : join.probed ≡ min left.probed right.probed
  pub written : IsJoin written_below IsRanges left.written right.written join.written
  pub common : IsCommon left.written right.written join.written
  pub slots : JoinsSlots bounds left.slots right.slots join.slots
  pub classes : IsJoin division_below IsDivision left.classes right.classes join.classes
  pub refines : IsRefinement left.classes right.classes join.classes
  pub fact : IsFactJoin left.fact right.fact join.fact
