-- What is found at the points of a round's table of states.
use Rattle.std.specs.Prelude.{◌≡◌, ℕ, ◌+◌, ◌<◌, List, Option, Some}
use Rattle.vw_insn.specs.declared.instruction.Insn.{Insn}
use Rattle.vw_lift.specs.Lifted.{flow_of}
use Rattle.vw_solver.specs.Solution.{state_at}
use Rattle.vw_domain.specs.declared.parts.Parts.{Parts}
use Rattle.vw_domain.specs.State.{Fits}
use Rattle.vw_state.specs.declared.jumps.JumpTable.{JumpTable}
use Rattle.vw_state.specs.Checks.{StaysInside, Leaves, FailsGraph}
use Rattle.vw_state.specs.Context.{Context}
use Rattle.vw_state.specs.Post.{form_behind}
use Rattle.vw_graph.specs.declared.walk.Look.{Look}
use Rattle.vw_graph.specs.declared.walk.Look.TheVariants.{Passes, Jumps, Stops}
use Rattle.vw_graph.specs.declared.walk.Walk.{Walk}
use Rattle.vw_graph.specs.declared.walk.Walk.TheVariants as walk
use Rattle.vw_graph.specs.search.Jumps.{Tells, JumpsBy, HasSlots, AreSlots}
use Rattle.vw_graph.specs.search.Solved.{NoneStops, StopsFirst}

-- no check of the graph fails at a point with a state
abbrev pub PassesAt : Context → ℕ → Parts → Type 0
PassesAt f at state = (check : ℕ) → FailsGraph f at state check → ⊥

-- an instruction with `next` behind it may leave the function
abbrev pub LeavesBehind : Context → ℕ → Insn → Parts → Type 0
LeavesBehind f next i state = Leaves f next (form_behind f next i state) (flow_of i)

-- what is found at a jump through a register that goes through one of a table's entries
abbrev pub FindsThrough : Context → Option JumpTable → Look → Type 0
FindsThrough f slot Passes = ⊥
FindsThrough f slot (Jumps table) = (slot ≡ Some table) × StaysInside f slot
FindsThrough f slot (Stops check) = (check ≡ 2) × (StaysInside f slot → ⊥)

-- what is found at an instruction with `next` behind it
abbrev pub FindsBehind : Context → ℕ → Insn → Parts → Look → Type 0
FindsBehind f next i state Passes = (LeavesBehind f next i state → ⊥) × ((table : JumpTable) → Tells f next i state table → ⊥)
FindsBehind f next i state (Jumps table) = (LeavesBehind f next i state → ⊥) × Tells f next i state table
FindsBehind f next i state (Stops check) = (check ≡ 2) × LeavesBehind f next i state

-- what is found at a point with a state
abbrev pub FindsAt : Context → ℕ → Parts → Look → Type 0
FindsAt f at state Passes = PassesAt f at state × ((table : JumpTable) → JumpsBy f at state table → ⊥)
FindsAt f at state (Jumps table) = PassesAt f at state × JumpsBy f at state table × ((other : JumpTable) → JumpsBy f at state other → other ≡ table)
FindsAt f at state (Stops check) = FailsGraph f at state check

-- the bounds of each state's values are among these
abbrev pub AllFitIn : List ℕ → List (Option Parts) → Type 0
AllFitIn bounds table = (at : ℕ) (state : Parts) → state_at table at ≡ Some state → Fits bounds state

-- no check of the graph fails at a point below `end`
abbrev pub NoneStopsBelow : Context → List (Option Parts) → ℕ → Type 0
NoneStopsBelow f table end = (at : ℕ) (state : Parts) → at < end → state_at table at ≡ Some state → PassesAt f at state

-- this check fails at a point
pub record StopsHere (f : Context) (table : List (Option Parts)) (at check : ℕ) : Type 0 where
  pub state : Parts
  pub there : state_at table at ≡ Some state
  pub fails : FailsGraph f at state check

-- no check of the graph fails at a point, and its slot is filled
pub record PassesHere (f : Context) (table : List (Option Parts)) (at : ℕ) (old new : List (Option JumpTable)) : Type 0 where
  pub passes : (state : Parts) → state_at table at ≡ Some state → PassesAt f at state
  pub slots : AreSlots f table old at → AreSlots f table new (at + 1)

-- what is found in a whole table
abbrev pub FindsIn : Context → List (Option Parts) → ℕ → Walk → Type 0
FindsIn f table points (walk.Stops at check) = StopsFirst f table at check
FindsIn f table points (walk.Passes slots) = NoneStops f table × AreSlots f table slots.items points

-- there is a slot for each point, or none at all
abbrev pub KeepsSlots : ℕ → Walk → Type 0
KeepsSlots points (walk.Stops at check) = Unit {0}
KeepsSlots points (walk.Passes slots) = HasSlots points slots.items
