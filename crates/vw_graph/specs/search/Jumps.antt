-- The tables of jumps that a round's table of states tells of, by point, and the pairs of points that they give.
use Rattle.std.specs.Prelude.{◌≡◌, ◌≢◌, ℕ, suc, ◌+◌, ◌<◌, ◌⊎◌, List, [], ◌∷◌, ◌++◌, length, Option, Some, None, slice_index_or, Contains}
use Rattle.vw_insn.specs.declared.instruction.Insn.{Insn}
use Rattle.vw_stmt.specs.declared.operands.Var.{Var}
use Rattle.vw_stmt.specs.declared.statement.Flow.TheVariants as flow
use Rattle.vw_lift.specs.Lifted.{flow_of}
use Rattle.vw_solver.specs.Seed.{AreDistinct}
use Rattle.vw_solver.specs.Solution.{state_at}
use Rattle.vw_domain.specs.declared.parts.Parts.{Parts}
use Rattle.vw_domain.specs.Addresses.{value_of}
use Rattle.vw_domain.specs.Operands.{index_of}
use Rattle.vw_state.specs.declared.jumps.JumpTable.{JumpTable}
use Rattle.vw_state.specs.Code.{BeginsAt}
use Rattle.vw_state.specs.Context.{Context, code_of}
use Rattle.vw_state.specs.Post.{jump_table, table_targets, form_behind}

-- ---- by point

-- the table of jumps of a point; None: it has none
abbrev pub slot_at : List (Option JumpTable) → ℕ → Option JumpTable
slot_at slots point = slice_index_or slots point None

-- there is a slot for each of so many points, or none at all
abbrev pub HasSlots : ℕ → List (Option JumpTable) → Type 0
HasSlots points slots = (length slots ≡ 0) ⊎ (length slots ≡ points)

-- one slot more is filled
pub record PutsSlot (points : ℕ) (old : List (Option JumpTable)) (point : ℕ) (table : JumpTable) (new : List (Option JumpTable)) : Type 0 where
  pub size : length new ≡ points
  pub here : slot_at new point ≡ Some table
  pub others : (other : ℕ) → other ≢ point → slot_at new other ≡ slot_at old other

-- ---- pairs

-- a point with each of these points
abbrev pub pairs_to : ℕ → List ℕ → List (ℕ × ℕ)
pairs_to at [] = []
pairs_to at (to ∷ rest) = (at, to) ∷ pairs_to at rest

-- the points from `from` on, each with the points to which its table leads
abbrev pub pairs_from : Context → ℕ → List (Option JumpTable) → List (ℕ × ℕ)
pairs_from f from [] = []
pairs_from f from (slot ∷ rest) = pairs_to from (table_targets f slot) ++ pairs_from f (suc from) rest

-- each point with the points to which its table leads
abbrev pub pairs_of : Context → List (Option JumpTable) → List (ℕ × ℕ)
pairs_of f slots = pairs_from f 0 slots

-- the same pairs, in any order and number
pub record AreSame (pairs others : List (ℕ × ℕ)) : Type 0 where
  pub into : (at to : ℕ) → Contains pairs (at, to) → Contains others (at, to)
  pub back : (at to : ℕ) → Contains others (at, to) → Contains pairs (at, to)

-- ---- what states tell

-- an instruction with `next` behind it jumps through a register, of which the state tells this table
pub record Tells (f : Context) (next : ℕ) (i : Insn) (state : Parts) (table : JumpTable) : Type 0 where
  pub src : Var
  pub jumps : flow_of i ≡ flow.JumpReg src
  pub tells : jump_table (value_of (form_behind f next i state) (index_of src)) ≡ Some table

-- such an instruction stands at the point
pub record JumpsBy (f : Context) (at : ℕ) (state : Parts) (table : JumpTable) : Type 0 where
  pub instruction : Insn
  pub len : ℕ
  pub stands : BeginsAt (code_of f) at instruction len
  pub by : Tells f (at + len) instruction state table

-- the slots are the tables of jumps of which the states at the points below `end` tell
pub record AreSlots (f : Context) (table : List (Option Parts)) (slots : List (Option JumpTable)) (end : ℕ) : Type 0 where
  pub only : (at : ℕ) (jumps : JumpTable) → slot_at slots at ≡ Some jumps → (at < end) × ((state : Parts) × (state_at table at ≡ Some state) × JumpsBy f at state jumps)
  pub all : (at : ℕ) (state : Parts) (jumps : JumpTable) → at < end → state_at table at ≡ Some state → JumpsBy f at state jumps → slot_at slots at ≡ Some jumps

-- ---- what is new

-- the point is one of those to which a table leads
abbrev pub LeadsTo : Context → Option JumpTable → ℕ → Type 0
LeadsTo f slot to = Contains (table_targets f slot) to

-- the points to which a table leads have this mark, and no others have got one
pub record AreMarked (f : Context) (slot : Option JumpTable) (mark : ℕ) (old new : List ℕ) : Type 0 where
  pub there : (to : ℕ) → LeadsTo f slot to → slice_index_or new to 0 ≡ mark
  pub others : (to : ℕ) → LeadsTo f slot to ⊎ (slice_index_or new to 0 ≡ slice_index_or old to 0)

-- a table leads to a point that has another mark
pub record LeadsBeyond (f : Context) (slot : Option JumpTable) (mark : ℕ) (marks : List ℕ) : Type 0 where
  pub to : ℕ
  pub leads : LeadsTo f slot to
  pub unmarked : slice_index_or marks to 0 ≢ mark

-- a table leads to a point to which the one before does not
pub record LeadsFurther (f : Context) (before now : Option JumpTable) : Type 0 where
  pub to : ℕ
  pub leads : LeadsTo f now to
  pub new : LeadsTo f before to → ⊥

-- it leads to no such point
abbrev pub LeadsNoFurther : Context → Option JumpTable → Option JumpTable → Type 0
LeadsNoFurther f before now = (to : ℕ) → LeadsTo f now to → LeadsTo f before to

-- the points below `end` whose table leads further than the one before
pub record AreNew (f : Context) (before now : List (Option JumpTable)) (end : ℕ) (points : List ℕ) : Type 0 where
  pub distinct : AreDistinct points
  pub new : (at : ℕ) → Contains points at → (at < end) × LeadsFurther f (slot_at before at) (slot_at now at)
  pub others : (at : ℕ) → at < end → Contains points at ⊎ LeadsNoFurther f (slot_at before at) (slot_at now at)
