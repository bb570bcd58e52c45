-- The checks that stop the rounds: that code is at a point, and that jumps and branches stay in the function.
use Rattle.std.specs.Prelude.{◌≡◌, ◌≤◌, ◌<◌, ℕ, ◌+◌, ℤ, List, Option, None, Some}
use Rattle.vw_insn.specs.declared.instruction.Insn.{Insn}
use Rattle.vw_stmt.specs.declared.statement.Flow.{Flow}
use Rattle.vw_stmt.specs.declared.statement.Flow.TheVariants as flow
use Rattle.vw_lift.specs.Lifted.{flow_of}
use Rattle.vw_domain.specs.declared.parts.Parts.{Parts}
use Rattle.vw_domain.specs.Abstract.{Abstract}
use Rattle.vw_domain.specs.Addresses.{value_of}
use Rattle.vw_domain.specs.Operands.{index_of}
use Rattle.vw_state.specs.declared.jumps.JumpTable.{JumpTable}
use Rattle.vw_state.specs.declared.tables.PointState.{PointState}
use Rattle.vw_state.specs.Code.{BeginsAt, NothingAt}
use Rattle.vw_state.specs.Context.{Context, code_of}
use Rattle.vw_state.specs.Post.{relative_point, inside, jump_table, entry_target, form_behind}
use Rattle.vw_state.specs.Tables.{state_of}

-- a direct jump or branch with `next` behind it goes out of the function
abbrev pub IsOutside : Context → ℕ → ℤ → Type 0
IsOutside f next rel = inside f.size (relative_point next rel) ≡ None

-- each of a table's entries that may be taken leads to a point of the function
abbrev pub AllInside : Context → JumpTable → Type 0
AllInside f table = (i : ℕ) → i < table.count → entry_target f table i ≡ None → ⊥

-- it is known that a jump goes through one of a table's entries, and each of these leads to a point of the function
abbrev pub StaysInside : Context → Option JumpTable → Type 0
StaysInside f None = ⊥
StaysInside f (Some table) = AllInside f table

-- A flow with `next` behind it may leave the function as no return or call does: a direct jump or branch goes outside,
-- or the state does not tell that a jump through a register stays inside.
abbrev pub Leaves : Context → ℕ → Abstract → Flow → Type 0
Leaves f next st flow.Next = ⊥
Leaves f next st (flow.Jump rel) = IsOutside f next rel
Leaves f next st (flow.Branch cond rel) = IsOutside f next rel
Leaves f next st (flow.JumpReg src) = StaysInside f (jump_table (value_of st (index_of src))) → ⊥
Leaves f next st (flow.Call rel) = ⊥
Leaves f next st (flow.CallReg src) = ⊥
Leaves f next st flow.Ret = ⊥
Leaves f next st flow.Stop = ⊥

-- Check 1, code: nothing decodes in the bytes from the point to the function's end. No bytes are left from a point
-- at or above the function's size on, so nothing decodes there either, and the check fails.
abbrev pub LacksCode : Context → ℕ → Type 0
LacksCode f at = NothingAt (code_of f) at

-- Check 2, jump: the instruction at the point, with the state before it, may leave the function.
pub record LeavesFunction (f : Context) (at : ℕ) (state : Parts) : Type 0 where
  pub instruction : Insn
  pub len : ℕ
  pub stands : BeginsAt (code_of f) at instruction len
  pub leaves : Leaves f (at + len) (form_behind f (at + len) instruction state) (flow_of instruction)

-- the lowest check of these two that fails at a point with a state
pub data FailsGraph (f : Context) (at : ℕ) (state : Parts) : ℕ → Type 0 where
  lacks_code : LacksCode f at → FailsGraph f at state 1
  leaves : (LacksCode f at → ⊥) → LeavesFunction f at state → FailsGraph f at state 2

-- no point of the table fails one of them
abbrev pub PassesGraph : Context → List PointState → Type 0
PassesGraph f table = (at : ℕ) (state : Parts) → state_of table at ≡ Some state → (check : ℕ) → FailsGraph f at state check → ⊥

-- The lowest point of the table that fails one of them, with its lowest check.
pub record StopsAt (f : Context) (table : List PointState) (at check : ℕ) : Type 0 where
  pub state : Parts
  pub there : state_of table at ≡ Some state
  pub fails : FailsGraph f at state check
  pub lowest : (other : ℕ) (s : Parts) → state_of table other ≡ Some s → (c : ℕ) → FailsGraph f other s c → at ≤ other
