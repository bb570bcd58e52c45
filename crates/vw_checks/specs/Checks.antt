-- The checks at a point of a function with a state.
use Rattle.std.specs.Prelude.{◌≡◌, ◌⊎◌, ◌↔◌, ℕ, ◌+◌, ◌≤◌, ℤ, min, List, [], ◌∷◌, Option, Some, None, option_and_then}
use Rattle.vw_insn.specs.declared.instruction.Insn.{Insn}
use Rattle.vw_stmt.specs.declared.operands.Var.{Var}
use Rattle.vw_stmt.specs.declared.statement.Flow.{Flow}
use Rattle.vw_stmt.specs.declared.statement.Flow.TheVariants as flow
use Rattle.vw_stmt.specs.declared.statement.Stmt.{Stmt}
use Rattle.vw_stmt.specs.declared.statement.Stmt.TheVariants as stmt
use Rattle.vw_lift.specs.Lifted.{steps, flow_of, lifted}
use Rattle.vw_layout.specs.Calls.{call_target}
use Rattle.vw_layout.specs.declared.calls.CallTarget.{CallTarget}
use Rattle.vw_layout.specs.declared.calls.CallTarget.TheVariants as target
use Rattle.vw_domain.specs.declared.parts.Parts.{Parts}
use Rattle.vw_domain.specs.Abstract.{Abstract, abstract_of}
use Rattle.vw_domain.specs.Addresses.{address_of, value_of}
use Rattle.vw_domain.specs.Checks.{Passes as Permits, PassesAll, HasHeapBase, IsTableFn, MayPush, MayReturn}
use Rattle.vw_domain.specs.EquationLaws.{NoFlow}
use Rattle.vw_domain.specs.Operands.{index_of}
use Rattle.vw_domain.specs.Statements.{apply}
use Rattle.vw_state.specs.Code.{BeginsAt}
use Rattle.vw_state.specs.Context.{Context, code_of, site_at}
use Rattle.vw_state.specs.Post.{called_address, form_behind}
use Rattle.vw_state.specs.Checks.{LacksCode, Leaves}
use Rattle.vw_checks.specs.Accesses.{ReadFails, WriteFails, TouchFails, PushFails}

-- ---- calls

-- what a direct call with `next` behind it enters
abbrev pub called_target : Context → ℕ → ℤ → Option CallTarget
called_target f next rel = option_and_then (call_target f.image f.functions) (called_address f next rel)

-- A call may enter a declared function or a stub with the heap's base in rdi, and the probe of the stack with any rdi.
abbrev pub MayEnter : Option CallTarget → Abstract → Type 0
MayEnter None st = ⊥
MayEnter (Some target.Probe) st = Unit {0}
MayEnter (Some (target.Function number)) st = HasHeapBase st
MayEnter (Some (target.Stub stub)) st = HasHeapBase st

-- A call through a register may enter the function of an entry of a table, whose tag is known, with the heap's base in rdi.
abbrev pub MayEnterBy : Var → Abstract → Type 0
MayEnterBy src st = IsTableFn (value_of st (index_of src)) × HasHeapBase st

-- ---- what fails, by number

-- At a flow but for jumps, with `next` behind it. A call: the checks of its push, and 7, call: what it enters, or that rdi
-- then holds the heap's base, is not known. A return: 8, return: rsp or a register that the caller keeps is not known to
-- be as it was.
abbrev pub TransferFails : Context → ℕ → Abstract → Flow → ℕ → Type 0
TransferFails f next st flow.Next number = ⊥
TransferFails f next st (flow.Jump rel) number = ⊥
TransferFails f next st (flow.Branch cond rel) number = ⊥
TransferFails f next st (flow.JumpReg src) number = ⊥
TransferFails f next st (flow.Call rel) number = PushFails st number ⊎ ((number ≡ 7) × (MayEnter (called_target f next rel) st → ⊥))
TransferFails f next st (flow.CallReg src) number = PushFails st number ⊎ ((number ≡ 7) × (MayEnterBy src st → ⊥))
TransferFails f next st flow.Ret number = (number ≡ 8) × (MayReturn st → ⊥)
TransferFails f next st flow.Stop number = ⊥

-- at a flow with `next` behind it: 2, jump, and those of calls and returns
abbrev pub FlowFails : Context → ℕ → Abstract → Flow → ℕ → Type 0
FlowFails f next st flow number = ((number ≡ 2) × Leaves f next st flow) ⊎ TransferFails f next st flow number

-- at a statement with the form of the state before it: those of accesses, and at a flow those of flows
abbrev pub StmtFails : Context → ℕ → Abstract → Stmt → ℕ → Type 0
StmtFails f next st (stmt.Set dst c) number = ⊥
StmtFails f next st (stmt.Copy dst src) number = ⊥
StmtFails f next st (stmt.Narrow dst src from to signed) number = ⊥
StmtFails f next st (stmt.Sum dst a b minus) number = ⊥
StmtFails f next st (stmt.Lea dst mem) number = ⊥
StmtFails f next st (stmt.And dst w a b) number = ⊥
StmtFails f next st (stmt.Shl dst) number = ⊥
StmtFails f next st (stmt.Open dst w) number = ⊥
StmtFails f next st (stmt.Choose dst w a b) number = ⊥
StmtFails f next st (stmt.Load dst size to signed mem) number = ReadFails (site_at f next) st (address_of (site_at f next) st mem) size number
StmtFails f next st (stmt.Store mem size src) number = WriteFails st (address_of (site_at f next) st mem) size number
StmtFails f next st (stmt.Touch mem size write) number = TouchFails (site_at f next) st write (address_of (site_at f next) st mem) size number
StmtFails f next st (stmt.Flags fact) number = ⊥
StmtFails f next st (stmt.Flow flow) number = FlowFails f next st flow number

-- at one of several statements, each with the form of the state before it
abbrev pub StmtsFail : Context → ℕ → Abstract → List Stmt → ℕ → Type 0
StmtsFail f next st [] number = ⊥
StmtsFail f next st (stmt ∷ stmts) number = StmtFails f next st stmt number ⊎ StmtsFail f next (apply (site_at f next) stmt st) stmts number

-- at an instruction with `next` behind it
abbrev pub InsnFails : Context → ℕ → Parts → Insn → ℕ → Type 0
InsnFails f next state i number = StmtsFail f next (abstract_of state) (lifted i) number

-- The checks that fail at a point with a state, by number.
pub data Fails (f : Context) (at : ℕ) (state : Parts) : ℕ → Type 0 where
  -- check 1, code: nothing decodes from the point to the function's end
  lacks_code : LacksCode f at → Fails f at state 1
  -- those at the instruction that begins there
  at_insn : (i : Insn) (len number : ℕ) → BeginsAt (code_of f) at i len → InsnFails f (at + len) state i number → Fails f at state number

-- no check fails at the point with the state
abbrev pub Passes : Context → ℕ → Parts → Type 0
Passes f at state = (number : ℕ) → Fails f at state number → ⊥

-- ---- what the checks come to

-- a flow with `next` behind it stays inside the function, or it is a call or a return that is permitted
abbrev pub FlowPasses : Context → ℕ → Abstract → Flow → Type 0
FlowPasses f next st flow.Next = Unit {0}
FlowPasses f next st (flow.Jump rel) = Leaves f next st (flow.Jump rel) → ⊥
FlowPasses f next st (flow.Branch cond rel) = Leaves f next st (flow.Branch cond rel) → ⊥
FlowPasses f next st (flow.JumpReg src) = Leaves f next st (flow.JumpReg src) → ⊥
FlowPasses f next st (flow.Call rel) = MayPush st × MayEnter (called_target f next rel) st
FlowPasses f next st (flow.CallReg src) = MayPush st × MayEnterBy src st
FlowPasses f next st flow.Ret = MayReturn st
FlowPasses f next st flow.Stop = Unit {0}

-- at a statement that transfers no control none fails exactly where its access is permitted
abbrev pub StatementsAreChecked : Type 0
StatementsAreChecked =
    (f : Context) (next : ℕ) (st : Abstract) (x : Stmt)
    → NoFlow x → ((number : ℕ) → StmtFails f next st x number → ⊥) ↔ Permits (site_at f next) st x

-- at a flow none fails exactly where it passes
abbrev pub FlowsAreChecked : Type 0
FlowsAreChecked =
    (f : Context) (next : ℕ) (st : Abstract) (flow : Flow)
    → ((number : ℕ) → FlowFails f next st flow number → ⊥) ↔ FlowPasses f next st flow

-- where none fails at an instruction, the accesses of its statements are permitted, and its flow passes behind them
abbrev pub InstructionsAreChecked : Type 0
InstructionsAreChecked =
    (f : Context) (next : ℕ) (state : Parts) (i : Insn)
    → ((number : ℕ) → InsnFails f next state i number → ⊥)
    → PassesAll (site_at f next) (abstract_of state) (steps i) × FlowPasses f next (form_behind f next i state) (flow_of i)

-- ---- the lowest number

-- The lowest number of which this holds; None: it holds of none.
abbrev pub IsLowestOf : (ℕ → Type 0) → Option ℕ → Type 0
IsLowestOf Holds None = (number : ℕ) → Holds number → ⊥
IsLowestOf Holds (Some lowest) = Holds lowest × ((number : ℕ) → Holds number → lowest ≤ number)

-- the lower of two numbers, where both are there, and else the one that is
abbrev pub lower : Option ℕ → Option ℕ → Option ℕ
lower None second = second
lower (Some a) None = Some a
lower (Some a) (Some b) = Some (min a b)

-- The lowest number of the checks that fail at the point with the state; None: no check fails.
abbrev pub LowestFailing : Context → ℕ → Parts → Option ℕ → Type 0
LowestFailing f at state = IsLowestOf (Fails f at state)
