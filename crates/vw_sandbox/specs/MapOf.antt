-- The map that tells of the tables of a module's functions.
use Rattle.std.specs.Prelude.{ℕ, ◌+◌, ◌==◌, List, [], drop, Option, None, Some, is_some, option_and_then}
use Rattle.std.specs.List.{find}
use Rattle.std.specs.Option.{option_map_or}
use Rattle.vw_stmt.specs.declared.statement.Flow.{Flow}
use Rattle.vw_stmt.specs.declared.statement.Flow.TheVariants as flow
use Rattle.vw_lift.specs.Lifted.{flow_of}
use Rattle.vw_decode.specs.Lexing.{Found, insn_found, length_found, read}
use Rattle.vw_layout.specs.declared.layout.Module.{Module as Declared}
use Rattle.vw_values.specs.declared.value.Value.{Value}
use Rattle.vw_values.specs.declared.value.Value.TheVariants.{Any, Num, Const, Below, Low, Both, HeapBase, HeapAddr, Globals, Entry, Image, Index16, EntryPtr, EntryTyped, TagOf, TableFn, JumpOff, JumpDest}
use Rattle.vw_domain.specs.declared.parts.Parts.{Parts}
use Rattle.vw_domain.specs.Abstract.{Abstract}
use Rattle.vw_domain.specs.Addresses.{value_of}
use Rattle.vw_domain.specs.Operands.{index_of}
use Rattle.vw_state.specs.declared.tables.FunctionTable.{FunctionTable}
use Rattle.vw_state.specs.declared.tables.PointState.{PointState}
use Rattle.vw_state.specs.declared.tables.Tables.{Tables}
use Rattle.vw_state.specs.Context.{Context, code_of, context_of}
use Rattle.vw_state.specs.Post.{form_behind}
use Rattle.vw_state.specs.Tables.{state_of}
use Rattle.vw_sandbox.specs.Maps.{Map}

-- the table of the function with this entry; it is empty where there is none
abbrev pub table_at : List FunctionTable → ℕ → List PointState
table_at tables entry = option_map_or (λ t. t.states) (find (λ t. t.entry == entry) tables) []

-- ---- what calls through registers and memory go to

-- the table and the tag of the entries that have an address in them
abbrev pub entry_of : Value → Option (ℕ × ℕ)
entry_of (TableFn t g) = Some (t, g)
entry_of Any = None
entry_of Num = None
entry_of (Const c) = None
entry_of (Below k) = None
entry_of (Low k) = None
entry_of (Both k) = None
entry_of HeapBase = None
entry_of HeapAddr = None
entry_of Globals = None
entry_of (Entry r) = None
entry_of (Image a) = None
entry_of (Index16 k mark) = None
entry_of (EntryPtr t) = None
entry_of (EntryTyped t g) = None
entry_of (TagOf t via) = None
entry_of (JumpOff a k) = None
entry_of (JumpDest a k) = None

-- those of the operand of a call through a register or memory, by the state behind the other statements
abbrev pub callee_of : Flow → Abstract → Option (ℕ × ℕ)
callee_of (flow.CallReg src) st = entry_of (value_of st (index_of src))
callee_of flow.Next st = None
callee_of (flow.Jump rel) st = None
callee_of (flow.Branch cond rel) st = None
callee_of (flow.JumpReg src) st = None
callee_of (flow.Call rel) st = None
callee_of flow.Ret st = None
callee_of flow.Stop st = None

-- by the instruction that is read from the bytes at a point of the function, and the state there
abbrev pub callee_read : Context → ℕ → Parts → Option Found → Option (ℕ × ℕ)
callee_read f at state None = None
callee_read f at state (Some found) =
    callee_of (flow_of (insn_found found)) (form_behind f (at + length_found (drop at (code_of f)) found) (insn_found found) state)

-- by the table of the function
abbrev pub callee_in : Context → List PointState → ℕ → Option (ℕ × ℕ)
callee_in f table at = option_and_then (λ state. callee_read f at state (read (drop at (code_of f)))) (state_of table at)

-- by the function's entry
abbrev pub callee_at : Declared → List FunctionTable → ℕ → ℕ → Option (ℕ × ℕ)
callee_at m tables entry at =
    option_and_then (λ f. callee_in (context_of m f) (table_at tables entry) at) (find (λ f. f.entry == entry) m.functions)

-- The map that tells of the tables: which points have a state; and for a call there through a register or memory, the
-- number of the table and the tag that the state behind its other statements gives its operand.
abbrev pub map_of : Declared → Tables → Map
map_of m tables = record {
  is_point = λ entry at. is_some (state_of (table_at tables.functions entry) at);
  callee = callee_at m tables.functions;
}
