-- The edges that leave a point of a function: where control can go from the instruction there, each with the state that
-- it carries (SDM volume 2, "CALL", "JMP", "Jcc", "RET", "UD"; volume 1, 6.4 and 7.3.8). States are told by their
-- abstract forms, of which each is the form of one state.
use Rattle.std.specs.Prelude.{◌≡◌, ℕ, zero, suc, ◌+◌, ◌^◌, ◌==◌, nat_lt, if◌then◌else◌, ℤ, pos, negsuc, ◌+ℤ◌, Bool, true, false, List, [], ◌∷◌, ◌++◌, drop, map, Option, Some, None}
use Rattle.std.specs.Option.{option_map_or}
use Rattle.vw_insn.specs.declared.registers.Width.{Width}
use Rattle.vw_insn.specs.declared.instruction.Insn.{Insn}
use Rattle.vw_stmt.specs.declared.operands.Var.{Var}
use Rattle.vw_stmt.specs.declared.statement.Flow.{Flow}
use Rattle.vw_stmt.specs.declared.statement.Flow.TheVariants as flow
use Rattle.vw_lift.specs.Lifted.{steps, flow_of}
use Rattle.vw_decode.specs.Lexing.{Found, insn_found, length_found, read}
use Rattle.vw_layout.specs.Calls.{is_probe_stub}
use Rattle.vw_switch.specs.Targets.{target}
use Rattle.vw_values.specs.declared.value.Value.{Value}
use Rattle.vw_values.specs.declared.value.Value.TheVariants as value
use Rattle.vw_domain.specs.declared.parts.Parts.{Parts}
use Rattle.vw_domain.specs.Abstract.{Abstract, abstract_of}
use Rattle.vw_domain.specs.Addresses.{value_of}
use Rattle.vw_domain.specs.Branches.{Rule, rule_at, frame_places, may_go, edge_state}
use Rattle.vw_domain.specs.Calls.{after_call, after_probe}
use Rattle.vw_domain.specs.Operands.{index_of}
use Rattle.vw_domain.specs.StateOf as forms
use Rattle.vw_domain.specs.Statements.{applies, finish}
use Rattle.vw_state.specs.declared.edges.PointInsn.{PointInsn}
use Rattle.vw_state.specs.declared.jumps.JumpTable.{JumpTable}
use Rattle.vw_state.specs.Code.{BeginsAt, NothingAt}
use Rattle.vw_state.specs.Context.{Context, code_of, site_at}

-- ---- targets

-- where a direct jump or branch goes: its displacement counts from the next instruction
abbrev pub relative_point : ℕ → ℤ → ℤ
relative_point next rel = pos next +ℤ rel

-- the point of a target that is the offset of one of `size` bytes; None: it is outside
abbrev pub inside : ℕ → ℤ → Option ℕ
inside size (pos to) = if nat_lt to size then Some to else None
inside size (negsuc _) = None

-- the address that is a word; None: it is none
abbrev pub address_in : ℤ → Option ℕ
address_in (pos a) = if nat_lt a (2 ^ 64) then Some a else None
address_in (negsuc _) = None

-- the address that a direct call with `next` behind it enters
abbrev pub called_address : Context → ℕ → ℤ → Option ℕ
called_address f next rel = address_in (pos (f.entry + next) +ℤ rel)

-- a direct call goes to the stub of the import that probes the stack
abbrev pub calls_probe : Context → ℕ → ℤ → Bool
calls_probe f next rel = option_map_or (is_probe_stub f.image) (called_address f next rel) false

-- ---- tables of jumps

-- The table of jumps that a value tells of: the value is the destination that one of these entries names.
abbrev pub jump_table : Value → Option JumpTable
jump_table (value.JumpDest a k) = Some (record { base = a; count = k })
jump_table value.Any = None
jump_table value.Num = None
jump_table (value.Const c) = None
jump_table (value.Below k) = None
jump_table (value.Low k) = None
jump_table (value.Both k) = None
jump_table value.HeapBase = None
jump_table value.HeapAddr = None
jump_table value.Globals = None
jump_table (value.Entry r) = None
jump_table (value.Image a) = None
jump_table (value.Index16 k mark) = None
jump_table (value.EntryPtr t) = None
jump_table (value.EntryTyped t g) = None
jump_table (value.TagOf t via) = None
jump_table (value.TableFn t g) = None
jump_table (value.JumpOff a k) = None

-- the point to which entry i of a table leads; None: it leads out of the function, or its word is not plain
abbrev pub entry_target : Context → JumpTable → ℕ → Option ℕ
entry_target f table i = target f.image table.base i f.entry f.size

-- a point before others, where it is there
abbrev pub with_target : Option ℕ → List ℕ → List ℕ
with_target None points = points
with_target (Some point) points = point ∷ points

-- the points to which so many entries of a table lead from number i on, in their order, but for those that lead to none
abbrev pub targets_from : Context → JumpTable → ℕ → ℕ → List ℕ
targets_from f table i zero = []
targets_from f table i (suc more) = with_target (entry_target f table i) (targets_from f table (suc i) more)

-- the points to which a table leads, in the order of its entries; no table leads to none
abbrev pub table_targets : Context → Option JumpTable → List ℕ
table_targets f None = []
table_targets f (Some table) = targets_from f table 0 table.count

-- The points to which a jump through a register goes with a state, in order: those to which the table leads of which the
-- value of the register tells.
abbrev pub destinations : Context → Var → Abstract → List ℕ
destinations f src st = table_targets f (jump_table (value_of st (index_of src)))

-- ---- edges, by the forms of states

-- the edge to a point; there is none to a target outside
abbrev pub edge_to : Option ℕ → Abstract → List (ℕ × Abstract)
edge_to None st = []
edge_to (Some point) st = (point, st) ∷ []

-- the edges to these points, all with the same state
abbrev pub carry : List ℕ → Abstract → List (ℕ × Abstract)
carry [] st = []
carry (point ∷ points) st = (point, st) ∷ carry points st

-- the edge of a branch, where control may go along it
abbrev pub branch_edge : Context → ℕ → Abstract → Option (Width × Rule) → Option ℕ → List (ℕ × Abstract)
branch_edge f next st rule to =
    if may_go (site_at f next) frame_places st rule then edge_to to (edge_state (site_at f next) frame_places st rule) else []

-- what a direct call leaves
abbrev pub after_direct : Context → ℕ → ℤ → Abstract → Abstract
after_direct f next rel st = if calls_probe f next rel then after_probe st else after_call st

-- The edges of a flow with `next` behind it, with the state after the statements before it. Control goes on at `next`,
-- also where this is the function's end; to the target of a jump; to the target of a branch and then to `next`; from a
-- jump through a register to `targets`; and behind a call where this returns. A return and a trap leave the function.
abbrev pub flow_forms : Context → (Var → Abstract → List ℕ) → ℕ → Abstract → Flow → List (ℕ × Abstract)
flow_forms f targets next st flow.Next = (next, finish st) ∷ []
flow_forms f targets next st (flow.Jump rel) = edge_to (inside f.size (relative_point next rel)) (finish st)
flow_forms f targets next st (flow.Branch cond rel) =
    branch_edge f next (finish st) (rule_at cond true (finish st).fact) (inside f.size (relative_point next rel))
    ++ branch_edge f next (finish st) (rule_at cond false (finish st).fact) (Some next)
flow_forms f targets next st (flow.JumpReg src) = carry (targets src st) (finish st)
flow_forms f targets next st (flow.Call rel) = (next, after_direct f next rel st) ∷ []
flow_forms f targets next st (flow.CallReg src) = (next, after_call st) ∷ []
flow_forms f targets next st flow.Ret = []
flow_forms f targets next st flow.Stop = []

-- a return and a trap have no edge, whatever the state is
abbrev pub has_no_edge : Flow → Bool
has_no_edge flow.Next = false
has_no_edge (flow.Jump rel) = false
has_no_edge (flow.Branch cond rel) = false
has_no_edge (flow.JumpReg src) = false
has_no_edge (flow.Call rel) = false
has_no_edge (flow.CallReg src) = false
has_no_edge flow.Ret = true
has_no_edge flow.Stop = true

-- the state behind the statements of an instruction with `next` behind it, but for its transfer of control
abbrev pub form_behind : Context → ℕ → Insn → Parts → Abstract
form_behind f next i state = applies (site_at f next) (steps i) (abstract_of state)

-- the state behind the statements of the instruction at a point, with the state before them
abbrev pub IsBehind : Context → PointInsn → Parts → Parts → Type 0
IsBehind f point before behind =
    abstract_of behind ≡ applies (site_at f (point.at + point.len)) point.stmts.now (abstract_of before)

-- the edges of an instruction with `next` behind it, from a state
abbrev pub insn_forms : Context → (Var → Abstract → List ℕ) → ℕ → Parts → Insn → List (ℕ × Abstract)
insn_forms f targets next state i = flow_forms f targets next (form_behind f next i state) (flow_of i)

-- ---- edges

-- the same with the states that have these forms
abbrev pub with_state : ℕ × Abstract → ℕ × Parts
with_state edge = (edge.0, forms.state_of edge.1)

abbrev pub insn_edges : Context → (Var → Abstract → List ℕ) → ℕ → Parts → Insn → List (ℕ × Parts)
insn_edges f targets next state i = map with_state (insn_forms f targets next state i)

-- the edges that leave a point with a state, where jumps through registers go to `targets`
pub data PostBy (f : Context) (targets : Var → Abstract → List ℕ) (at : ℕ) (state : Parts) : List (ℕ × Parts) → Type 0 where
  -- nothing decodes there
  nothing : NothingAt (code_of f) at → PostBy f targets at state []
  -- this instruction begins there
  begins : (i : Insn) (len : ℕ) → BeginsAt (code_of f) at i len → PostBy f targets at state (insn_edges f targets (at + len) state i)

-- the edges that leave a point with a state
abbrev pub Post : Context → ℕ → Parts → List (ℕ × Parts) → Type 0
Post f = PostBy f (destinations f)

-- the second points of the pairs whose first is this point
abbrev pub seconds : ℕ → List (ℕ × ℕ) → List ℕ
seconds point [] = []
seconds point (pair ∷ pairs) = if pair.0 == point then pair.1 ∷ seconds point pairs else seconds point pairs

-- the edges that leave a point with a state, where jumps through registers go from the first to the second points of pairs
abbrev pub PostWith : Context → List (ℕ × ℕ) → ℕ → Parts → List (ℕ × Parts) → Type 0
PostWith f pairs at = PostBy f (λ src st. seconds at pairs) at

-- The same as functions: the edges of the instruction that is read from the bytes. For code of bytes, the edges of
-- `PostBy` are these and no others.
abbrev pub edges_read : Context → (Var → Abstract → List ℕ) → ℕ → Parts → Option Found → List (ℕ × Parts)
edges_read f targets at state None = []
edges_read f targets at state (Some found) = insn_edges f targets (at + length_found (drop at (code_of f)) found) state (insn_found found)

unfoldable pub edges_by : Context → (Var → Abstract → List ℕ) → ℕ → Parts → List (ℕ × Parts)
edges_by f targets at state = edges_read f targets at state (read (drop at (code_of f)))

abbrev pub edges_at : Context → ℕ → Parts → List (ℕ × Parts)
edges_at f = edges_by f (destinations f)

abbrev pub edges_with : Context → List (ℕ × ℕ) → ℕ → Parts → List (ℕ × Parts)
edges_with f pairs at = edges_by f (λ src st. seconds at pairs) at
