-- The laws of the equations: what is known stays true of the machine, more knowledge gives more, and forms stay forms.
use Rattle.std.specs.Prelude.{◌≡◌, ℕ, ◌+◌, ◌<◌, ◌≤◌, ◌⊎◌, ℤ, pos, ◌+ℤ◌, ◌≤ℤ◌, Bool, true, List}
use Rattle.std.specs.List.{AllByRecursion}
use Rattle.vw_insn.specs.declared.operations.Cond.{Cond}
use Rattle.vw_insn.specs.Words.{Flags as StatusFlags}
use Rattle.vw_insn.specs.Conditions.{holds}
use Rattle.vw_names.specs.declared.spot.Spot.{Spot}
use Rattle.vw_stack.specs.declared.offset.Offset.TheVariants as offset
use Rattle.vw_stmt.specs.declared.operands.Var.TheVariants as var
use Rattle.vw_stmt.specs.declared.statement.Stmt.{Stmt}
use Rattle.vw_stmt.specs.declared.statement.Stmt.TheVariants as stmt
use Rattle.vw_stmt.specs.Accesses.{stmt_reads, stmt_writes}
use Rattle.vw_stmt.specs.Environment.{Environment, Pick, set_var}
use Rattle.vw_stmt.specs.Does.{performs}
use Rattle.vw_stmt.specs.Lifted.{IsLifted}
use Rattle.vw_stmt.specs.Laws.{HasWords, AreBytes}
use Rattle.vw_values.specs.declared.value.Value.{Value}
use Rattle.vw_values.specs.Values.{value_below}
use Rattle.vw_domain.specs.Abstract.{Abstract, IsBelow}
use Rattle.vw_domain.specs.Changes.{call, is_register}
use Rattle.vw_domain.specs.Sites.{Site, IsSite}
use Rattle.vw_domain.specs.Statements.{apply, applies, finish}
use Rattle.vw_domain.specs.Branches.{rule_at, MayGo, edge_state}
use Rattle.vw_domain.specs.Calls.{after_call, after_probe}
use Rattle.vw_domain.specs.Checks.{Passes, PassesAll, MayReturn, MayPush, HasHeapBase, IsTableFn}
use Rattle.vw_domain.specs.Stands.{Machine, StandsWith, StandsFor, WritesItsFrame}
use Rattle.vw_domain.specs.FormRanges.{IsForm}
use Rattle.vw_domain.specs.Soundness.{IsPlaced, IsMemory, HasTables, HasImage, ReadPermitted, WritePermitted, store, activation_after, HitsGuard, machine_in}

-- ---- statements

-- the statement does not transfer control
abbrev pub NoFlow : Stmt → Type 0
NoFlow (stmt.Flow f) = ⊥
NoFlow (stmt.Set dst c) = Unit {0}
NoFlow (stmt.Copy dst src) = Unit {0}
NoFlow (stmt.Narrow dst src from to signed) = Unit {0}
NoFlow (stmt.Sum dst a b minus) = Unit {0}
NoFlow (stmt.Lea dst mem) = Unit {0}
NoFlow (stmt.And dst w a b) = Unit {0}
NoFlow (stmt.Shl dst) = Unit {0}
NoFlow (stmt.Open dst w) = Unit {0}
NoFlow (stmt.Choose dst w a b) = Unit {0}
NoFlow (stmt.Load dst size to signed mem) = Unit {0}
NoFlow (stmt.Store mem size src) = Unit {0}
NoFlow (stmt.Touch mem size write) = Unit {0}
NoFlow (stmt.Flags fact) = Unit {0}

-- the state after a statement stands for the machine after it, unless the statement writes in the guard
abbrev pub StatementsStand : Type 0
StatementsStand =
    (m : Machine) (site : Site) (next : ℕ) (loads : (ℕ → ℕ) → ℕ → ℕ → ℕ) (st : Abstract) (e : Environment) (compared : ℕ) (pick : Pick) (s : Stmt)
    → IsPlaced m site next → IsSite site → IsMemory m site loads
    → IsForm site.bounds st → HasWords e → AreBytes e.bytes → WritesItsFrame m → StandsWith st (machine_in m e) compared
    → IsLifted s → Passes site st s
    → let after = activation_after next e m s in
    HitsGuard m next e s ⊎ (WritesItsFrame after × StandsFor (apply site s st) (machine_in after (performs loads (store m) next s pick e)))

-- what a statement reads and writes is permitted; Flow alone, whose accesses have checks of their own, is left out
abbrev pub AccessesArePermitted : Type 0
AccessesArePermitted =
    (m : Machine) (site : Site) (next : ℕ) (st : Abstract) (e : Environment) (compared : ℕ) (s : Stmt)
    → IsPlaced m site next → HasImage m.instance site → IsSite site
    → IsForm site.bounds st → HasWords e → WritesItsFrame m → StandsWith st (machine_in m e) compared
    → IsLifted s → NoFlow s → Passes site st s
    → AllByRecursion (λ r. ReadPermitted m site r.at r.size) (stmt_reads next s e.registers)
    × AllByRecursion (λ r. WritePermitted m r.at r.size) (stmt_writes next s e.registers)

abbrev pub StatementsRise : Type 0
StatementsRise =
    (site : Site) (s t : Abstract) (x : Stmt)
    → IsSite site → IsForm site.bounds s → IsForm site.bounds t → IsLifted x → IsBelow s t → IsBelow (apply site x s) (apply site x t)

abbrev pub StatementsKeepForms : Type 0
StatementsKeepForms = (site : Site) (st : Abstract) (x : Stmt) → IsSite site → IsForm site.bounds st → IsLifted x → IsForm site.bounds (apply site x st)

-- where no check fails at a state, none fails at a lower one
abbrev pub ChecksRise : Type 0
ChecksRise =
    (site : Site) (s t : Abstract) (x : Stmt)
    → IsSite site → IsForm site.bounds s → IsForm site.bounds t → IsBelow s t → Passes site t x → Passes site s x

-- ---- the statements of an instruction

abbrev pub ListsRise : Type 0
ListsRise =
    (site : Site) (s t : Abstract) (stmts : List Stmt)
    → IsSite site → IsForm site.bounds s → IsForm site.bounds t → AllByRecursion IsLifted stmts → IsBelow s t
    → IsBelow (applies site stmts s) (applies site stmts t)

abbrev pub ListsKeepForms : Type 0
ListsKeepForms =
    (site : Site) (st : Abstract) (stmts : List Stmt)
    → IsSite site → IsForm site.bounds st → AllByRecursion IsLifted stmts → IsForm site.bounds (applies site stmts st)

abbrev pub ListChecksRise : Type 0
ListChecksRise =
    (site : Site) (s t : Abstract) (stmts : List Stmt)
    → IsSite site → IsForm site.bounds s → IsForm site.bounds t → AllByRecursion IsLifted stmts → IsBelow s t
    → PassesAll site t stmts → PassesAll site s stmts

-- behind an instruction tmp may hold any number
abbrev pub EndsStand : Type 0
EndsStand =
    (bounds : List ℕ) (m : Machine) (st : Abstract) (e : Environment) (compared x : ℕ)
    → IsForm bounds st → WritesItsFrame m → StandsWith st (machine_in m e) compared → StandsWith (finish st) (machine_in m (set_var e var.Tmp x)) compared

abbrev pub EndsRise : Type 0
EndsRise = (bounds : List ℕ) (s t : Abstract) → IsForm bounds s → IsBelow s t → IsBelow (finish s) (finish t)

abbrev pub EndsKeepForms : Type 0
EndsKeepForms = (site : Site) (st : Abstract) → IsSite site → IsForm site.bounds st → IsForm site.bounds (finish st)

-- ---- states

-- a lower form stands for less
abbrev pub LowerFormsStandForLess : Type 0
LowerFormsStandForLess =
    (site : Site) (m : Machine) (next : ℕ) (s t : Abstract) (compared : ℕ)
    → IsPlaced m site next → IsSite site → IsForm site.bounds s → IsForm site.bounds t → WritesItsFrame m
    → IsBelow s t → StandsWith s m compared → StandsWith t m compared

-- ---- branches

-- where the condition holds, or not, control may go along that edge, and the edge's state stands
abbrev pub BranchesStand : Type 0
BranchesStand =
    (site : Site) (m : Machine) (next : ℕ) (st : Abstract) (compared : ℕ) (places : List Spot) (cond : Cond) (taken : Bool)
    → IsPlaced m site next → IsSite site → HasTables m.instance → IsForm site.bounds st → WritesItsFrame m → StandsWith st m compared
    → holds cond m.flags ≡ taken
    → MayGo site places st (rule_at cond taken st.fact) × StandsWith (edge_state site places st (rule_at cond taken st.fact)) m compared

-- an edge below lies under an edge above
abbrev pub BranchesRise : Type 0
BranchesRise =
    (site : Site) (s t : Abstract) (places : List Spot) (cond : Cond) (taken : Bool)
    → IsSite site → IsForm site.bounds s → IsForm site.bounds t → IsBelow s t
    → MayGo site places s (rule_at cond taken s.fact)
    → MayGo site places t (rule_at cond taken t.fact)
    × IsBelow (edge_state site places s (rule_at cond taken s.fact)) (edge_state site places t (rule_at cond taken t.fact))

-- ---- calls

-- A callee leaves the registers that are kept and the bytes from rsp up, and writes its return address below rsp; then
-- what the equation of a call leaves stands.
abbrev pub CallsStand : Type 0
CallsStand =
    (bounds : List ℕ) (m : Machine) (st : Abstract) (compared : ℕ) (kept : ℕ → Bool) (c : ℤ) (rsp : ℕ)
    → IsForm bounds st → WritesItsFrame m → StandsWith st m compared
    → pos rsp ≡ pos m.entry_rsp +ℤ c → c ≤ℤ pos 0 → m.stack_start + 8 ≤ rsp
    → (registers : ℕ → ℕ) (flags : StatusFlags) (byte : ℕ → ℕ) (is_written : ℕ → Bool)
    → ((r : ℕ) → kept r ≡ true → registers r ≡ m.registers r)
    → ((a : ℕ) → rsp ≤ a → byte a ≡ m.byte a)
    → ((a : ℕ) → m.is_written a ≡ true → is_written a ≡ true)
    → ((a : ℕ) → rsp ≤ a + 8 → a < rsp → is_written a ≡ true)
    → WritesItsFrame (record m { is_written = is_written })
    → StandsWith (call st kept (offset.Known c)) (record m { registers = registers; flags = flags; byte = byte; is_written = is_written }) compared

-- A probe that came back with at least as many bytes above the stack's start as rax asked for, and that leaves as a
-- callee does all registers, leaves what its equation says.
abbrev pub ProbesStand : Type 0
ProbesStand =
    (bounds : List ℕ) (m : Machine) (st : Abstract) (compared : ℕ) (c : ℤ) (rsp : ℕ)
    → IsForm bounds st → WritesItsFrame m → StandsWith st m compared → st.offsets 4 ≡ offset.Known c
    → pos rsp ≡ pos m.entry_rsp +ℤ c → c ≤ℤ pos 0 → m.stack_start + 8 ≤ rsp → m.stack_start + m.registers 0 ≤ rsp
    → (registers : ℕ → ℕ) (flags : StatusFlags) (byte : ℕ → ℕ) (is_written : ℕ → Bool)
    → ((r : ℕ) → is_register r ≡ true → registers r ≡ m.registers r)
    → ((a : ℕ) → rsp ≤ a → byte a ≡ m.byte a)
    → ((a : ℕ) → m.is_written a ≡ true → is_written a ≡ true)
    → ((a : ℕ) → rsp ≤ a + 8 → a < rsp → is_written a ≡ true)
    → WritesItsFrame (record m { is_written = is_written })
    → StandsWith (after_probe st) (record m { registers = registers; flags = flags; byte = byte; is_written = is_written }) compared

abbrev pub CallsKeepForms : Type 0
CallsKeepForms = (bounds : List ℕ) (st : Abstract) (kept : ℕ → Bool) → IsForm bounds st → IsForm bounds (call st kept (st.offsets 4))

abbrev pub CallsRise : Type 0
CallsRise = (bounds : List ℕ) (s t : Abstract) → IsForm bounds s → IsBelow s t → IsBelow (after_call s) (after_call t)

abbrev pub ProbesRise : Type 0
ProbesRise = (bounds : List ℕ) (s t : Abstract) → IsForm bounds s → IsBelow s t → IsBelow (after_probe s) (after_probe t)

-- ---- the checks of how control goes on

abbrev pub TransferChecksRise : Type 0
TransferChecksRise =
    (site : Site) (s t : Abstract) → IsBelow s t → (MayReturn t → MayReturn s) × (MayPush t → MayPush s) × (HasHeapBase t → HasHeapBase s)

abbrev pub ValueChecksRise : Type 0
ValueChecksRise = (v w : Value) → value_below v w → IsTableFn w → IsTableFn v
