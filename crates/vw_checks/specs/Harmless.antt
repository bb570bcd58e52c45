-- Statements at which no check can fail, whatever the state before them is.
use Rattle.std.specs.Prelude.{Bool, true, false, List, [], ◌∷◌}
use Rattle.std.specs.List.{list_all}
use Rattle.vw_stmt.specs.declared.statement.Flow.{Flow}
use Rattle.vw_stmt.specs.declared.statement.Flow.TheVariants as flow
use Rattle.vw_stmt.specs.declared.statement.Stmt.{Stmt}
use Rattle.vw_stmt.specs.declared.statement.Stmt.TheVariants as stmt

-- control goes on to the next instruction, or stops
abbrev pub goes_on_or_stops : Flow → Bool
goes_on_or_stops flow.Next = true
goes_on_or_stops (flow.Jump rel) = false
goes_on_or_stops (flow.Branch cond rel) = false
goes_on_or_stops (flow.JumpReg src) = false
goes_on_or_stops (flow.Call rel) = false
goes_on_or_stops (flow.CallReg src) = false
goes_on_or_stops flow.Ret = false
goes_on_or_stops flow.Stop = true

-- the statement accesses no memory, and control goes on behind it or stops
abbrev pub never_fails : Stmt → Bool
never_fails (stmt.Set dst c) = true
never_fails (stmt.Copy dst src) = true
never_fails (stmt.Narrow dst src from to signed) = true
never_fails (stmt.Sum dst a b minus) = true
never_fails (stmt.Lea dst mem) = true
never_fails (stmt.And dst w a b) = true
never_fails (stmt.Shl dst) = true
never_fails (stmt.Open dst w) = true
never_fails (stmt.Choose dst w a b) = true
never_fails (stmt.Load dst size to signed mem) = false
never_fails (stmt.Store mem size src) = false
never_fails (stmt.Touch mem size write) = false
never_fails (stmt.Flags fact) = true
never_fails (stmt.Flow f) = goes_on_or_stops f

-- so it is of each statement but the first
abbrev pub never_fail_behind : List Stmt → Bool
never_fail_behind [] = true
never_fail_behind (first ∷ behind) = list_all never_fails behind
