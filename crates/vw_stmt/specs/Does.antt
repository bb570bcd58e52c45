-- The plain meaning of statements. `does` says what one statement does under a pick of what it leaves open, and `Does`
-- what a list of them may do.
--
-- A statement that accesses memory adds its access: Load and Touch read `size` bytes at the address of their operand,
-- Store and a Touch that writes write `size` bytes there, a call writes eight bytes 8 below rsp, and Ret reads the eight
-- bytes at rsp. No other statement reads or writes memory.
--
-- Two functions say what memory is, and the machine gives them: `loads bytes a n` is the number that the n bytes from
-- address a spell, the least significant first, and `stores bytes a n v` has the n bytes of v there. `next` is the address
-- of the next instruction.
use Rattle.std.specs.Prelude.{◌≡◌, ℕ, ◌*◌, ◌%◌, ◌^◌, ◌==◌, Bool, if◌then◌else◌, Option, None, Some, List, [], ◌∷◌, ◌++◌, bit_and}
use Rattle.vw_insn.specs.declared.registers.Width.{Width}
use Rattle.vw_insn.specs.declared.registers.Width.TheVariants.{W8, W16, W32, W64}
use Rattle.vw_insn.specs.Words.{low, with_low, put}
use Rattle.vw_insn.specs.Arithmetic.{extended, wrapped_sum, wrapped_difference, flags_of_difference}
use Rattle.vw_insn.specs.Conditions.{holds}
use Rattle.vw_insn.specs.XmmEffect.{stored_bytes}
use Rattle.vw_insn.specs.Effect.{Next, To, Enter, Back, Stop, address, at_rsp, below_rsp, lowered, raised, relative}
use Rattle.vw_stmt.specs.declared.operands.Var.{Var}
use Rattle.vw_stmt.specs.declared.operands.Compare.{Compare}
use Rattle.vw_stmt.specs.declared.statement.Flow.{Flow}
use Rattle.vw_stmt.specs.declared.statement.Flow.TheVariants as flow
use Rattle.vw_stmt.specs.declared.statement.Stmt.{Stmt}
use Rattle.vw_stmt.specs.declared.statement.Stmt.TheVariants as stmt
use Rattle.vw_stmt.specs.Environment.{Environment, Pick, var_value, operand_value, set_var}

-- the width of a number of 1, 2, 4 or 8 bytes
abbrev pub width_of : ℕ → Width
width_of size = if size == 1 then W8 else (if size == 2 then W16 else (if size == 4 then W32 else W64))

-- the environment after a result of a width was written: 32 bits clear the upper half, and 8 or 16 bits keep the others
abbrev pub set_width : Environment → Var → Width → ℕ → Environment
set_width e dst w x = set_var e dst (with_low w (var_value e dst) x)

-- a word of which the bits of a width and, at 8 and 16 bits, all others are open
abbrev pub opened : Width → ℕ → ℕ
opened W8 x = x
opened W16 x = x
opened W32 x = low W32 x
opened W64 x = x

-- a sum, or with `minus` a difference, modulo 2 ^ 64
abbrev pub sum_or_difference : Bool → ℕ → ℕ → ℕ
sum_or_difference minus x y = if minus then wrapped_difference x y else wrapped_sum x y

module _ (loads : (ℕ → ℕ) → ℕ → ℕ → ℕ) (stores : (ℕ → ℕ) → ℕ → ℕ → ℕ → ℕ → ℕ) (next : ℕ) where
  -- after n bytes at a were read
  abbrev pub reading : Environment → ℕ → ℕ → Environment
  reading e a n = record e { reads = e.reads ++ record { at = a; size = n } ∷ [] }

  -- after a number of n bytes was written at a
  abbrev pub writing : Environment → ℕ → ℕ → ℕ → Environment
  writing e a n v = record e { bytes = stores e.bytes a n v; writes = e.writes ++ record { at = a; size = n; value = v } ∷ [] }

  -- after the next address was pushed
  abbrev pub calling : Environment → ℕ → Environment
  calling e to =
      record (writing e (address next e.registers below_rsp) 8 next) { registers = put e.registers 4 (lowered (e.registers 4)); transfer = Enter to }

  -- after the return address was popped
  abbrev pub returning : Environment → Environment
  returning e =
      let a = address next e.registers at_rsp in
      record (reading e a 8) { registers = put e.registers 4 (raised (e.registers 4)); transfer = Back (loads e.bytes a 8) }

  -- where control goes on
  abbrev pub flows : Flow → Environment → Environment
  flows flow.Next e = record e { transfer = Next }
  flows (flow.Jump rel) e = record e { transfer = To (relative next rel) }
  flows (flow.Branch cond rel) e = record e { transfer = if holds cond e.flags then To (relative next rel) else Next }
  flows (flow.JumpReg src) e = record e { transfer = To (var_value e src) }
  flows (flow.Call rel) e = calling e (relative next rel)
  flows (flow.CallReg src) e = calling e (var_value e src)
  flows flow.Ret e = returning e
  flows flow.Stop e = record e { transfer = Stop }

  -- after flags were set to those of a comparison, or left open
  abbrev pub flagging : Option Compare → Pick → Environment → Environment
  flagging None pick e = record e { flags = pick.choice.flags }
  flagging (Some c) pick e = record e { flags = flags_of_difference c.w (low c.w (var_value e c.a)) (low c.w (operand_value e c.b)) }

  -- what a statement that transfers no control does under a pick; Flow does nothing here
  abbrev pub performs : Stmt → Pick → Environment → Environment
  performs (stmt.Set dst c) pick e = set_var e dst c
  performs (stmt.Copy dst src) pick e = set_var e dst (var_value e src)
  performs (stmt.Narrow dst src from to signed) pick e = set_width e dst to (extended signed from to (low from (var_value e src)))
  performs (stmt.Sum dst a b minus) pick e = set_var e dst (sum_or_difference minus (var_value e a) (operand_value e b))
  performs (stmt.Lea dst mem) pick e = set_var e dst (address next e.registers mem)
  performs (stmt.And dst w a b) pick e = set_width e dst w (low w (bit_and (low w (var_value e a)) (low w (operand_value e b))))
  performs (stmt.Shl dst) pick e = set_var e dst (var_value e dst * 2 ^ 4 % 2 ^ 64)
  performs (stmt.Open dst w) pick e = set_var e dst (opened w (pick.choice.numbers 0))
  performs (stmt.Choose dst w a b) pick e = set_width e dst w (low w (if pick.second then operand_value e b else var_value e a))
  performs (stmt.Load dst size to signed mem) pick e =
      let a = address next e.registers mem in
      set_width (reading e a size) dst to (extended signed (width_of size) to (low (width_of size) (loads e.bytes a size)))
  performs (stmt.Store mem size src) pick e = writing e (address next e.registers mem) size (low (width_of size) (operand_value e src))
  performs (stmt.Touch mem size write) pick e =
      let a = address next e.registers mem in
      if write then writing e a size (stored_bytes size pick.choice.numbers) else reading e a size
  performs (stmt.Flags fact) pick e = flagging fact pick e
  performs (stmt.Flow f) pick e = e

  -- what one statement does under a pick
  abbrev pub does : Stmt → Pick → Environment → Environment
  does (stmt.Flow f) pick e = flows f e
  does s pick e = performs s pick e

  -- the statements may do this, one after another
  abbrev pub Does : List Stmt → Environment → Environment → Type 0
  Does [] e e' = e ≡ e'
  Does (s ∷ stmts) e e' = (pick : Pick) × Does stmts (does s pick e) e'
