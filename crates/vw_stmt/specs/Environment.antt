-- What the statements of one instruction work on: the registers and status flags (SDM volume 1, 3.4.1 and 3.4.3.1), a
-- register of the instruction alone, memory, and the accesses and the transfer so far.
use Rattle.std.specs.Prelude.{ℕ, Bool, List, []}
use Rattle.vw_insn.specs.Words.{Registers, Flags, number, word_of, put}
use Rattle.vw_insn.specs.Effect.{Open, Access, Write, Transfer, Next}
use Rattle.vw_stmt.specs.declared.operands.Var.{Var}
use Rattle.vw_stmt.specs.declared.operands.Var.TheVariants as var
use Rattle.vw_stmt.specs.declared.operands.Operand.{Operand}
use Rattle.vw_stmt.specs.declared.operands.Operand.TheVariants as operand

-- `bytes` is memory by address. `reads` and `writes` are in the order in which they were made.
pub record Environment : Type 0 where
  pub registers : Registers
  pub tmp : ℕ
  pub flags : Flags
  pub bytes : ℕ → ℕ
  pub reads : List Access
  pub writes : List Write
  pub transfer : Transfer

-- the environment before the first statement, with any number in tmp
abbrev pub start : Registers → ℕ → Flags → (ℕ → ℕ) → Environment
start registers tmp flags bytes =
    record { registers = registers; tmp = tmp; flags = flags; bytes = bytes; reads = []; writes = []; transfer = Next }

-- what one statement leaves open: numbers and flags, and whether Choose takes its second operand
pub record Pick : Type 0 where
  pub choice : Open
  pub second : Bool

-- the word that is in a register or in tmp
abbrev pub var_value : Environment → Var → ℕ
var_value e (var.Reg r) = e.registers (number r)
var_value e var.Tmp = e.tmp

abbrev pub operand_value : Environment → Operand → ℕ
operand_value e (operand.Var v) = var_value e v
operand_value e (operand.Imm i) = word_of i

abbrev pub set_var : Environment → Var → ℕ → Environment
set_var e (var.Reg r) x = record e { registers = put e.registers (number r) x }
set_var e var.Tmp x = record e { tmp = x }
