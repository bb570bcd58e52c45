-- What a state knows of operands.
use Rattle.std.specs.Prelude.{ℕ, Option, Some, None}
use Rattle.vw_insn.specs.Words.{number, word_of}
use Rattle.vw_stmt.specs.declared.operands.Var.{Var}
use Rattle.vw_stmt.specs.declared.operands.Var.TheVariants as var
use Rattle.vw_stmt.specs.declared.operands.Operand.{Operand}
use Rattle.vw_stmt.specs.declared.operands.Operand.TheVariants as operand
use Rattle.vw_names.specs.declared.spot.Spot.{Spot}
use Rattle.vw_names.specs.declared.spot.Spot.TheVariants.{Reg}
use Rattle.vw_stack.specs.declared.offset.Offset.{Offset}
use Rattle.vw_stack.specs.declared.offset.Offset.TheVariants as offset
use Rattle.vw_values.specs.declared.value.Value.{Value}
use Rattle.vw_values.specs.declared.value.Value.TheVariants.{Const}
use Rattle.vw_domain.specs.Abstract.{Abstract}
use Rattle.vw_domain.specs.Addresses.{value_of}

-- a register's number; tmp counts as number 16
abbrev pub index_of : Var → ℕ
index_of (var.Reg r) = number r
index_of var.Tmp = 16

abbrev pub operand_of : Abstract → Operand → Value
operand_of st (operand.Var v) = value_of st (index_of v)
operand_of st (operand.Imm i) = Const (word_of i)

abbrev pub operand_place : Operand → Option Spot
operand_place (operand.Var v) = Some (Reg (index_of v))
operand_place (operand.Imm i) = None

abbrev pub operand_offset : Abstract → Operand → Offset
operand_offset st (operand.Var v) = st.offsets (index_of v)
operand_offset st (operand.Imm i) = offset.Unknown
