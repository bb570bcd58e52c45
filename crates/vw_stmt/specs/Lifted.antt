-- The operands, sizes, widths and scales that a statement has in the list of an instruction, field by field: the
-- condition of all that takes a statement as an argument.
use Rattle.std.specs.Prelude.{◌≡◌, ℕ, ◌<◌, ◌^◌, ◌⊎◌, Bool, true, false, Option, None, Some}
use Rattle.vw_insn.specs.declared.registers.Width.{Width}
use Rattle.vw_insn.specs.declared.registers.Width.TheVariants.{W8, W16, W32, W64}
use Rattle.vw_insn.specs.Listed.{IsMem, IsNarrow, IsWide, IsWord}
use Rattle.vw_stmt.specs.declared.operands.Operand.{Operand}
use Rattle.vw_stmt.specs.declared.operands.Operand.TheVariants as operand
use Rattle.vw_stmt.specs.declared.operands.Compare.{Compare}
use Rattle.vw_stmt.specs.declared.statement.Stmt.{Stmt}
use Rattle.vw_stmt.specs.declared.statement.Stmt.TheVariants as stmt

-- a number of this many bytes is loaded into a word, or stored from one
abbrev pub IsWordSize : ℕ → Type 0
IsWordSize size = (size ≡ 1) ⊎ (size ≡ 2) ⊎ (size ≡ 4) ⊎ (size ≡ 8)

-- an operand of an XMM instruction in memory has this many bytes
abbrev pub IsXmmSize : ℕ → Type 0
IsXmmSize size = (size ≡ 4) ⊎ (size ≡ 8) ⊎ (size ≡ 16)

-- To 8 or 16 bits a number of just that width is loaded. A number of up to 32 bits is extended to 32 or 64 bits, with or
-- without its sign (SDM volume 2, "MOVSX/MOVSXD" and "MOVZX"). One of 64 bits is loaded as it is.
abbrev pub IsLoad : ℕ → Width → Bool → Type 0
IsLoad size W8 signed = (size ≡ 1) × (signed ≡ false)
IsLoad size W16 signed = (size ≡ 2) × (signed ≡ false)
IsLoad size W32 signed = (size ≡ 1) ⊎ (size ≡ 2) ⊎ (size ≡ 4)
IsLoad size W64 true = (size ≡ 1) ⊎ (size ≡ 2) ⊎ (size ≡ 4)
IsLoad size W64 false = IsWordSize size

abbrev pub IsVar : Operand → Type 0
IsVar (operand.Var v) = Unit {0}
IsVar (operand.Imm i) = ⊥

-- what compares has 32 or 64 bits
abbrev pub IsFact : Option Compare → Type 0
IsFact None = Unit {0}
IsFact (Some c) = IsWide c.w

-- each field is one that a statement of its kind can have in the list of an instruction
abbrev pub IsLifted : Stmt → Type 0
IsLifted (stmt.Set dst c) = c < 2 ^ 64
IsLifted (stmt.Copy dst src) = Unit {0}
IsLifted (stmt.Narrow dst src from to signed) = IsNarrow from × IsWide to
IsLifted (stmt.Sum dst a b minus) = Unit {0}
IsLifted (stmt.Lea dst mem) = IsMem mem
IsLifted (stmt.And dst w a b) = IsWide w
IsLifted (stmt.Shl dst) = Unit {0}
IsLifted (stmt.Open dst w) = Unit {0}
IsLifted (stmt.Choose dst w a b) = IsWord w × IsVar b
IsLifted (stmt.Load dst size to signed mem) = IsLoad size to signed × IsMem mem
IsLifted (stmt.Store mem size src) = IsWordSize size × IsMem mem
IsLifted (stmt.Touch mem size write) = IsXmmSize size × IsMem mem
IsLifted (stmt.Flags fact) = IsFact fact
IsLifted (stmt.Flow f) = Unit {0}
