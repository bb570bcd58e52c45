-- The instruction that a row and its operands are (SDM volume 2, chapters 3 to 5).
use Rattle.std.specs.Prelude.{ℕ, Bool, true, false, ℤ, pos, Option, None, Some}
use Rattle.vw_insn.specs.declared.registers.Reg.{Reg}
use Rattle.vw_insn.specs.declared.registers.Reg.TheVariants.{Rax}
use Rattle.vw_insn.specs.declared.registers.Width.{Width}
use Rattle.vw_insn.specs.declared.registers.Width.TheVariants.{W8, W16, W32, W64}
use Rattle.vw_insn.specs.declared.operands.Base.TheVariants as base
use Rattle.vw_insn.specs.declared.operands.Mem.{Mem}
use Rattle.vw_insn.specs.declared.operands.Place.{Place}
use Rattle.vw_insn.specs.declared.operands.Place.TheVariants as place
use Rattle.vw_insn.specs.declared.operands.Source.{Source}
use Rattle.vw_insn.specs.declared.operands.Source.TheVariants as source
use Rattle.vw_insn.specs.declared.operands.Count.{Count}
use Rattle.vw_insn.specs.declared.operands.Count.TheVariants as count
use Rattle.vw_insn.specs.declared.instruction.Insn.{Insn}
use Rattle.vw_insn.specs.declared.instruction.Insn.TheVariants as insn
use Rattle.vw_rows.specs.declared.forms.Kind.{Kind}
use Rattle.vw_rows.specs.declared.forms.Kind.TheVariants as kind
use Rattle.vw_rows.specs.declared.forms.Immediate.{Immediate}
use Rattle.vw_rows.specs.declared.forms.Immediate.TheVariants as imm
use Rattle.vw_rows.specs.declared.forms.Row.{Row}
use Rattle.vw_rows.specs.declared.shape.Shape.{Shape}
use Rattle.vw_rows.specs.Parts.{Parts}
use Rattle.vw_rows.specs.Shape.{shape_of}

-- The register, or the memory, of an operand that is one in each row of the kind.
abbrev pub register_in : Place → Reg
register_in (place.Reg r) = r
register_in (place.High _) = Rax
register_in (place.Mem _) = Rax

abbrev pub memory_in : Place → Mem
memory_in (place.Reg _) = record { base = base.None; index = None; disp = pos 0 }
memory_in (place.High _) = record { base = base.None; index = None; disp = pos 0 }
memory_in (place.Mem mem) = mem

-- there is an immediate
abbrev pub is_given : Immediate → Bool
is_given imm.None = false
is_given imm.Ib = true
is_given imm.Iz = true
is_given imm.Ub = true
is_given imm.Rel8 = true
is_given imm.Rel32 = true
is_given imm.By1 = true
is_given imm.Cl = true
is_given imm.Iv = true
is_given imm.OpcodeByte = false

-- the immediate where the row has one, else the operand
abbrev pub source_or : Bool → Place → ℤ → Source
source_or false operand n = source.Place operand
source_or true operand n = source.Imm n

abbrev pub third_operand : Bool → ℤ → Option ℤ
third_operand false n = None
third_operand true n = Some n

-- by how much a shift shifts
abbrev pub count_by : Immediate → ℕ → Count
count_by imm.None n = count.Imm n
count_by imm.Ib n = count.Imm n
count_by imm.Iz n = count.Imm n
count_by imm.Ub n = count.Imm n
count_by imm.Rel8 n = count.Imm n
count_by imm.Rel32 n = count.Imm n
count_by imm.By1 n = count.Imm n
count_by imm.Cl n = count.Cl
count_by imm.Iv n = count.Imm n
count_by imm.OpcodeByte n = count.Imm n

-- MOV of an immediate to a register is another variant where the immediate has 64 bits of its own
abbrev pub mov_immediate : Width → Place → ℤ → ℕ → Insn
mov_immediate W8 dst n word = insn.Mov W8 dst (source.Imm n)
mov_immediate W16 dst n word = insn.Mov W16 dst (source.Imm n)
mov_immediate W32 dst n word = insn.Mov W32 dst (source.Imm n)
mov_immediate W64 dst n word = insn.MovImm64 (register_in dst) word

-- the general operand of an instruction on XMM registers has 64 bits
abbrev pub is_wide : Width → Bool
is_wide W8 = false
is_wide W16 = false
is_wide W32 = false
is_wide W64 = true

-- the instruction of a kind, with an immediate of this form, and these operands
abbrev pub built : Kind → Immediate → Shape → Insn
built (kind.Alu op) i s = insn.Alu op s.w s.first (source_or (is_given i) s.second s.signed)
built kind.Push i s = insn.Push (source_or (is_given i) s.first s.signed)
built kind.Pop i s = insn.Pop (register_in s.first)
built (kind.Extend signed from) i s = insn.Extend signed from s.w (register_in s.first) s.second
built kind.Imul i s = insn.Imul s.w (register_in s.first) s.second (third_operand (is_given i) s.signed)
built (kind.Jcc cond) i s = insn.Jcc cond s.signed
built kind.Jump i s = insn.Jump s.signed
built kind.Call i s = insn.Call s.signed
built kind.Ret i s = insn.Ret
built kind.Leave i s = insn.Leave
built kind.CallInd i s = insn.CallInd s.first
built kind.JumpInd i s = insn.JumpInd s.first
built kind.Test i s = insn.Test s.w s.first (source_or (is_given i) s.second s.signed)
built kind.Xchg i s = insn.Xchg s.w (register_in s.first) (register_in s.second)
built kind.Mov i s = insn.Mov s.w s.first (source_or (is_given i) s.second s.signed)
built kind.MovImm i s = mov_immediate s.w s.first s.signed s.word
built kind.Lea i s = insn.Lea s.w (register_in s.first) (memory_in s.second)
built kind.Nop i s = insn.Nop
built kind.Widen i s = insn.Widen s.w
built kind.SignA i s = insn.SignA s.w
built (kind.Shift op) i s = insn.Shift op s.w s.first (count_by i s.byte)
built (kind.Unary op) i s = insn.Unary op s.w s.first
built (kind.MulDiv op) i s = insn.MulDiv op s.w s.first
built kind.Ud2 i s = insn.Ud2
built (kind.Cmov cond) i s = insn.Cmov cond s.w (register_in s.first) s.second
built (kind.Set cond) i s = insn.Set cond s.first
built (kind.Bits op) i s = insn.Bits op s.w (register_in s.first) s.second
built kind.Bt i s = insn.Bt s.w (register_in s.first) (source_or (is_given i) s.second s.signed)
built kind.Bswap i s = insn.Bswap s.w (register_in s.first)
built kind.Endbr i s = insn.Endbr
built (kind.Xmm row) i s = insn.Xmm row (is_wide s.w) s.reg s.rm s.byte

-- the instruction that the parts are by the row
abbrev pub insn_of : Row → Width → Parts → Insn
insn_of row w p = built row.kind row.immediate (shape_of row w p)
