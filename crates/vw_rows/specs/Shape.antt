-- The operands of an instruction, read from its parts.
use Rattle.std.specs.Prelude.{ℕ, ◌+◌, ◌*◌, ◌-◌, ◌^◌, ◌%◌, ◌==◌, Bool, true, false, if◌then◌else◌, nat_lt, ℤ, pos, Option, None, Some, List, [], ◌∷◌}
use Rattle.std.proofs.Common.{get_or}
use Rattle.vw_insn.specs.declared.registers.Reg.{Reg}
use Rattle.vw_insn.specs.declared.registers.Reg.TheVariants.{Rax}
use Rattle.vw_insn.specs.declared.registers.HighReg.{HighReg}
use Rattle.vw_insn.specs.declared.registers.HighReg.TheVariants.{Ah, Ch, Dh, Bh}
use Rattle.vw_insn.specs.declared.registers.Width.{Width}
use Rattle.vw_insn.specs.declared.registers.Width.TheVariants.{W8, W16, W32, W64}
use Rattle.vw_insn.specs.declared.operands.Base.{Base}
use Rattle.vw_insn.specs.declared.operands.Base.TheVariants as base
use Rattle.vw_insn.specs.declared.operands.Mem.{Mem}
use Rattle.vw_insn.specs.declared.operands.Place.{Place}
use Rattle.vw_insn.specs.declared.operands.Place.TheVariants as place
use Rattle.vw_insn.specs.declared.operands.XmmOperand.{XmmOperand}
use Rattle.vw_insn.specs.declared.operands.XmmOperand.TheVariants as xmm
use Rattle.vw_insn.specs.Words.{register}
use Rattle.vw_rows.specs.declared.forms.Kind.{Kind}
use Rattle.vw_rows.specs.declared.forms.Kind.TheVariants as kind
use Rattle.vw_rows.specs.declared.forms.Operands.{Operands}
use Rattle.vw_rows.specs.declared.forms.Operands.TheVariants as ops
use Rattle.vw_rows.specs.declared.forms.Immediate.{Immediate}
use Rattle.vw_rows.specs.declared.forms.Immediate.TheVariants as imm
use Rattle.vw_rows.specs.declared.forms.Row.{Row}
use Rattle.vw_rows.specs.declared.shape.Shape.{Shape}
use Rattle.vw_rows.specs.Numbers.{signed_of, byte_of, unsigned_of}
use Rattle.vw_rows.specs.Parts.{Modrm, Parts, mode, reg, rm, scale, index, rex_r, rex_x, rex_b}
use Rattle.vw_rows.specs.Parts as parts
use Rattle.vw_rows.specs.Layout.{without_base}

-- the byte register of a number from 4 to 7 where there is no REX (SDM volume 2, table 3-1)
abbrev pub high_register : ℕ → HighReg
high_register n = get_or (Ah ∷ Ch ∷ Dh ∷ Bh ∷ []) (n - 4) Bh

abbrev pub has_rex : Option ℕ → Bool
has_rex None = false
has_rex (Some _) = true

-- without REX, byte registers 4 to 7 are ah, ch, dh, bh
abbrev pub byte_register : Bool → ℕ → Place
byte_register true n = place.Reg (register n)
byte_register false n = if nat_lt n 4 then place.Reg (register n) else place.High (high_register n)

-- the register of a number at a width
abbrev pub register_place : Width → Option ℕ → ℕ → Place
register_place W8 rex n = byte_register (has_rex rex) n
register_place W16 rex n = place.Reg (register n)
register_place W32 rex n = place.Reg (register n)
register_place W64 rex n = place.Reg (register n)

-- The base of memory: none, or rip where there is no SIB, where r/m or the SIB's base is 5 with mod 0; else
-- the register that r/m, or the SIB's base, and REX.B name (SDM volume 2, tables 2-2, 2-3 and 2-5, and
-- 2.2.1.6)
abbrev pub base_at : Option ℕ → ℕ → Option ℕ → Base
base_at rex byte None = if without_base byte None then base.Rip else base.Reg (register (rm byte + 8 * rex_b rex))
base_at rex byte (Some sib) = if without_base byte (Some sib) then base.None else base.Reg (register (parts.base sib + 8 * rex_b rex))

-- the index of memory, with REX.X, and its scale: 4 is none (SDM volume 2, table 2-3)
abbrev pub index_at : Option ℕ → Option ℕ → Option (Reg × ℕ)
index_at rex None = None
index_at rex (Some sib) = if index sib + 8 * rex_x rex == 4 then None else Some (register (index sib + 8 * rex_x rex), 2 ^ scale sib)

abbrev pub memory_at : Option ℕ → Modrm → Mem
memory_at rex m = record { base = base_at rex m.byte m.sib; index = index_at rex m.sib; disp = signed_of m.disp }

-- the operand of ModRM's r/m field, E: a register where mod is 3, else memory
abbrev pub rm_place : Width → Option ℕ → Option Modrm → Place
rm_place w rex None = place.Reg Rax
rm_place w rex (Some m) = if mode m.byte == 3 then register_place w rex (rm m.byte + 8 * rex_b rex) else place.Mem (memory_at rex m)

-- the register of ModRM's reg field, G
abbrev pub reg_number : Option ℕ → Option Modrm → ℕ
reg_number rex None = 0
reg_number rex (Some m) = reg m.byte + 8 * rex_r rex

-- E of an instruction on XMM registers
abbrev pub xmm_operand : Option ℕ → Option Modrm → XmmOperand
xmm_operand rex None = xmm.Reg 0
xmm_operand rex (Some m) = if mode m.byte == 3 then xmm.Reg (rm m.byte + 8 * rex_b rex) else xmm.Mem (memory_at rex m)

-- the width of E: that of the operation, but of an extension the width that it extends
abbrev pub rm_width : Kind → Width → Width
rm_width (kind.Extend _ from) w = from
rm_width _ w = w

-- the operand that the row names first, and the one that it names second; what it does not have is `Rax`
abbrev pub first_place : Operands → Kind → Width → Parts → Place
first_place ops.None kind w p = place.Reg Rax
first_place ops.EG kind w p = rm_place (rm_width kind w) p.rex p.modrm
first_place ops.GE kind w p = register_place w p.rex (reg_number p.rex p.modrm)
first_place ops.Accumulator kind w p = place.Reg Rax
first_place ops.E kind w p = rm_place (rm_width kind w) p.rex p.modrm
first_place ops.OpcodeReg kind w p = register_place w p.rex (p.opcode % 8 + 8 * rex_b p.rex)
first_place ops.WithoutRexB kind w p = place.Reg Rax
first_place ops.EndsInFa kind w p = place.Reg Rax
first_place ops.Xmm kind w p = place.Reg Rax

abbrev pub second_place : Operands → Kind → Width → Parts → Place
second_place ops.None kind w p = place.Reg Rax
second_place ops.EG kind w p = register_place w p.rex (reg_number p.rex p.modrm)
second_place ops.GE kind w p = rm_place (rm_width kind w) p.rex p.modrm
second_place ops.Accumulator kind w p = place.Reg Rax
second_place ops.E kind w p = place.Reg Rax
second_place ops.OpcodeReg kind w p = place.Reg Rax
second_place ops.WithoutRexB kind w p = place.Reg Rax
second_place ops.EndsInFa kind w p = place.Reg Rax
second_place ops.Xmm kind w p = place.Reg Rax

-- the operands of an instruction on XMM registers, by their numbers; else 0
abbrev pub xmm_register : Operands → Parts → ℕ
xmm_register ops.None p = 0
xmm_register ops.EG p = 0
xmm_register ops.GE p = 0
xmm_register ops.Accumulator p = 0
xmm_register ops.E p = 0
xmm_register ops.OpcodeReg p = 0
xmm_register ops.WithoutRexB p = 0
xmm_register ops.EndsInFa p = 0
xmm_register ops.Xmm p = reg_number p.rex p.modrm

abbrev pub xmm_second : Operands → Parts → XmmOperand
xmm_second ops.None p = xmm.Reg 0
xmm_second ops.EG p = xmm.Reg 0
xmm_second ops.GE p = xmm.Reg 0
xmm_second ops.Accumulator p = xmm.Reg 0
xmm_second ops.E p = xmm.Reg 0
xmm_second ops.OpcodeReg p = xmm.Reg 0
xmm_second ops.WithoutRexB p = xmm.Reg 0
xmm_second ops.EndsInFa p = xmm.Reg 0
xmm_second ops.Xmm p = xmm_operand p.rex p.modrm

-- the immediate as a signed number, where the row reads it so, else 0
abbrev pub signed_immediate : Immediate → List ℕ → ℤ
signed_immediate imm.None bytes = pos 0
signed_immediate imm.Ib bytes = signed_of bytes
signed_immediate imm.Iz bytes = signed_of bytes
signed_immediate imm.Ub bytes = pos 0
signed_immediate imm.Rel8 bytes = signed_of bytes
signed_immediate imm.Rel32 bytes = signed_of bytes
signed_immediate imm.By1 bytes = pos 0
signed_immediate imm.Cl bytes = pos 0
signed_immediate imm.Iv bytes = signed_of bytes
signed_immediate imm.OpcodeByte bytes = pos 0

-- the immediate as an unsigned byte, and 1 for a shift by 1, else 0
abbrev pub byte_immediate : Immediate → List ℕ → ℕ
byte_immediate imm.None bytes = 0
byte_immediate imm.Ib bytes = 0
byte_immediate imm.Iz bytes = 0
byte_immediate imm.Ub bytes = byte_of bytes
byte_immediate imm.Rel8 bytes = 0
byte_immediate imm.Rel32 bytes = 0
byte_immediate imm.By1 bytes = 1
byte_immediate imm.Cl bytes = 0
byte_immediate imm.Iv bytes = 0
byte_immediate imm.OpcodeByte bytes = 0

-- what the parts of an instruction of the row name
abbrev pub shape_of : Row → Width → Parts → Shape
shape_of row w p = record {
  w = w;
  first = first_place row.operands row.kind w p;
  second = second_place row.operands row.kind w p;
  signed = signed_immediate row.immediate p.imm;
  byte = byte_immediate row.immediate p.imm;
  word = unsigned_of p.imm;
  reg = xmm_register row.operands p;
  rm = xmm_second row.operands p;
}
