-- The parts of an instruction by a row, where the prefix, REX, mod and the scale are chosen.
use Rattle.std.specs.Prelude.{ℕ, ◌+◌, ◌*◌, ◌/◌, ◌%◌, ◌==◌, Bool, true, false, if◌then◌else◌, Option, None, Some, List, [], ◌∷◌, ◌++◌, take}
use Rattle.std.specs.Int.{w32, w64, cast_unsigned, to_le_bytes}
use Rattle.vw_insn.specs.declared.registers.Reg.{Reg}
use Rattle.vw_insn.specs.declared.registers.Width.{Width}
use Rattle.vw_insn.specs.declared.registers.Width.TheVariants.{W8, W16, W32, W64}
use Rattle.vw_insn.specs.declared.operands.Base.{Base}
use Rattle.vw_insn.specs.declared.operands.Base.TheVariants as base
use Rattle.vw_insn.specs.declared.operands.Mem.{Mem}
use Rattle.vw_insn.specs.Words.{number}
use Rattle.vw_rows.specs.declared.forms.Operands.{Operands}
use Rattle.vw_rows.specs.declared.forms.Operands.TheVariants as ops
use Rattle.vw_rows.specs.declared.forms.Immediate.{Immediate}
use Rattle.vw_rows.specs.declared.forms.Immediate.TheVariants as imm
use Rattle.vw_rows.specs.declared.forms.Row.{Row}
use Rattle.vw_rows.specs.declared.patterns.Pattern.{Pattern}
use Rattle.vw_rows.specs.Parts.{Modrm, Parts}
use Rattle.vw_rows.specs.Layout.{has_modrm, displacement_length, immediate_length}
use Rattle.vw_encode.specs.declared.asked.Asked.{Asked}
use Rattle.vw_encode.specs.declared.candidate.Choice.{Choice}
use Rattle.vw_encode.specs.search.Asked.{place_number, xmm_number, place_memory, xmm_memory}

abbrev pub operand_number : Operands → Asked → ℕ
operand_number ops.None a = 0
operand_number ops.EG a = place_number a.first
operand_number ops.GE a = place_number a.second
operand_number ops.Accumulator a = 0
operand_number ops.E a = place_number a.first
operand_number ops.OpcodeReg a = 0
operand_number ops.WithoutRexB a = 0
operand_number ops.EndsInFa a = 0
operand_number ops.Xmm a = xmm_number a.rm

abbrev pub operand_memory : Operands → Asked → Mem
operand_memory ops.None a = place_memory a.first
operand_memory ops.EG a = place_memory a.first
operand_memory ops.GE a = place_memory a.second
operand_memory ops.Accumulator a = place_memory a.first
operand_memory ops.E a = place_memory a.first
operand_memory ops.OpcodeReg a = place_memory a.first
operand_memory ops.WithoutRexB a = place_memory a.first
operand_memory ops.EndsInFa a = place_memory a.first
operand_memory ops.Xmm a = xmm_memory a.rm

abbrev pub digit_or_zero : Option ℕ → ℕ
digit_or_zero None = 0
digit_or_zero (Some n) = n % 8

abbrev pub reg_field : Operands → Option ℕ → Asked → ℕ
reg_field ops.None d a = digit_or_zero d
reg_field ops.EG d a = place_number a.second % 8
reg_field ops.GE d a = place_number a.first % 8
reg_field ops.Accumulator d a = digit_or_zero d
reg_field ops.E d a = digit_or_zero d
reg_field ops.OpcodeReg d a = digit_or_zero d
reg_field ops.WithoutRexB d a = digit_or_zero d
reg_field ops.EndsInFa d a = digit_or_zero d
reg_field ops.Xmm d a = a.reg % 8

abbrev pub base_field : Base → ℕ
base_field (base.Reg r) = number r % 8
base_field base.None = 5
base_field base.Rip = 5

abbrev pub index_field : Option (Reg × ℕ) → ℕ
index_field None = 4
index_field (Some i) = number i.0 % 8

abbrev pub rm_in_memory : Option ℕ → Mem → ℕ
rm_in_memory None mem = base_field mem.base
rm_in_memory (Some _) mem = 4

abbrev pub rm_field : ℕ → Option ℕ → ℕ → Mem → ℕ
rm_field mode scale n mem = if mode == 3 then n % 8 else rm_in_memory scale mem

abbrev pub modrm_byte : Row → Choice → Asked → ℕ
modrm_byte row c a = c.mode * 64 + reg_field row.operands row.pattern.digit a * 8 + rm_field c.mode c.scale (operand_number row.operands a) (operand_memory row.operands a)

abbrev pub sib_field : Option ℕ → Mem → Option ℕ
sib_field None mem = None
sib_field (Some s) mem = Some (s * 64 + index_field mem.index * 8 + base_field mem.base)

abbrev pub opcode_byte : Pattern → Asked → ℕ
opcode_byte p a = if p.plus then p.opcode / 8 * 8 + place_number a.first % 8 else p.opcode

abbrev pub signed_block : Asked → List ℕ
signed_block a = to_le_bytes w32 (cast_unsigned w32 a.signed) ++ (0 ∷ 0 ∷ 0 ∷ 0 ∷ [])

abbrev pub full_block : Width → Asked → List ℕ
full_block W8 a = signed_block a
full_block W16 a = signed_block a
full_block W32 a = signed_block a
full_block W64 a = to_le_bytes w64 a.word

abbrev pub immediate_block : Immediate → Width → Asked → List ℕ
immediate_block imm.None w a = signed_block a
immediate_block imm.Ib w a = signed_block a
immediate_block imm.Iz w a = signed_block a
immediate_block imm.Ub w a = a.byte ∷ 0 ∷ 0 ∷ 0 ∷ 0 ∷ 0 ∷ 0 ∷ 0 ∷ []
immediate_block imm.Rel8 w a = signed_block a
immediate_block imm.Rel32 w a = signed_block a
immediate_block imm.By1 w a = signed_block a
immediate_block imm.Cl w a = signed_block a
immediate_block imm.Iv w a = full_block w a
immediate_block imm.OpcodeByte w a = 0xFA ∷ 0 ∷ 0 ∷ 0 ∷ 0 ∷ 0 ∷ 0 ∷ 0 ∷ []

abbrev pub displacement_of : ℕ → Option ℕ → Mem → List ℕ
displacement_of byte sib mem = take (displacement_length byte sib) (to_le_bytes w32 (cast_unsigned w32 mem.disp))

abbrev pub modrm_candidate : ℕ → Option ℕ → Mem → Modrm
modrm_candidate byte sib mem = record { byte = byte; sib = sib; disp = displacement_of byte sib mem }

abbrev pub optional_modrm : Bool → Modrm → Option Modrm
optional_modrm true m = Some m
optional_modrm false m = None

abbrev pub candidate : Row → Width → Choice → Asked → Parts
candidate row w c a = record {
  prefix = c.prefix;
  rex = c.rex;
  map = row.pattern.map;
  opcode = opcode_byte row.pattern a;
  modrm = optional_modrm (has_modrm row.operands) (modrm_candidate (modrm_byte row c a) (sib_field c.scale (operand_memory row.operands a)) (operand_memory row.operands a));
  imm = take (immediate_length row.immediate w) (immediate_block row.immediate w a);
}
