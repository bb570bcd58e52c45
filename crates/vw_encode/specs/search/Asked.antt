-- The operands of an instruction, each where a row of its kind would name it.
use Rattle.std.specs.Prelude.{ℕ, ℤ, pos, Option, None, Some}
use Rattle.vw_insn.specs.declared.registers.Reg.{Reg}
use Rattle.vw_insn.specs.declared.registers.Reg.TheVariants.{Rax}
use Rattle.vw_insn.specs.declared.registers.HighReg.TheVariants.{Ah, Ch, Dh, Bh}
use Rattle.vw_insn.specs.declared.operands.Base.TheVariants as base
use Rattle.vw_insn.specs.declared.operands.Mem.{Mem}
use Rattle.vw_insn.specs.declared.operands.Place.{Place}
use Rattle.vw_insn.specs.declared.operands.Place.TheVariants as place
use Rattle.vw_insn.specs.declared.operands.Source.{Source}
use Rattle.vw_insn.specs.declared.operands.Source.TheVariants as source
use Rattle.vw_insn.specs.declared.operands.Count.{Count}
use Rattle.vw_insn.specs.declared.operands.Count.TheVariants as count
use Rattle.vw_insn.specs.declared.operands.XmmOperand.{XmmOperand}
use Rattle.vw_insn.specs.declared.operands.XmmOperand.TheVariants as xmm
use Rattle.vw_insn.specs.declared.instruction.Insn.{Insn}
use Rattle.vw_insn.specs.declared.instruction.Insn.TheVariants as insn
use Rattle.vw_insn.specs.Words.{number}
use Rattle.vw_encode.specs.declared.asked.Asked.{Asked}

abbrev pub places : Place → Place → ℤ → Asked
places f s n = record { first = f; second = s; signed = n; byte = 0; word = 0; reg = 0; rm = xmm.Reg 0 }

abbrev pub with_word : Reg → ℕ → Asked
with_word r n = record { first = place.Reg r; second = place.Reg Rax; signed = pos 0; byte = 0; word = n; reg = 0; rm = xmm.Reg 0 }

abbrev pub with_byte : Place → ℕ → Asked
with_byte f n = record { first = f; second = place.Reg Rax; signed = pos 0; byte = n; word = 0; reg = 0; rm = xmm.Reg 0 }

abbrev pub on_xmm : ℕ → XmmOperand → ℕ → Asked
on_xmm r operand n = record { first = place.Reg Rax; second = place.Reg Rax; signed = pos 0; byte = n; word = 0; reg = r; rm = operand }

abbrev pub place_in : Source → Place
place_in (source.Place p) = p
place_in (source.Imm _) = place.Reg Rax

abbrev pub signed_in : Source → ℤ
signed_in (source.Place _) = pos 0
signed_in (source.Imm n) = n

abbrev pub signed_or_none : Option ℤ → ℤ
signed_or_none None = pos 0
signed_or_none (Some n) = n

abbrev pub count_in : Count → ℕ
count_in count.Cl = 0
count_in (count.Imm n) = n

abbrev pub operands_asked : Insn → Asked
operands_asked (insn.Alu op w dst src) = places dst (place_in src) (signed_in src)
operands_asked (insn.Push src) = places (place_in src) (place.Reg Rax) (signed_in src)
operands_asked (insn.Pop dst) = places (place.Reg dst) (place.Reg Rax) (pos 0)
operands_asked (insn.Extend signed from to dst src) = places (place.Reg dst) src (pos 0)
operands_asked (insn.Imul w dst src n) = places (place.Reg dst) src (signed_or_none n)
operands_asked (insn.Jcc c rel) = places (place.Reg Rax) (place.Reg Rax) rel
operands_asked (insn.Jump rel) = places (place.Reg Rax) (place.Reg Rax) rel
operands_asked (insn.Call rel) = places (place.Reg Rax) (place.Reg Rax) rel
operands_asked insn.Ret = places (place.Reg Rax) (place.Reg Rax) (pos 0)
operands_asked insn.Leave = places (place.Reg Rax) (place.Reg Rax) (pos 0)
operands_asked (insn.CallInd src) = places src (place.Reg Rax) (pos 0)
operands_asked (insn.JumpInd src) = places src (place.Reg Rax) (pos 0)
operands_asked (insn.Test w a b) = places a (place_in b) (signed_in b)
operands_asked (insn.Xchg w a b) = places (place.Reg a) (place.Reg b) (pos 0)
operands_asked (insn.Mov w dst src) = places dst (place_in src) (signed_in src)
operands_asked (insn.MovImm64 dst n) = with_word dst n
operands_asked (insn.Lea w dst mem) = places (place.Reg dst) (place.Mem mem) (pos 0)
operands_asked insn.Nop = places (place.Reg Rax) (place.Reg Rax) (pos 0)
operands_asked (insn.Widen w) = places (place.Reg Rax) (place.Reg Rax) (pos 0)
operands_asked (insn.SignA w) = places (place.Reg Rax) (place.Reg Rax) (pos 0)
operands_asked (insn.Shift op w dst by) = with_byte dst (count_in by)
operands_asked (insn.Unary op w dst) = places dst (place.Reg Rax) (pos 0)
operands_asked (insn.MulDiv op w src) = places src (place.Reg Rax) (pos 0)
operands_asked insn.Ud2 = places (place.Reg Rax) (place.Reg Rax) (pos 0)
operands_asked (insn.Cmov c w dst src) = places (place.Reg dst) src (pos 0)
operands_asked (insn.Set c dst) = places dst (place.Reg Rax) (pos 0)
operands_asked (insn.Bits op w dst src) = places (place.Reg dst) src (pos 0)
operands_asked (insn.Bt w a bit) = places (place.Reg a) (place_in bit) (signed_in bit)
operands_asked (insn.Bswap w dst) = places (place.Reg dst) (place.Reg Rax) (pos 0)
operands_asked insn.Endbr = places (place.Reg Rax) (place.Reg Rax) (pos 0)
operands_asked (insn.Xmm row wide r operand n) = on_xmm r operand n

-- the number by which a field names a register, 0 for memory (SDM volume 2, table 3-1)
abbrev pub place_number : Place → ℕ
place_number (place.Reg r) = number r
place_number (place.High Ah) = 4
place_number (place.High Ch) = 5
place_number (place.High Dh) = 6
place_number (place.High Bh) = 7
place_number (place.Mem _) = 0

abbrev pub xmm_number : XmmOperand → ℕ
xmm_number (xmm.Reg n) = n
xmm_number (xmm.Mem _) = 0

abbrev pub no_memory : Mem
no_memory = record { base = base.None; index = None; disp = pos 0 }

abbrev pub place_memory : Place → Mem
place_memory (place.Reg _) = no_memory
place_memory (place.High _) = no_memory
place_memory (place.Mem m) = m

abbrev pub xmm_memory : XmmOperand → Mem
xmm_memory (xmm.Reg _) = no_memory
xmm_memory (xmm.Mem m) = m
