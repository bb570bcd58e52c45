-- Which instructions an opcode row can give, field by field: the condition of all that takes an
-- instruction as an argument.
use Rattle.std.specs.Prelude.{◌≡◌, ◌≢◌, ℕ, ◌<◌, pos, negsuc, ◌≤ℤ◌, ◌⊎◌, Option, None, Some}
use Rattle.vw_insn.specs.declared.registers.Reg.{Reg}
use Rattle.vw_insn.specs.declared.registers.Reg.TheVariants.{Rsp}
use Rattle.vw_insn.specs.declared.registers.Width.{Width}
use Rattle.vw_insn.specs.declared.registers.Width.TheVariants.{W8, W16, W32, W64}
use Rattle.vw_insn.specs.declared.operands.Base.TheVariants.{Rip}
use Rattle.vw_insn.specs.declared.operands.Mem.{Mem}
use Rattle.vw_insn.specs.declared.operands.Place.{Place}
use Rattle.vw_insn.specs.declared.operands.Place.TheVariants as place
use Rattle.vw_insn.specs.declared.operands.Source.{Source}
use Rattle.vw_insn.specs.declared.operands.Source.TheVariants as source
use Rattle.vw_insn.specs.declared.operands.XmmOperand.{XmmOperand}
use Rattle.vw_insn.specs.declared.operands.XmmOperand.TheVariants as xmm
use Rattle.vw_insn.specs.declared.instruction.Insn.{Insn}
use Rattle.vw_insn.specs.declared.instruction.Insn.TheVariants.{Alu, Push, Pop, Extend, Imul, Jcc, Jump, Call, Ret, Leave, CallInd, JumpInd, Test, Xchg, Mov, MovImm64, Lea, Nop, Widen, SignA, Shift, Unary, MulDiv, Ud2, Cmov, Set, Bits, Bt, Bswap, Endbr, Xmm}

-- an index that SIB can spell (SDM volume 2, table 2-3): not rsp, with scale 1, 2, 4 or 8
abbrev pub IsIndex : Option (Reg × ℕ) → Type 0
IsIndex None = Unit {0}
IsIndex (Some index) = (index.0 ≢ Rsp) × ((index.1 ≡ 1) ⊎ (index.1 ≡ 2) ⊎ (index.1 ≡ 4) ⊎ (index.1 ≡ 8))

-- a memory operand that ModRM and SIB can spell (SDM volume 2, tables 2-2 and 2-3, and 2.2.1.6)
pub record IsMem (mem : Mem) : Type 0 where
  pub index : IsIndex mem.index
  pub rip : mem.base ≡ Rip → mem.index ≡ None

-- a register, one of ah, ch, dh, bh, or memory: an operand of 8 bits can be each of them
abbrev pub IsPlace : Place → Type 0
IsPlace (place.Reg _) = Unit {0}
IsPlace (place.High _) = Unit {0}
IsPlace (place.Mem mem) = IsMem mem

-- a register or memory: an operand that is never of 8 bits
abbrev pub IsFullPlace : Place → Type 0
IsFullPlace (place.Reg _) = Unit {0}
IsFullPlace (place.High _) = ⊥
IsFullPlace (place.Mem mem) = IsMem mem

abbrev pub IsSource : Source → Type 0
IsSource (source.Place p) = IsPlace p
IsSource (source.Imm _) = Unit {0}

abbrev pub IsFullSource : Source → Type 0
IsFullSource (source.Place p) = IsFullPlace p
IsFullSource (source.Imm _) = Unit {0}

-- a register, one of ah, ch, dh, bh, or an immediate: test's second operand is no memory
abbrev pub IsTested : Source → Type 0
IsTested (source.Place (place.Reg _)) = Unit {0}
IsTested (source.Place (place.High _)) = Unit {0}
IsTested (source.Place (place.Mem _)) = ⊥
IsTested (source.Imm _) = Unit {0}

-- a register, or a sign-extended byte
abbrev pub IsBitNumber : Source → Type 0
IsBitNumber (source.Place (place.Reg _)) = Unit {0}
IsBitNumber (source.Place (place.High _)) = ⊥
IsBitNumber (source.Place (place.Mem _)) = ⊥
IsBitNumber (source.Imm n) = (negsuc 127 ≤ℤ n) × (n ≤ℤ pos 127)

-- 16, 32 or 64 bits
abbrev pub IsWord : Width → Type 0
IsWord W8 = ⊥
IsWord W16 = Unit {0}
IsWord W32 = Unit {0}
IsWord W64 = Unit {0}

-- 32 or 64 bits
abbrev pub IsWide : Width → Type 0
IsWide W8 = ⊥
IsWide W16 = ⊥
IsWide W32 = Unit {0}
IsWide W64 = Unit {0}

-- 8, 16 or 32 bits
abbrev pub IsNarrow : Width → Type 0
IsNarrow W8 = Unit {0}
IsNarrow W16 = Unit {0}
IsNarrow W32 = Unit {0}
IsNarrow W64 = ⊥

-- a register's number, or memory
abbrev pub IsXmmOperand : XmmOperand → Type 0
IsXmmOperand (xmm.Reg n) = n < 16
IsXmmOperand (xmm.Mem mem) = IsMem mem

-- each field is one that some opcode row can give for that instruction
abbrev pub IsListed : Insn → Type 0
IsListed (Alu op w dst src) = IsPlace dst × IsSource src
IsListed (Push src) = IsFullSource src
IsListed (Pop dst) = Unit {0}
IsListed (Extend signed from to dst src) = IsNarrow from × IsWide to × IsPlace src
IsListed (Imul w dst src imm) = IsWord w × IsFullPlace src
IsListed (Jcc cond rel) = Unit {0}
IsListed (Jump rel) = Unit {0}
IsListed (Call rel) = Unit {0}
IsListed Ret = Unit {0}
IsListed Leave = Unit {0}
IsListed (CallInd src) = IsFullPlace src
IsListed (JumpInd src) = IsFullPlace src
IsListed (Test w a b) = IsPlace a × IsTested b
IsListed (Xchg w a b) = IsWord w
IsListed (Mov w dst src) = IsPlace dst × IsSource src
IsListed (MovImm64 dst imm) = Unit {0}
IsListed (Lea w dst mem) = IsWord w × IsMem mem
IsListed Nop = Unit {0}
IsListed (Widen w) = IsWord w
IsListed (SignA w) = IsWord w
IsListed (Shift op w dst by) = IsPlace dst
IsListed (Unary op w dst) = IsPlace dst
IsListed (MulDiv op w src) = IsPlace src
IsListed Ud2 = Unit {0}
IsListed (Cmov cond w dst src) = IsWord w × IsFullPlace src
IsListed (Set cond dst) = IsPlace dst
IsListed (Bits op w dst src) = IsWord w × IsFullPlace src
IsListed (Bt w a bit) = IsWord w × IsBitNumber bit
IsListed (Bswap w dst) = IsWide w
IsListed Endbr = Unit {0}
IsListed (Xmm row wide reg rm imm) = (reg < 16) × IsXmmOperand rm
