-- Names of registers and instructions in lower case, as ASCII text.
use Rattle.std.specs.Prelude.{ℕ, List, codes}
use Rattle.vw_insn.specs.declared.registers.Reg.{Reg}
use Rattle.vw_insn.specs.declared.registers.Reg.TheVariants.{Rax, Rcx, Rdx, Rbx, Rsp, Rbp, Rsi, Rdi, R8, R9, R10, R11, R12, R13, R14, R15}
use Rattle.vw_insn.specs.declared.registers.HighReg.{HighReg}
use Rattle.vw_insn.specs.declared.registers.HighReg.TheVariants.{Ah, Ch, Dh, Bh}
use Rattle.vw_insn.specs.declared.registers.Width.{Width}
use Rattle.vw_insn.specs.declared.registers.Width.TheVariants.{W8, W16, W32, W64}
use Rattle.vw_insn.specs.declared.operations.Cond.{Cond}
use Rattle.vw_insn.specs.declared.operations.Cond.TheVariants.{O, No, B, Ae, E, Ne, Be, A, S, Ns, P, Np, L, Ge, Le, G}
use Rattle.vw_insn.specs.declared.operations.AluOp.{AluOp}
use Rattle.vw_insn.specs.declared.operations.AluOp.TheVariants.{Add, Or, Adc, Sbb, And, Sub, Xor, Cmp}
use Rattle.vw_insn.specs.declared.operations.ShiftOp.{ShiftOp}
use Rattle.vw_insn.specs.declared.operations.ShiftOp.TheVariants.{Rol, Ror, Shl, Shr, Sar}
use Rattle.vw_insn.specs.declared.operations.UnaryOp.{UnaryOp}
use Rattle.vw_insn.specs.declared.operations.UnaryOp.TheVariants.{Not, Neg, Inc, Dec}
use Rattle.vw_insn.specs.declared.operations.MulDivOp.{MulDivOp}
use Rattle.vw_insn.specs.declared.operations.MulDivOp.TheVariants.{Mul, Imul, Div, Idiv}
use Rattle.vw_insn.specs.declared.operations.BitsOp.{BitsOp}
use Rattle.vw_insn.specs.declared.operations.BitsOp.TheVariants.{Bsf, Bsr, Popcnt, Tzcnt, Lzcnt}

-- the name of the 64 bits of a register (SDM volume 1, 3.4.1.1, table 3-2)
abbrev pub reg64_text : Reg → List ℕ
reg64_text Rax = codes "rax"
reg64_text Rcx = codes "rcx"
reg64_text Rdx = codes "rdx"
reg64_text Rbx = codes "rbx"
reg64_text Rsp = codes "rsp"
reg64_text Rbp = codes "rbp"
reg64_text Rsi = codes "rsi"
reg64_text Rdi = codes "rdi"
reg64_text R8 = codes "r8"
reg64_text R9 = codes "r9"
reg64_text R10 = codes "r10"
reg64_text R11 = codes "r11"
reg64_text R12 = codes "r12"
reg64_text R13 = codes "r13"
reg64_text R14 = codes "r14"
reg64_text R15 = codes "r15"

-- the name of the low 32 bits of a register (SDM volume 1, 3.4.1.1, table 3-2)
abbrev pub reg32_text : Reg → List ℕ
reg32_text Rax = codes "eax"
reg32_text Rcx = codes "ecx"
reg32_text Rdx = codes "edx"
reg32_text Rbx = codes "ebx"
reg32_text Rsp = codes "esp"
reg32_text Rbp = codes "ebp"
reg32_text Rsi = codes "esi"
reg32_text Rdi = codes "edi"
reg32_text R8 = codes "r8d"
reg32_text R9 = codes "r9d"
reg32_text R10 = codes "r10d"
reg32_text R11 = codes "r11d"
reg32_text R12 = codes "r12d"
reg32_text R13 = codes "r13d"
reg32_text R14 = codes "r14d"
reg32_text R15 = codes "r15d"

-- the name of the low 16 bits of a register (SDM volume 1, 3.4.1.1, table 3-2)
abbrev pub reg16_text : Reg → List ℕ
reg16_text Rax = codes "ax"
reg16_text Rcx = codes "cx"
reg16_text Rdx = codes "dx"
reg16_text Rbx = codes "bx"
reg16_text Rsp = codes "sp"
reg16_text Rbp = codes "bp"
reg16_text Rsi = codes "si"
reg16_text Rdi = codes "di"
reg16_text R8 = codes "r8w"
reg16_text R9 = codes "r9w"
reg16_text R10 = codes "r10w"
reg16_text R11 = codes "r11w"
reg16_text R12 = codes "r12w"
reg16_text R13 = codes "r13w"
reg16_text R14 = codes "r14w"
reg16_text R15 = codes "r15w"

-- the name of the low 8 bits of a register (SDM volume 1, 3.4.1.1, table 3-2)
abbrev pub reg8_text : Reg → List ℕ
reg8_text Rax = codes "al"
reg8_text Rcx = codes "cl"
reg8_text Rdx = codes "dl"
reg8_text Rbx = codes "bl"
reg8_text Rsp = codes "spl"
reg8_text Rbp = codes "bpl"
reg8_text Rsi = codes "sil"
reg8_text Rdi = codes "dil"
reg8_text R8 = codes "r8b"
reg8_text R9 = codes "r9b"
reg8_text R10 = codes "r10b"
reg8_text R11 = codes "r11b"
reg8_text R12 = codes "r12b"
reg8_text R13 = codes "r13b"
reg8_text R14 = codes "r14b"
reg8_text R15 = codes "r15b"

-- the name of bits 8 to 15 of a register (SDM volume 1, 3.4.1.1)
abbrev pub high_text : HighReg → List ℕ
high_text Ah = codes "ah"
high_text Ch = codes "ch"
high_text Dh = codes "dh"
high_text Bh = codes "bh"

-- how a condition ends the mnemonics j.., set.. and cmov.. (SDM volume 2, "Jcc")
abbrev pub cond_text : Cond → List ℕ
cond_text O = codes "o"
cond_text No = codes "no"
cond_text B = codes "b"
cond_text Ae = codes "ae"
cond_text E = codes "e"
cond_text Ne = codes "ne"
cond_text Be = codes "be"
cond_text A = codes "a"
cond_text S = codes "s"
cond_text Ns = codes "ns"
cond_text P = codes "p"
cond_text Np = codes "np"
cond_text L = codes "l"
cond_text Ge = codes "ge"
cond_text Le = codes "le"
cond_text G = codes "g"

-- the mnemonics of arithmetic and logic
abbrev pub alu_text : AluOp → List ℕ
alu_text Add = codes "add"
alu_text Or = codes "or"
alu_text Adc = codes "adc"
alu_text Sbb = codes "sbb"
alu_text And = codes "and"
alu_text Sub = codes "sub"
alu_text Xor = codes "xor"
alu_text Cmp = codes "cmp"

-- the mnemonics of rotates and shifts
abbrev pub shift_text : ShiftOp → List ℕ
shift_text Rol = codes "rol"
shift_text Ror = codes "ror"
shift_text Shl = codes "shl"
shift_text Shr = codes "shr"
shift_text Sar = codes "sar"

-- the mnemonics of operations on one operand
abbrev pub unary_text : UnaryOp → List ℕ
unary_text Not = codes "not"
unary_text Neg = codes "neg"
unary_text Inc = codes "inc"
unary_text Dec = codes "dec"

-- the mnemonics of multiplication and division
abbrev pub muldiv_text : MulDivOp → List ℕ
muldiv_text Mul = codes "mul"
muldiv_text Imul = codes "imul"
muldiv_text Div = codes "div"
muldiv_text Idiv = codes "idiv"

-- the mnemonics of bit scans and counts
abbrev pub bits_text : BitsOp → List ℕ
bits_text Bsf = codes "bsf"
bits_text Bsr = codes "bsr"
bits_text Popcnt = codes "popcnt"
bits_text Tzcnt = codes "tzcnt"
bits_text Lzcnt = codes "lzcnt"

-- the name of the low bits of a register, at a width
abbrev pub reg_text : Width → Reg → List ℕ
reg_text W8 r = reg8_text r
reg_text W16 r = reg16_text r
reg_text W32 r = reg32_text r
reg_text W64 r = reg64_text r
