-- Words of an instruction: widths, the parts of a register, signed numbers, flags.
use Rattle.std.specs.Prelude.{ℕ, ◌+◌, ◌-◌, ◌*◌, ◌/◌, ◌%◌, ◌^◌, ◌==◌, Bool, ℤ, pos, negsuc, if◌then◌else◌, List, [], ◌∷◌}
use Rattle.std.proofs.Common.{get_or}
use Rattle.vw_insn.specs.declared.registers.Reg.{Reg}
use Rattle.vw_insn.specs.declared.registers.Reg.TheVariants.{Rax, Rcx, Rdx, Rbx, Rsp, Rbp, Rsi, Rdi, R8, R9, R10, R11, R12, R13, R14, R15}
use Rattle.vw_insn.specs.declared.registers.HighReg.{HighReg}
use Rattle.vw_insn.specs.declared.registers.HighReg.TheVariants.{Ah, Ch, Dh, Bh}
use Rattle.vw_insn.specs.declared.registers.Width.{Width}
use Rattle.vw_insn.specs.declared.registers.Width.TheVariants.{W8, W16, W32, W64}

-- the number of a register (SDM volume 2, table 3-1)
abbrev pub number : Reg → ℕ
number Rax = 0
number Rcx = 1
number Rdx = 2
number Rbx = 3
number Rsp = 4
number Rbp = 5
number Rsi = 6
number Rdi = 7
number R8 = 8
number R9 = 9
number R10 = 10
number R11 = 11
number R12 = 12
number R13 = 13
number R14 = 14
number R15 = 15

-- the general registers in the order of their numbers
abbrev pub numbered : List Reg
numbered = Rax ∷ Rcx ∷ Rdx ∷ Rbx ∷ Rsp ∷ Rbp ∷ Rsi ∷ Rdi
    ∷ R8 ∷ R9 ∷ R10 ∷ R11 ∷ R12 ∷ R13 ∷ R14 ∷ R15 ∷ []

-- the register of a number from 0 to 15
abbrev pub register : ℕ → Reg
register n = get_or numbered n R15

-- the register of which a high byte is bits 8 to 15 (SDM volume 1, 3.4.1.1)
abbrev pub register_of : HighReg → Reg
register_of Ah = Rax
register_of Ch = Rcx
register_of Dh = Rdx
register_of Bh = Rbx

-- how many bytes an operand of a width has
abbrev pub bytes_in : Width → ℕ
bytes_in W8 = 1
bytes_in W16 = 2
bytes_in W32 = 4
bytes_in W64 = 8

-- the low bits of a word; x is below 2 ^ 64
abbrev pub low : Width → ℕ → ℕ
low W8 x = x % 2 ^ 8
low W16 x = x % 2 ^ 16
low W32 x = x % 2 ^ 32
low W64 x = x

-- a register in which x, a number of this width, was written: 32 bits clear the upper half, and 8
-- or 16 bits keep the others (SDM volume 1, 3.4.1.1)
abbrev pub with_low : Width → ℕ → ℕ → ℕ
with_low W8 old x = old / 2 ^ 8 * 2 ^ 8 + x
with_low W16 old x = old / 2 ^ 16 * 2 ^ 16 + x
with_low W32 old x = x
with_low W64 old x = x

-- a register in whose bits 8 to 15 x, a number of 8 bits, was written
abbrev pub with_high : ℕ → ℕ → ℕ
with_high old x = old / 2 ^ 16 * 2 ^ 16 + x * 2 ^ 8 + old % 2 ^ 8

-- a signed number as a word of 64 bits, modulo 2 ^ 64 (SDM volume 1, 4.2.1.2)
abbrev pub word_of : ℤ → ℕ
word_of (pos n) = n % 2 ^ 64
word_of (negsuc n) = 2 ^ 64 - 1 - n % 2 ^ 64

-- the sixteen general registers, by number
abbrev pub Registers : Type 0
Registers = ℕ → ℕ

abbrev pub put : Registers → ℕ → ℕ → Registers
put registers r value = λ q. if q == r then value else registers q

-- the status flags that instructions test (SDM volume 1, 3.4.3.1)
pub record Flags : Type 0 where
  pub carry : Bool
  pub parity : Bool
  pub is_zero : Bool
  pub sign : Bool
  pub overflow : Bool
