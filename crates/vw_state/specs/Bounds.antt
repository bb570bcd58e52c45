-- The bounds that the values of a function's states may have: so few that no chain of values rises for long.
use Rattle.std.specs.Prelude.{ℕ, zero, suc, ◌+◌, ◌^◌, ◌==◌, nat_lt, nat_le, ◌&&◌, if◌then◌else◌, List, [], ◌∷◌, ◌++◌, filter, Option, Some, None, Bool, true, false}
use Rattle.vw_insn.specs.declared.registers.Width.{Width}
use Rattle.vw_insn.specs.declared.operands.Source.{Source}
use Rattle.vw_insn.specs.declared.operands.Source.TheVariants as source
use Rattle.vw_insn.specs.declared.operations.AluOp.{AluOp}
use Rattle.vw_insn.specs.declared.operations.AluOp.TheVariants as alu
use Rattle.vw_insn.specs.declared.instruction.Insn.{Insn}
use Rattle.vw_insn.specs.declared.instruction.Insn.TheVariants as insn
use Rattle.vw_insn.specs.Words.{low, word_of}
use Rattle.vw_decode.specs.Lexing.{Found, insn_found, read}

-- an immediate operand as an unsigned number of the operand's width
abbrev pub immediate : Width → Source → Option ℕ
immediate w (source.Place p) = None
immediate w (source.Imm i) = Some (low w (word_of i))

-- CMP and AND bound a value by their immediate
abbrev pub is_bounding : AluOp → Bool
is_bounding alu.Add = false
is_bounding alu.Or = false
is_bounding alu.Adc = false
is_bounding alu.Sbb = false
is_bounding alu.And = true
is_bounding alu.Sub = false
is_bounding alu.Xor = false
is_bounding alu.Cmp = true

-- The immediate of CMP, AND and MOV. The 64-bit immediate of a MOV does not count.
abbrev pub counted_immediate : Insn → Option ℕ
counted_immediate (insn.Alu op w dst src) = if is_bounding op then immediate w src else None
counted_immediate (insn.Push src) = None
counted_immediate (insn.Pop dst) = None
counted_immediate (insn.Extend signed from to dst src) = None
counted_immediate (insn.Imul w dst src imm) = None
counted_immediate (insn.Jcc cond rel) = None
counted_immediate (insn.Jump rel) = None
counted_immediate (insn.Call rel) = None
counted_immediate insn.Ret = None
counted_immediate insn.Leave = None
counted_immediate (insn.CallInd src) = None
counted_immediate (insn.JumpInd src) = None
counted_immediate (insn.Test w a b) = None
counted_immediate (insn.Xchg w a b) = None
counted_immediate (insn.Mov w dst src) = immediate w src
counted_immediate (insn.MovImm64 dst imm) = None
counted_immediate (insn.Lea w dst mem) = None
counted_immediate insn.Nop = None
counted_immediate (insn.Widen w) = None
counted_immediate (insn.SignA w) = None
counted_immediate (insn.Shift op w dst by) = None
counted_immediate (insn.Unary op w dst) = None
counted_immediate (insn.MulDiv op w src) = None
counted_immediate insn.Ud2 = None
counted_immediate (insn.Cmov cond w dst src) = None
counted_immediate (insn.Set cond dst) = None
counted_immediate (insn.Bits op w dst src) = None
counted_immediate (insn.Bt w a bit) = None
counted_immediate (insn.Bswap w dst) = None
counted_immediate insn.Endbr = None
counted_immediate (insn.Xmm row wide reg rm imm) = None

abbrev pub is_in_range : ℕ → Bool
is_in_range k = nat_le 1 k && nat_le k (2 ^ 32)

-- an immediate and the next number, where they are 1 to 2^32
abbrev pub bounds_near : Option ℕ → List ℕ
bounds_near None = []
bounds_near (Some i) = filter is_in_range (i ∷ (i + 1) ∷ [])

abbrev pub bounds_read : Option Found → List ℕ
bounds_read None = []
bounds_read (Some f) = bounds_near (counted_immediate (insn_found f))

-- those of the instruction that is read at each byte of some code
abbrev pub bounds_in : List ℕ → List ℕ
bounds_in [] = []
bounds_in (byte ∷ rest) = bounds_read (read (byte ∷ rest)) ++ bounds_in rest

-- so many powers of two, from 2^n on
abbrev pub powers_from : ℕ → ℕ → List ℕ
powers_from n zero = []
powers_from n (suc more) = 2 ^ n ∷ powers_from (suc n) more

-- a number comes to its place among ascending ones, once
abbrev pub place_bound : ℕ → List ℕ → List ℕ
place_bound k [] = k ∷ []
place_bound k (j ∷ rest) = if nat_lt k j then k ∷ j ∷ rest else (if k == j then j ∷ rest else j ∷ place_bound k rest)

-- the numbers of a list, ascending, each once
abbrev pub ascending : List ℕ → List ℕ
ascending [] = []
ascending (k ∷ rest) = place_bound k (ascending rest)

-- The bounds of a function with this code, in a module whose tables have so many entries: 2^0 to 2^33, the numbers of
-- entries from 1 on, and the numbers near the immediates of the instructions that begin at any byte of the code.
unfoldable pub bounds_of : List ℕ → List ℕ → List ℕ
bounds_of code lengths = ascending (powers_from 0 34 ++ filter (nat_le 1) lengths ++ bounds_in code)
