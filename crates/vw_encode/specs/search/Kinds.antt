-- The kinds of instructions by number, and the rows of each.
use Rattle.std.specs.Prelude.{ℕ, ◌+◌, ◌==◌, Bool, true, false, ◌&&◌, List, [], ◌∷◌, filter}
use denote.Bor.{Bor}
use denote.Enum.Declared.{tag_of}
use Rattle.vw_insn.specs.contracts.operations.AluOp.{the_type as alu_type}
use Rattle.vw_insn.specs.contracts.operations.Cond.{the_type as cond_type}
use Rattle.vw_insn.specs.contracts.operations.ShiftOp.{the_type as shift_type}
use Rattle.vw_insn.specs.contracts.operations.UnaryOp.{the_type as unary_type}
use Rattle.vw_insn.specs.contracts.operations.MulDivOp.{the_type as muldiv_type}
use Rattle.vw_insn.specs.contracts.operations.BitsOp.{the_type as bits_type}
use Rattle.vw_insn.specs.contracts.xmm.XmmRow.{the_type as xmm_type}
use Rattle.vw_insn.specs.declared.instruction.Insn.{Insn}
use Rattle.vw_insn.specs.declared.instruction.Insn.TheVariants as insn
use Rattle.vw_rows.specs.declared.forms.Kind.{Kind}
use Rattle.vw_rows.specs.declared.forms.Kind.TheVariants as kind
use Rattle.vw_rows.specs.declared.forms.Row.{Row}
use Rattle.vw_rows.specs.Rows.{rows}

-- The kinds of rows, from 0 on: an operation, a condition and a row of XMM instructions count by their
-- places in their enumerations. MOV of an immediate is a kind of MOV.
abbrev pub kind_number : Kind → ℕ
kind_number (kind.Alu o) = tag_of alu_type o
kind_number kind.Push = 8
kind_number kind.Pop = 9
kind_number (kind.Extend signed from) = 10
kind_number kind.Imul = 11
kind_number (kind.Jcc o) = 12 + tag_of cond_type o
kind_number kind.Jump = 28
kind_number kind.Call = 29
kind_number kind.Ret = 30
kind_number kind.Leave = 31
kind_number kind.CallInd = 32
kind_number kind.JumpInd = 33
kind_number kind.Test = 34
kind_number kind.Xchg = 35
kind_number kind.Mov = 36
kind_number kind.MovImm = 36
kind_number kind.Lea = 37
kind_number kind.Nop = 38
kind_number kind.Widen = 39
kind_number kind.SignA = 40
kind_number (kind.Shift o) = 41 + tag_of shift_type o
kind_number (kind.Unary o) = 46 + tag_of unary_type o
kind_number (kind.MulDiv o) = 50 + tag_of muldiv_type o
kind_number kind.Ud2 = 54
kind_number (kind.Cmov o) = 55 + tag_of cond_type o
kind_number (kind.Set o) = 71 + tag_of cond_type o
kind_number (kind.Bits o) = 87 + tag_of bits_type o
kind_number kind.Bt = 92
kind_number kind.Bswap = 93
kind_number kind.Endbr = 94
kind_number (kind.Xmm o) = 95 + tag_of xmm_type o

-- the kind of the rows that an instruction may be spelled by
abbrev pub kind_of : Insn → Kind
kind_of (insn.Alu o w dst src) = kind.Alu o
kind_of (insn.Push src) = kind.Push
kind_of (insn.Pop dst) = kind.Pop
kind_of (insn.Extend signed from to dst src) = kind.Extend signed from
kind_of (insn.Imul w dst src n) = kind.Imul
kind_of (insn.Jcc o rel) = kind.Jcc o
kind_of (insn.Jump rel) = kind.Jump
kind_of (insn.Call rel) = kind.Call
kind_of insn.Ret = kind.Ret
kind_of insn.Leave = kind.Leave
kind_of (insn.CallInd src) = kind.CallInd
kind_of (insn.JumpInd src) = kind.JumpInd
kind_of (insn.Test w a b) = kind.Test
kind_of (insn.Xchg w a b) = kind.Xchg
kind_of (insn.Mov w dst src) = kind.Mov
kind_of (insn.MovImm64 dst n) = kind.MovImm
kind_of (insn.Lea w dst mem) = kind.Lea
kind_of insn.Nop = kind.Nop
kind_of (insn.Widen w) = kind.Widen
kind_of (insn.SignA w) = kind.SignA
kind_of (insn.Shift o w dst by) = kind.Shift o
kind_of (insn.Unary o w dst) = kind.Unary o
kind_of (insn.MulDiv o w src) = kind.MulDiv o
kind_of insn.Ud2 = kind.Ud2
kind_of (insn.Cmov o w dst src) = kind.Cmov o
kind_of (insn.Set o dst) = kind.Set o
kind_of (insn.Bits o w dst src) = kind.Bits o
kind_of (insn.Bt w a bit) = kind.Bt
kind_of (insn.Bswap w dst) = kind.Bswap
kind_of insn.Endbr = kind.Endbr
kind_of (insn.Xmm o wide r operand n) = kind.Xmm o

abbrev pub insn_number : Insn → ℕ
insn_number i = kind_number (kind_of i)

-- the rows of a kind, in their order
unfoldable pub rows_of_kind : ℕ → List Row
rows_of_kind n = filter (λ r. kind_number r.kind == n) rows

-- these are the numbers of the rows, one by one
unfoldable pub are_numbers : List ℕ → List Row → Bool
are_numbers [] [] = true
are_numbers [] (r ∷ rs) = false
are_numbers (n ∷ ns) [] = false
are_numbers (n ∷ ns) (r ∷ rs) = n == r.number && are_numbers ns rs

-- the lists from a kind on
unfoldable pub kinds_agree : ℕ → List (Bor (List ℕ)) → Bool
kinds_agree n [] = n == 171
kinds_agree n (l ∷ ls) = are_numbers l.now (rows_of_kind n) && kinds_agree (n + 1) ls
