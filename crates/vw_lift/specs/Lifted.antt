-- The statements of each instruction, in order. They say at most what the instruction does: where a result or flags
-- are of no use to an analysis, they are left open. Every list ends with one Flow.
--
-- An operand in memory is loaded to tmp first, and a result that goes to memory is stored from tmp. tmp also stands for
-- the byte of ah, ch, dh or bh as an operand, of which nothing is known. These four have 8 bits (SDM volume 1,
-- 3.4.1.1), and where one is written any word is in the register that it is a part of.
use Rattle.std.specs.Prelude.{ℕ, ◌==◌, Bool, true, false, if◌then◌else◌, ◌&&◌, ℤ, pos, Option, None, Some, List, [], ◌∷◌, ◌++◌}
use Rattle.vw_insn.specs.declared.registers.Width.{Width}
use Rattle.vw_insn.specs.declared.registers.Width.TheVariants.{W8, W16, W32, W64}
use Rattle.vw_insn.specs.declared.registers.Reg.{Reg}
use Rattle.vw_insn.specs.declared.registers.Reg.TheVariants.{Rax, Rdx, Rsp, Rbp}
use Rattle.vw_insn.specs.declared.operands.Mem.{Mem}
use Rattle.vw_insn.specs.declared.operands.Place.{Place}
use Rattle.vw_insn.specs.declared.operands.Place.TheVariants as place
use Rattle.vw_insn.specs.declared.operands.Source.{Source}
use Rattle.vw_insn.specs.declared.operands.Source.TheVariants as source
use Rattle.vw_insn.specs.declared.operands.Count.{Count}
use Rattle.vw_insn.specs.declared.operands.Count.TheVariants as count
use Rattle.vw_insn.specs.declared.operands.XmmOperand.{XmmOperand}
use Rattle.vw_insn.specs.declared.operands.XmmOperand.TheVariants as xmm
use Rattle.vw_insn.specs.declared.operations.AluOp.{AluOp}
use Rattle.vw_insn.specs.declared.operations.AluOp.TheVariants as alu
use Rattle.vw_insn.specs.declared.operations.ShiftOp.{ShiftOp}
use Rattle.vw_insn.specs.declared.operations.ShiftOp.TheVariants as shift
use Rattle.vw_insn.specs.declared.operations.UnaryOp.{UnaryOp}
use Rattle.vw_insn.specs.declared.operations.UnaryOp.TheVariants as unary
use Rattle.vw_insn.specs.declared.xmm.XmmRow.{XmmRow}
use Rattle.vw_insn.specs.declared.xmm.XmmRole.{XmmRole}
use Rattle.vw_insn.specs.declared.xmm.XmmRole.TheVariants as role
use Rattle.vw_insn.specs.declared.instruction.Insn.{Insn}
use Rattle.vw_insn.specs.declared.instruction.Insn.TheVariants as insn
use Rattle.vw_insn.specs.Words.{number, register, register_of, bytes_in, low, word_of}
use Rattle.vw_insn.specs.XmmTable.{xmm_role, xmm_size, is_xmm_store}
use Rattle.vw_insn.specs.Effect.{at_rsp, below_rsp}
use Rattle.vw_stmt.specs.declared.operands.Var.{Var}
use Rattle.vw_stmt.specs.declared.operands.Var.TheVariants as var
use Rattle.vw_stmt.specs.declared.operands.Operand.{Operand}
use Rattle.vw_stmt.specs.declared.operands.Operand.TheVariants as operand
use Rattle.vw_stmt.specs.declared.operands.Compare.{Compare}
use Rattle.vw_stmt.specs.declared.statement.Flow.{Flow}
use Rattle.vw_stmt.specs.declared.statement.Flow.TheVariants as flow
use Rattle.vw_stmt.specs.declared.statement.Stmt.{Stmt}
use Rattle.vw_stmt.specs.declared.statement.Stmt.TheVariants as stmt

-- where the operand is found once memory was loaded
abbrev pub var_of : Place → Var
var_of (place.Reg r) = var.Reg r
var_of (place.High h) = var.Tmp
var_of (place.Mem mem) = var.Tmp

abbrev pub operand_of : Source → Operand
operand_of (source.Place p) = operand.Var (var_of p)
operand_of (source.Imm i) = operand.Imm i

-- a number of a width is loaded to tmp
abbrev pub load_tmp : Width → Mem → Stmt
load_tmp w mem = stmt.Load var.Tmp (bytes_in w) w false mem

-- an operand in memory is loaded to tmp, and any other stays where it is
abbrev pub fetched : Width → Place → List Stmt
fetched w (place.Reg r) = []
fetched w (place.High h) = []
fetched w (place.Mem mem) = load_tmp w mem ∷ []

abbrev pub fetched_source : Width → Source → List Stmt
fetched_source w (source.Place p) = fetched w p
fetched_source w (source.Imm i) = []

-- any number of a width is written to a place
abbrev pub left_open : Width → Place → List Stmt
left_open w (place.Reg r) = stmt.Open (var.Reg r) w ∷ []
left_open w (place.High h) = stmt.Open (var.Reg (register_of h)) W8 ∷ []
left_open w (place.Mem mem) = stmt.Open var.Tmp w ∷ stmt.Store mem (bytes_in w) (operand.Var var.Tmp) ∷ []

-- any flags
abbrev pub any_flags : Stmt
any_flags = stmt.Flags None

-- whether this operand is the register r
abbrev pub is_itself : Reg → Source → Bool
is_itself r (source.Place (place.Reg q)) = number r == number q
is_itself r (source.Place (place.High h)) = false
is_itself r (source.Place (place.Mem mem)) = false
is_itself r (source.Imm i) = false

-- XOR and SUB of 32 or 64 bits: of a register with itself they give 0
abbrev pub cancels : AluOp → Width → Bool
cancels alu.Xor W32 = true
cancels alu.Xor W64 = true
cancels alu.Sub W32 = true
cancels alu.Sub W64 = true
cancels op w = false

-- the register that ADD, OR, ADC, SBB, AND, SUB or XOR writes, where the second operand is another: ADD and SUB of 64
-- bits and AND of 32 and 64 bits are exact
abbrev pub computed : AluOp → Width → Reg → Source → Stmt
computed alu.Add W64 r src = stmt.Sum (var.Reg r) (var.Reg r) (operand_of src) false
computed alu.Sub W64 r src = stmt.Sum (var.Reg r) (var.Reg r) (operand_of src) true
computed alu.And W32 r src = stmt.And (var.Reg r) W32 (var.Reg r) (operand_of src)
computed alu.And W64 r src = stmt.And (var.Reg r) W64 (var.Reg r) (operand_of src)
computed op w r src = stmt.Open (var.Reg r) w

-- what they write
abbrev pub alu_written : AluOp → Width → Place → Source → List Stmt
alu_written op w (place.Reg r) src = (if cancels op w && is_itself r src then stmt.Set (var.Reg r) 0 else computed op w r src) ∷ []
alu_written op w (place.High h) src = left_open w (place.High h)
alu_written op w (place.Mem mem) src = left_open w (place.Mem mem)

-- What CMP compares, once memory was loaded. There is no opcode with both operands in memory, and none of more than
-- 8 bits with ah, ch, dh or bh: so that one of the two is in tmp at most.
abbrev pub compared : Width → Place → Source → Option Compare
compared w (place.Reg r) src = Some (record { w = w; a = var.Reg r; b = operand_of src })
compared w (place.Mem mem) (source.Place (place.Reg q)) = Some (record { w = w; a = var.Tmp; b = operand.Var (var.Reg q) })
compared w (place.Mem mem) (source.Imm i) = Some (record { w = w; a = var.Tmp; b = operand.Imm i })
compared w dst src = None

-- the comparison that flags are known to be of: one of 32 or 64 bits
abbrev pub compared_at : Width → Place → Source → Option Compare
compared_at W8 dst src = None
compared_at W16 dst src = None
compared_at W32 dst src = compared W32 dst src
compared_at W64 dst src = compared W64 dst src

-- CMP sets flags alone, and the others write their result too
abbrev pub alu_steps : AluOp → Width → Place → Source → List Stmt
alu_steps alu.Cmp w dst src = stmt.Flags (compared_at w dst src) ∷ []
alu_steps op w dst src = any_flags ∷ alu_written op w dst src

-- SHL of 64 bits by 4 is exact
abbrev pub is_times_16 : ShiftOp → Width → Count → Bool
is_times_16 shift.Shl W64 (count.Imm n) = n == 4
is_times_16 op w by = false

abbrev pub shift_steps : ShiftOp → Width → Place → Count → List Stmt
shift_steps op w (place.Reg r) by = any_flags ∷ (if is_times_16 op w by then stmt.Shl (var.Reg r) else stmt.Open (var.Reg r) w) ∷ []
shift_steps op w (place.High h) by = any_flags ∷ left_open w (place.High h)
shift_steps op w (place.Mem mem) by = any_flags ∷ left_open w (place.Mem mem)

-- NEG, INC and DEC write flags, and NOT writes none
abbrev pub unary_steps : UnaryOp → Width → Place → List Stmt
unary_steps unary.Not w dst = left_open w dst
unary_steps op w dst = any_flags ∷ left_open w dst

-- MUL, IMUL, DIV and IDIV of 8 bits write ax, and the others rax and rdx
abbrev pub products : Width → List Stmt
products W8 = stmt.Open (var.Reg Rax) W64 ∷ []
products w = stmt.Open (var.Reg Rax) w ∷ stmt.Open (var.Reg Rdx) w ∷ []

-- MOV to a register: of 64 bits it copies, 32 bits clear the upper half, and 8 or 16 bits are left open
abbrev pub copied : Width → Reg → Var → Stmt
copied W64 r src = stmt.Copy (var.Reg r) src
copied W32 r src = stmt.Narrow (var.Reg r) src W32 W64 false
copied w r src = stmt.Open (var.Reg r) w

-- MOV of an immediate to a register: sign-extended to 64 bits, or to 32 bits, which clear the upper half
abbrev pub set_to : Width → Reg → ℤ → Stmt
set_to W64 r i = stmt.Set (var.Reg r) (word_of i)
set_to W32 r i = stmt.Set (var.Reg r) (low W32 (word_of i))
set_to w r i = stmt.Open (var.Reg r) w

-- MOV: memory is loaded straight to a register
abbrev pub mov_steps : Width → Place → Source → List Stmt
mov_steps w (place.Reg r) (source.Place (place.Mem mem)) = stmt.Load (var.Reg r) (bytes_in w) w false mem ∷ []
mov_steps w (place.Reg r) (source.Place (place.Reg q)) = copied w r (var.Reg q) ∷ []
mov_steps w (place.Reg r) (source.Place (place.High h)) = copied w r var.Tmp ∷ []
mov_steps w (place.Reg r) (source.Imm i) = set_to w r i ∷ []
mov_steps w (place.High h) src = fetched_source w src ++ left_open w (place.High h)
mov_steps w (place.Mem mem) src = fetched_source w src ++ stmt.Store mem (bytes_in w) (operand_of src) ∷ []

-- LEA: an address of 64 bits is exact
abbrev pub lea_step : Width → Reg → Mem → Stmt
lea_step W64 r mem = stmt.Lea (var.Reg r) mem
lea_step w r mem = stmt.Open (var.Reg r) w

-- MOVSX, MOVSXD and MOVZX: memory is loaded straight to the register
abbrev pub extend_step : Bool → Width → Width → Reg → Place → Stmt
extend_step signed from to r (place.Mem mem) = stmt.Load (var.Reg r) (bytes_in from) to signed mem
extend_step signed from to r (place.Reg q) = stmt.Narrow (var.Reg r) (var.Reg q) from to signed
extend_step signed from to r (place.High h) = stmt.Narrow (var.Reg r) var.Tmp from to signed

-- XCHG: of 64 bits it is exact
abbrev pub exchanged : Width → Reg → Reg → List Stmt
exchanged W64 a b = stmt.Copy var.Tmp (var.Reg a) ∷ stmt.Copy (var.Reg a) (var.Reg b) ∷ stmt.Copy (var.Reg b) var.Tmp ∷ []
exchanged w a b = stmt.Open (var.Reg a) w ∷ stmt.Open (var.Reg b) w ∷ []

-- a word is pushed: it is written 8 below rsp, which then falls by 8
abbrev pub pushed : Operand → List Stmt
pushed x = stmt.Store below_rsp 8 x ∷ stmt.Sum (var.Reg Rsp) (var.Reg Rsp) (operand.Imm (pos 8)) true ∷ []

-- a word is popped to a register: it is read at rsp, which rises by 8 before the register is written
abbrev pub popped : Reg → List Stmt
popped r = load_tmp W64 at_rsp ∷ stmt.Sum (var.Reg Rsp) (var.Reg Rsp) (operand.Imm (pos 8)) false ∷ stmt.Copy (var.Reg r) var.Tmp ∷ []

-- 64 bits where REX.W is set, else 32
abbrev pub width_by_wide : Bool → Width
width_by_wide true = W64
width_by_wide false = W32

-- an operand of an XMM instruction in memory is read or written
abbrev pub touched : XmmRow → Bool → XmmOperand → List Stmt
touched row wide (xmm.Reg n) = []
touched row wide (xmm.Mem mem) = stmt.Touch mem (xmm_size row wide) (is_xmm_store row) ∷ []

-- The general register that it writes: conversions to integers that of the reg field, and a move of 32 or 64 bits that
-- of the second operand.
abbrev pub general_open : XmmRole → Bool → ℕ → XmmOperand → List Stmt
general_open role.ToGeneral wide reg rm = stmt.Open (var.Reg (register reg)) (width_by_wide wide) ∷ []
general_open role.MoveToGeneral wide reg (xmm.Reg n) = stmt.Open (var.Reg (register n)) (width_by_wide wide) ∷ []
general_open _ wide reg rm = []

-- comparisons write flags
abbrev pub xmm_compared : XmmRole → List Stmt
xmm_compared role.Compare = any_flags ∷ []
xmm_compared _ = []

-- what an instruction does but for its transfer of control
abbrev pub steps : Insn → List Stmt
steps (insn.Alu op w dst src) = fetched w dst ++ fetched_source w src ++ alu_steps op w dst src
steps (insn.Push src) = fetched_source W64 src ++ pushed (operand_of src)
steps (insn.Pop dst) = popped dst
steps (insn.Extend signed from to dst src) = extend_step signed from to dst src ∷ []
steps (insn.Imul w dst src imm) = fetched w src ++ any_flags ∷ stmt.Open (var.Reg dst) w ∷ []
steps insn.Leave = stmt.Copy (var.Reg Rsp) (var.Reg Rbp) ∷ popped Rbp
steps (insn.CallInd src) = fetched W64 src
steps (insn.JumpInd src) = fetched W64 src
steps (insn.Test w a b) = fetched w a ++ fetched_source w b ++ any_flags ∷ []
steps (insn.Xchg w a b) = exchanged w a b
steps (insn.Mov w dst src) = mov_steps w dst src
steps (insn.MovImm64 dst imm) = stmt.Set (var.Reg dst) imm ∷ []
steps (insn.Lea w dst mem) = lea_step w dst mem ∷ []
steps (insn.Widen w) = stmt.Open (var.Reg Rax) w ∷ []
steps (insn.SignA w) = stmt.Open (var.Reg Rdx) w ∷ []
steps (insn.Shift op w dst by) = fetched w dst ++ shift_steps op w dst by
steps (insn.Unary op w dst) = fetched w dst ++ unary_steps op w dst
steps (insn.MulDiv op w src) = fetched w src ++ any_flags ∷ products w
steps (insn.Cmov cond w dst src) = fetched w src ++ stmt.Choose (var.Reg dst) w (var.Reg dst) (operand.Var (var_of src)) ∷ []
steps (insn.Set cond dst) = left_open W8 dst
steps (insn.Bits op w dst src) = fetched w src ++ any_flags ∷ stmt.Open (var.Reg dst) W64 ∷ []
steps (insn.Bt w a bit) = any_flags ∷ []
steps (insn.Bswap w dst) = stmt.Open (var.Reg dst) w ∷ []
steps (insn.Xmm row wide reg rm imm) = touched row wide rm ++ general_open (xmm_role row) wide reg rm ++ xmm_compared (xmm_role row)
steps (insn.Jcc cond rel) = []
steps (insn.Jump rel) = []
steps (insn.Call rel) = []
steps insn.Ret = []
steps insn.Nop = []
steps insn.Ud2 = []
steps insn.Endbr = []

-- how it transfers control; an address that is read from memory was loaded to tmp
abbrev pub flow_of : Insn → Flow
flow_of (insn.Jcc cond rel) = flow.Branch cond rel
flow_of (insn.Jump rel) = flow.Jump rel
flow_of (insn.JumpInd src) = flow.JumpReg (var_of src)
flow_of (insn.Call rel) = flow.Call rel
flow_of (insn.CallInd src) = flow.CallReg (var_of src)
flow_of insn.Ret = flow.Ret
flow_of insn.Ud2 = flow.Stop
flow_of i = flow.Next

-- the statements of an instruction
abbrev pub lifted : Insn → List Stmt
lifted i = steps i ++ stmt.Flow (flow_of i) ∷ []
