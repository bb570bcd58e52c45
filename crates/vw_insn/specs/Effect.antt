-- What an instruction does to registers and flags, and what it reads, writes and goes to
-- (SDM volume 2, "Operation" of each instruction).
--
-- The effect of an instruction is the pair of `reads` and `effect`. No instruction that an opcode row
-- gives reads twice or writes twice. So what is read is a function of the registers, and the rest is a
-- function of them and of the one number that was loaded. What is read is read before anything is written.
-- `next` is the address of the next instruction.
--
-- Where the SDM fixes a result that the sandbox does not rest on, the result is open here, and any number stands
-- for it: so the definitions allow more than the SDM does. The same holds of flags: an instruction with
-- an open flag has all five open.
use Rattle.std.specs.Prelude.{ℕ, ◌+◌, ◌-◌, ◌*◌, ◌/◌, ◌%◌, ◌^◌, ◌<◌, Bool, true, false, if◌then◌else◌, ℤ, pos, negsuc, List, [], ◌∷◌, ◌++◌, Option, Some, None, bit_and}
use Rattle.vw_insn.specs.declared.registers.Reg.{Reg}
use Rattle.vw_insn.specs.declared.registers.Reg.TheVariants.{Rax, Rdx, Rsp}
use Rattle.vw_insn.specs.declared.registers.Width.{Width}
use Rattle.vw_insn.specs.declared.registers.Width.TheVariants.{W8, W16, W64}
use Rattle.vw_insn.specs.declared.operations.AluOp.{AluOp}
use Rattle.vw_insn.specs.declared.operations.AluOp.TheVariants as alu
use Rattle.vw_insn.specs.declared.operations.BitsOp.{BitsOp}
use Rattle.vw_insn.specs.declared.operations.BitsOp.TheVariants as bits
use Rattle.vw_insn.specs.declared.operands.Base.{Base}
use Rattle.vw_insn.specs.declared.operands.Base.TheVariants as base
use Rattle.vw_insn.specs.declared.operands.Mem.{Mem}
use Rattle.vw_insn.specs.declared.operands.Place.{Place}
use Rattle.vw_insn.specs.declared.operands.Place.TheVariants as place
use Rattle.vw_insn.specs.declared.operands.Source.{Source}
use Rattle.vw_insn.specs.declared.operands.Source.TheVariants as source
use Rattle.vw_insn.specs.declared.operands.XmmOperand.{XmmOperand}
use Rattle.vw_insn.specs.declared.operands.XmmOperand.TheVariants as operand
use Rattle.vw_insn.specs.declared.xmm.XmmRow.{XmmRow}
use Rattle.vw_insn.specs.declared.instruction.Insn.{Insn}
use Rattle.vw_insn.specs.declared.instruction.Insn.TheVariants as insn
use Rattle.vw_insn.specs.Arithmetic.{extended, flags_of_bits, alu_result, alu_flags, shift_result, unary_flags}
use Rattle.vw_insn.specs.Conditions.{holds}
use Rattle.vw_insn.specs.XmmTable.{xmm_role, xmm_size, is_xmm_store}
use Rattle.vw_insn.specs.XmmEffect.{stored_bytes, xmm_registers, xmm_flags}
use Rattle.vw_insn.specs.Words.{Registers, Flags, number, register_of, bytes_in, low, with_low, with_high, word_of, put}

-- What an instruction leaves open: numbers, by their place, and flags. Number 0 is the open result, and number 1 that
-- of rdx where two registers are written. A store of an XMM register takes its bytes from both.
pub record Open : Type 0 where
  pub numbers : ℕ → ℕ
  pub are_words : (i : ℕ) → numbers i < 2 ^ 64
  pub flags : Flags

-- `size` bytes from address `at` up
pub record Access : Type 0 where
  pub at : ℕ
  pub size : ℕ

-- a write of a number of `size` bytes, the least significant byte first
pub record Write : Type 0 where
  pub at : ℕ
  pub size : ℕ
  pub value : ℕ

-- where control goes
pub data Transfer : Type 0 where
  -- on to the next instruction
  Next : Transfer
  -- to this address, which the instruction names or an operand holds
  To : (to : ℕ) → Transfer
  -- into the function at this address, once the address of the next instruction is pushed
  Enter : (to : ℕ) → Transfer
  -- back to the address that was read from the top of the stack
  Back : (to : ℕ) → Transfer
  -- nowhere: the instruction traps
  Stop : Transfer

-- The kinds of instruction that a sandbox treats differently, by how they transfer control.
pub data Way : Type 0 where
  -- on, or to another place in the function
  Ordinary : Way
  -- a return
  Return : Way
  -- a call of an address that the instruction names
  Direct : Way
  -- a call of an address that a register or memory holds
  Indirect : Way

abbrev pub way : Insn → Way
way insn.Ret = Return
way (insn.Call rel) = Direct
way (insn.CallInd src) = Indirect
way _ = Ordinary

-- Whether the instruction may trap for a reason that is left open: a quotient that has no room (SDM volume 2, "DIV"),
-- an operand of 16 bytes that is not aligned, or a floating-point exception (SDM volume 1, 11.5).
abbrev pub may_trap : Insn → Bool
may_trap (insn.MulDiv op w src) = true
may_trap (insn.Xmm row wide reg rm imm) = true
may_trap _ = false

pub record After : Type 0 where
  pub registers : Registers
  pub flags : Flags
  pub writes : List Write
  pub transfer : Transfer

abbrev pub base_value : ℕ → Registers → Base → ℕ
base_value next registers base.None = 0
base_value next registers (base.Reg r) = registers (number r)
base_value next registers base.Rip = next

-- base + scale * index + disp
abbrev pub sum_of : ℕ → Registers → Option (Reg × ℕ) → ℕ → ℕ
sum_of start registers None disp = start + disp
sum_of start registers (Some (r, scale)) disp = start + registers (number r) * scale + disp

-- the address of a memory operand, modulo 2 ^ 64 (SDM volume 1, 3.7.5)
abbrev pub address : ℕ → Registers → Mem → ℕ
address next registers mem = sum_of (base_value next registers mem.base) registers mem.index (word_of mem.disp) % 2 ^ 64

-- the top of the stack
abbrev pub at_rsp : Mem
at_rsp = record { base = base.Reg Rsp; index = None; disp = pos 0 }

-- where a push writes: the eight bytes below the top of the stack (SDM volume 2, "PUSH")
abbrev pub below_rsp : Mem
below_rsp = record { base = base.Reg Rsp; index = None; disp = negsuc 7 }

-- rsp after a pop of eight bytes (SDM volume 2, "POP")
abbrev pub raised : ℕ → ℕ
raised rsp = (rsp + 8) % 2 ^ 64

-- rsp after a push of eight bytes (SDM volume 2, "PUSH")
abbrev pub lowered : ℕ → ℕ
lowered rsp = (rsp + (2 ^ 64 - 8)) % 2 ^ 64

-- rsp is rbp: the first half of LEAVE (SDM volume 2, "LEAVE")
abbrev pub unwound : Registers → Registers
unwound registers = put registers 4 (registers 5)

abbrev pub reads_place : ℕ → Registers → Width → Place → List Access
reads_place next registers w (place.Mem mem) = record { at = address next registers mem; size = bytes_in w } ∷ []
reads_place next registers w (place.Reg r) = []
reads_place next registers w (place.High h) = []

abbrev pub reads_source : ℕ → Registers → Width → Source → List Access
reads_source next registers w (source.Place p) = reads_place next registers w p
reads_source next registers w (source.Imm i) = []

abbrev pub reads_top : ℕ → Registers → List Access
reads_top next registers = record { at = address next registers at_rsp; size = 8 } ∷ []

abbrev pub reads_xmm : ℕ → Registers → XmmRow → Bool → XmmOperand → List Access
reads_xmm next registers row wide (operand.Mem mem) =
    if is_xmm_store row then [] else record { at = address next registers mem; size = xmm_size row wide } ∷ []
reads_xmm next registers row wide (operand.Reg n) = []

-- What an instruction reads: its memory operand, also where it is written afterwards, or the top of the stack. CMOV
-- reads its operand whether the condition holds or not. LEA, NOP, MOV to memory and SET read none.
abbrev pub reads : Insn → ℕ → Registers → List Access
reads (insn.Alu op w dst src) next registers = reads_place next registers w dst ++ reads_source next registers w src
reads (insn.Push src) next registers = reads_source next registers W64 src
reads (insn.Pop dst) next registers = reads_top next registers
reads (insn.Extend signed from to dst src) next registers = reads_place next registers from src
reads (insn.Imul w dst src imm) next registers = reads_place next registers w src
reads (insn.Jcc cond rel) next registers = []
reads (insn.Jump rel) next registers = []
reads (insn.Call rel) next registers = []
reads insn.Ret next registers = reads_top next registers
reads insn.Leave next registers = reads_top next (unwound registers)
reads (insn.CallInd src) next registers = reads_place next registers W64 src
reads (insn.JumpInd src) next registers = reads_place next registers W64 src
reads (insn.Test w a b) next registers = reads_place next registers w a ++ reads_source next registers w b
reads (insn.Xchg w a b) next registers = []
reads (insn.Mov w dst src) next registers = reads_source next registers w src
reads (insn.MovImm64 dst imm) next registers = []
reads (insn.Lea w dst mem) next registers = []
reads insn.Nop next registers = []
reads (insn.Widen w) next registers = []
reads (insn.SignA w) next registers = []
reads (insn.Shift op w dst by) next registers = reads_place next registers w dst
reads (insn.Unary op w dst) next registers = reads_place next registers w dst
reads (insn.MulDiv op w src) next registers = reads_place next registers w src
reads insn.Ud2 next registers = []
reads (insn.Cmov cond w dst src) next registers = reads_place next registers w src
reads (insn.Set cond dst) next registers = []
reads (insn.Bits op w dst src) next registers = reads_place next registers w src
reads (insn.Bt w a bit) next registers = []
reads (insn.Bswap w dst) next registers = []
reads insn.Endbr next registers = []
reads (insn.Xmm row wide reg rm imm) next registers = reads_xmm next registers row wide rm

-- the word that a place holds, of which an instruction takes the low bits
abbrev pub place_word : Registers → ℕ → Place → ℕ
place_word registers loaded (place.Reg r) = registers (number r)
place_word registers loaded (place.High h) = registers (number (register_of h)) / 2 ^ 8 % 2 ^ 8
place_word registers loaded (place.Mem mem) = loaded

abbrev pub source_word : Registers → ℕ → Source → ℕ
source_word registers loaded (source.Place p) = place_word registers loaded p
source_word registers loaded (source.Imm i) = word_of i

-- the registers after x, a number of this width, was written to a place
abbrev pub put_place : Registers → Width → Place → ℕ → Registers
put_place registers w (place.Reg r) x = put registers (number r) (with_low w (registers (number r)) x)
put_place registers w (place.High h) x = put registers (number (register_of h)) (with_high (registers (number (register_of h))) (x % 2 ^ 8))
put_place registers w (place.Mem mem) x = registers

abbrev pub writes_place : ℕ → Registers → Width → Place → ℕ → List Write
writes_place next registers w (place.Mem mem) x = record { at = address next registers mem; size = bytes_in w; value = x } ∷ []
writes_place next registers w (place.Reg r) x = []
writes_place next registers w (place.High h) x = []

-- the address of a relative target, modulo 2 ^ 64 (SDM volume 2, "JMP": it counts from the next instruction)
abbrev pub relative : ℕ → ℤ → ℕ
relative next rel = (next + word_of rel) % 2 ^ 64

abbrev pub going : Registers → Flags → Transfer → After
going registers flags to = record { registers = registers; flags = flags; writes = []; transfer = to }

-- x, a number of this width, is written to a place
abbrev pub writing : ℕ → Registers → Flags → Width → Place → ℕ → After
writing next registers flags w dst x =
    record { registers = put_place registers w dst x; flags = flags; writes = writes_place next registers w dst x; transfer = Next }

-- A word is pushed: it is written below the top of the stack, and then rsp falls by 8. The address and the word are
-- those before rsp falls, also where the word is rsp itself (SDM volume 2, "PUSH").
abbrev pub pushing : ℕ → Registers → Flags → ℕ → Transfer → After
pushing next registers flags x to =
    record {
      registers = put registers 4 (lowered (registers 4));
      flags = flags;
      writes = record { at = address next registers below_rsp; size = 8; value = x } ∷ [];
      transfer = to;
    }

-- CMP writes flags alone, and the other operations their result too
abbrev pub alu_effect : AluOp → ℕ → Registers → Flags → Width → Place → ℕ → After
alu_effect alu.Cmp next registers flags w dst x = going registers flags Next
alu_effect _ next registers flags w dst x = writing next registers flags w dst x

-- The results of MUL, IMUL, DIV and IDIV with one operand: at width 8 they fill ax, at the others rax and rdx
-- (SDM volume 2, "Operation" of each).
abbrev pub put_results : Registers → Width → (ℕ → ℕ) → Registers
put_results registers W8 numbers = put_place registers W16 (place.Reg Rax) (low W16 (numbers 0))
put_results registers w numbers = put_place (put_place registers w (place.Reg Rax) (low w (numbers 0))) w (place.Reg Rdx) (low w (numbers 1))

-- The result of POPCNT is open in its width. Those of BSF and BSR are open in all 64 bits, since these may leave the
-- register as it was, also its upper half (SDM volume 2, "BSF", "BSR"); TZCNT and LZCNT, which are BSF and BSR on a
-- processor that does not know them (SDM volume 2, "TZCNT", "LZCNT"), likewise.
abbrev pub put_bits : BitsOp → Registers → Width → Reg → ℕ → Registers
put_bits bits.Popcnt registers w dst chosen = put_place registers w (place.Reg dst) (low w chosen)
put_bits _ registers w dst chosen = put registers (number dst) chosen

abbrev pub writes_xmm : ℕ → Registers → XmmRow → Bool → XmmOperand → (ℕ → ℕ) → List Write
writes_xmm next registers row wide (operand.Mem mem) numbers =
    if is_xmm_store row then record { at = address next registers mem; size = xmm_size row wide; value = stored_bytes (xmm_size row wide) numbers } ∷ [] else []
writes_xmm next registers row wide (operand.Reg n) numbers = []

-- What an instruction before `next` does, once it has loaded a number (SDM volume 2, "Operation" of the instruction
-- that each clause names).
abbrev pub effect : Insn → ℕ → Registers → Flags → ℕ → Open → After
-- ADD, OR, ADC, SBB, AND, SUB, XOR, CMP
effect (insn.Alu op w dst src) next registers flags loaded choice =
    let x = low w (place_word registers loaded dst) in
    let y = low w (source_word registers loaded src) in
    alu_effect op next registers (alu_flags op w choice.flags x y) w dst (low w (alu_result op (choice.numbers 0) x y))
-- PUSH
effect (insn.Push src) next registers flags loaded choice = pushing next registers flags (source_word registers loaded src) Next
-- POP: rsp rises before the register is written, so that of rsp the word that was read stays
effect (insn.Pop dst) next registers flags loaded choice =
    going (put (put registers 4 (raised (registers 4))) (number dst) loaded) flags Next
-- MOVSX, MOVSXD, MOVZX
effect (insn.Extend signed from to dst src) next registers flags loaded choice =
    writing next registers flags to (place.Reg dst) (extended signed from to (low from (place_word registers loaded src)))
-- IMUL with two or three operands
effect (insn.Imul w dst src imm) next registers flags loaded choice =
    writing next registers choice.flags w (place.Reg dst) (low w (choice.numbers 0))
-- Jcc
effect (insn.Jcc cond rel) next registers flags loaded choice =
    going registers flags (if holds cond flags then To (relative next rel) else Next)
-- JMP
effect (insn.Jump rel) next registers flags loaded choice = going registers flags (To (relative next rel))
-- CALL, near and relative
effect (insn.Call rel) next registers flags loaded choice = pushing next registers flags next (Enter (relative next rel))
-- RET
effect insn.Ret next registers flags loaded choice = going (put registers 4 (raised (registers 4))) flags (Back loaded)
-- LEAVE: rsp becomes rbp, and then rbp is popped
effect insn.Leave next registers flags loaded choice =
    let framed = unwound registers in
    going (put (put framed 4 (raised (framed 4))) 5 loaded) flags Next
-- CALL, near and absolute: the target is the one before the push
effect (insn.CallInd src) next registers flags loaded choice = pushing next registers flags next (Enter (place_word registers loaded src))
-- JMP, near and absolute
effect (insn.JumpInd src) next registers flags loaded choice = going registers flags (To (place_word registers loaded src))
-- TEST
effect (insn.Test w a b) next registers flags loaded choice =
    let x = low w (place_word registers loaded a) in
    let y = low w (source_word registers loaded b) in
    going registers (flags_of_bits w (bit_and x y)) Next
-- XCHG
effect (insn.Xchg w a b) next registers flags loaded choice =
    let x = low w (registers (number a)) in
    let y = low w (registers (number b)) in
    going (put_place (put_place registers w (place.Reg a) y) w (place.Reg b) x) flags Next
-- MOV
effect (insn.Mov w dst src) next registers flags loaded choice = writing next registers flags w dst (low w (source_word registers loaded src))
effect (insn.MovImm64 dst imm) next registers flags loaded choice = going (put registers (number dst) imm) flags Next
-- LEA: the address is cut to the width
effect (insn.Lea w dst mem) next registers flags loaded choice = writing next registers flags w (place.Reg dst) (low w (address next registers mem))
-- NOP
effect insn.Nop next registers flags loaded choice = going registers flags Next
-- CBW, CWDE, CDQE
effect (insn.Widen w) next registers flags loaded choice = writing next registers flags w (place.Reg Rax) (low w (choice.numbers 0))
-- CWD, CDQ, CQO
effect (insn.SignA w) next registers flags loaded choice = writing next registers flags w (place.Reg Rdx) (low w (choice.numbers 0))
-- ROL, ROR, SHL, SHR, SAR
effect (insn.Shift op w dst by) next registers flags loaded choice =
    let x = low w (place_word registers loaded dst) in
    writing next registers choice.flags w dst (low w (shift_result op w by (choice.numbers 0) x))
-- NOT, NEG, INC, DEC
effect (insn.Unary op w dst) next registers flags loaded choice =
    writing next registers (unary_flags op flags choice.flags) w dst (low w (choice.numbers 0))
-- MUL, IMUL, DIV, IDIV
effect (insn.MulDiv op w src) next registers flags loaded choice = going (put_results registers w choice.numbers) choice.flags Next
-- UD2
effect insn.Ud2 next registers flags loaded choice = going registers flags Stop
-- CMOVcc: the register is written also where the condition fails, so that 32 bits clear its upper half
effect (insn.Cmov cond w dst src) next registers flags loaded choice =
    writing next registers flags w (place.Reg dst) (low w (if holds cond flags then place_word registers loaded src else registers (number dst)))
-- SETcc
effect (insn.Set cond dst) next registers flags loaded choice = writing next registers flags W8 dst (if holds cond flags then 1 else 0)
-- BSF, BSR, POPCNT, TZCNT, LZCNT
effect (insn.Bits op w dst src) next registers flags loaded choice = going (put_bits op registers w dst (choice.numbers 0)) choice.flags Next
-- BT
effect (insn.Bt w a bit) next registers flags loaded choice = going registers choice.flags Next
-- BSWAP
effect (insn.Bswap w dst) next registers flags loaded choice = writing next registers flags w (place.Reg dst) (low w (choice.numbers 0))
-- ENDBR64
effect insn.Endbr next registers flags loaded choice = going registers flags Next
-- instructions on XMM registers
effect (insn.Xmm row wide reg rm imm) next registers flags loaded choice =
    record {
      registers = xmm_registers (xmm_role row) wide reg rm registers (choice.numbers 0);
      flags = xmm_flags (xmm_role row) flags choice.flags;
      writes = writes_xmm next registers row wide rm choice.numbers;
      transfer = Next;
    }
