-- How an instruction is printed: the SDM's mnemonic in lower case, then the operands, the destination
-- first.
use Rattle.std.specs.Prelude.{ℕ, ◌+◌, ℤ, pos, negsuc, ◌+ℤ◌, Bool, true, false, ◌||◌, is_some, Option, None, Some, List, [], ◌++◌, codes}
use Rattle.std.specs.Fmt.{decimal}
use Rattle.vw_bits.specs.Numerals.{hex_text}
use Rattle.vw_insn.specs.declared.registers.Reg.{Reg}
use Rattle.vw_insn.specs.declared.registers.Width.{Width}
use Rattle.vw_insn.specs.declared.registers.Width.TheVariants.{W8, W32, W64}
use Rattle.vw_insn.specs.declared.operands.Base.{Base}
use Rattle.vw_insn.specs.declared.operands.Base.TheVariants as base
use Rattle.vw_insn.specs.declared.operands.Mem.{Mem}
use Rattle.vw_insn.specs.declared.operands.Place.{Place}
use Rattle.vw_insn.specs.declared.operands.Place.TheVariants as place
use Rattle.vw_insn.specs.declared.operands.Source.{Source}
use Rattle.vw_insn.specs.declared.operands.Source.TheVariants as source
use Rattle.vw_insn.specs.declared.operands.Count.{Count}
use Rattle.vw_insn.specs.declared.operands.Count.TheVariants as count
use Rattle.vw_insn.specs.declared.operands.XmmOperand.{XmmOperand}
use Rattle.vw_insn.specs.declared.operands.XmmOperand.TheVariants as xmm
use Rattle.vw_insn.specs.declared.instruction.Insn.{Insn}
use Rattle.vw_insn.specs.declared.instruction.Insn.TheVariants.{Alu, Push, Pop, Extend, Imul, Jcc, Jump, Call, Ret, Leave, CallInd, JumpInd, Test, Xchg, Mov, MovImm64, Lea, Nop, Widen, SignA, Shift, Unary, MulDiv, Ud2, Cmov, Set, Bits, Bt, Bswap, Endbr, Xmm}
use Rattle.vw_insn.specs.declared.printed.Operand.{Operand}
use Rattle.vw_insn.specs.declared.printed.Operand.TheVariants as operand
use Rattle.vw_insn.specs.declared.printed.Operands.{Operands}
use Rattle.vw_insn.specs.declared.xmm.XmmRole.{XmmRole}
use Rattle.vw_insn.specs.declared.xmm.XmmRole.TheVariants as role
use Rattle.vw_insn.specs.Words.{register, low, word_of}
use Rattle.vw_insn.specs.Names.{reg_text, reg64_text, high_text, cond_text, alu_text, shift_text, unary_text, muldiv_text, bits_text}
use Rattle.vw_insn.specs.XmmTable.{xmm_text, xmm_role}

-- The mnemonic

-- movzx and movsx; movsxd where the source has 32 bits (SDM volume 2, "MOVSX/MOVSXD")
abbrev pub extend_text : Bool → Width → List ℕ
extend_text false _ = codes "movzx"
extend_text true W32 = codes "movsxd"
extend_text true _ = codes "movsx"

-- the widening of rax to a width (SDM volume 2, "CBW/CWDE/CDQE")
abbrev pub widen_text : Width → List ℕ
widen_text W32 = codes "cwde"
widen_text W64 = codes "cdqe"
widen_text _ = codes "cbw"

-- the sign of rax at a width (SDM volume 2, "CWD/CDQ/CQO")
abbrev pub sign_text : Width → List ℕ
sign_text W32 = codes "cdq"
sign_text W64 = codes "cqo"
sign_text _ = codes "cwd"

-- the mnemonic up to its condition
abbrev pub stem : Insn → List ℕ
stem (Alu op w dst src) = alu_text op
stem (Push src) = codes "push"
stem (Pop dst) = codes "pop"
stem (Extend signed from to dst src) = extend_text signed from
stem (Imul w dst src imm) = codes "imul"
stem (Jcc cond rel) = codes "j"
stem (Jump rel) = codes "jmp"
stem (Call rel) = codes "call"
stem Ret = codes "ret"
stem Leave = codes "leave"
stem (CallInd src) = codes "call"
stem (JumpInd src) = codes "jmp"
stem (Test w a b) = codes "test"
stem (Xchg w a b) = codes "xchg"
stem (Mov w dst src) = codes "mov"
stem (MovImm64 dst imm) = codes "mov"
stem (Lea w dst mem) = codes "lea"
stem Nop = codes "nop"
stem (Widen w) = widen_text w
stem (SignA w) = sign_text w
stem (Shift op w dst by) = shift_text op
stem (Unary op w dst) = unary_text op
stem (MulDiv op w src) = muldiv_text op
stem Ud2 = codes "ud2"
stem (Cmov cond w dst src) = codes "cmov"
stem (Set cond dst) = codes "set"
stem (Bits op w dst src) = bits_text op
stem (Bt w a bit) = codes "bt"
stem (Bswap w dst) = codes "bswap"
stem Endbr = codes "endbr64"
stem (Xmm row wide reg rm imm) = xmm_text row wide

-- the condition that ends a mnemonic
abbrev pub condition : Insn → List ℕ
condition (Jcc cond rel) = cond_text cond
condition (Cmov cond w dst src) = cond_text cond
condition (Set cond dst) = cond_text cond
condition _ = []

-- The operands

-- the bits of an integer at a width, as an unsigned number
abbrev pub unsigned_at : Width → ℤ → ℕ
unsigned_at w n = low w (word_of n)

abbrev pub place_operand : Width → Place → Operand
place_operand w (place.Reg r) = operand.Reg w r
place_operand w (place.High h) = operand.High h
place_operand w (place.Mem m) = operand.Mem m

abbrev pub source_operand : Width → Source → Operand
source_operand w (source.Place p) = place_operand w p
source_operand w (source.Imm n) = operand.Imm (unsigned_at w n)

abbrev pub count_operand : Count → Operand
count_operand count.Cl = operand.Cl
count_operand (count.Imm n) = operand.Imm n

-- a general register by its number, of 64 bits where it is wide, else of 32
abbrev pub general : Bool → ℕ → Operand
general false n = operand.Reg W32 (register n)
general true n = operand.Reg W64 (register n)

abbrev pub general_operand : Bool → XmmOperand → Operand
general_operand wide (xmm.Reg n) = general wide n
general_operand wide (xmm.Mem m) = operand.Mem m

abbrev pub xmm_operand : XmmOperand → Operand
xmm_operand (xmm.Reg n) = operand.Xmm n
xmm_operand (xmm.Mem m) = operand.Mem m

abbrev pub no_operand : Operands
no_operand = record { first = None; second = None; third = None }

abbrev pub one_operand : Operand → Operands
one_operand a = record { first = Some a; second = None; third = None }

abbrev pub two_operands : Operand → Operand → Operands
two_operands a b = record { first = Some a; second = Some b; third = None }

abbrev pub three_operands : Operand → Operand → Operand → Operands
three_operands a b c = record { first = Some a; second = Some b; third = Some c }

abbrev pub xmm_operands : XmmRole → Bool → ℕ → XmmOperand → ℕ → Operands
xmm_operands role.Load wide reg rm imm = two_operands (operand.Xmm reg) (xmm_operand rm)
xmm_operands role.Store wide reg rm imm = two_operands (xmm_operand rm) (operand.Xmm reg)
xmm_operands role.FromGeneral wide reg rm imm = two_operands (operand.Xmm reg) (general_operand wide rm)
xmm_operands role.MoveFromGeneral wide reg rm imm = two_operands (operand.Xmm reg) (general_operand wide rm)
xmm_operands role.ToGeneral wide reg rm imm = two_operands (general wide reg) (xmm_operand rm)
xmm_operands role.MoveToGeneral wide reg rm imm = two_operands (general_operand wide rm) (operand.Xmm reg)
xmm_operands role.Compare wide reg rm imm = two_operands (operand.Xmm reg) (xmm_operand rm)
xmm_operands role.Rounding wide reg rm imm = three_operands (operand.Xmm reg) (xmm_operand rm) (operand.Imm imm)

abbrev pub imul_operands : Operand → Operand → Width → Option ℤ → Operands
imul_operands a b w None = two_operands a b
imul_operands a b w (Some n) = three_operands a b (operand.Imm (unsigned_at w n))

-- the operands, the destination first; a direct target is where it stands in the function, of which
-- `next` is the next instruction's place
abbrev pub operands_of : Insn → ℕ → Operands
operands_of (Alu op w dst src) next = two_operands (place_operand w dst) (source_operand w src)
operands_of (Push src) next = one_operand (source_operand W64 src)
operands_of (Pop dst) next = one_operand (operand.Reg W64 dst)
operands_of (Extend signed from to dst src) next = two_operands (operand.Reg to dst) (place_operand from src)
operands_of (Imul w dst src imm) next = imul_operands (operand.Reg w dst) (place_operand w src) w imm
operands_of (Jcc cond rel) next = one_operand (operand.Target (pos next +ℤ rel))
operands_of (Jump rel) next = one_operand (operand.Target (pos next +ℤ rel))
operands_of (Call rel) next = one_operand (operand.Target (pos next +ℤ rel))
operands_of Ret next = no_operand
operands_of Leave next = no_operand
operands_of (CallInd src) next = one_operand (place_operand W64 src)
operands_of (JumpInd src) next = one_operand (place_operand W64 src)
operands_of (Test w a b) next = two_operands (place_operand w a) (source_operand w b)
operands_of (Xchg w a b) next = two_operands (operand.Reg w a) (operand.Reg w b)
operands_of (Mov w dst src) next = two_operands (place_operand w dst) (source_operand w src)
operands_of (MovImm64 dst imm) next = two_operands (operand.Reg W64 dst) (operand.Imm imm)
operands_of (Lea w dst mem) next = two_operands (operand.Reg w dst) (operand.Mem mem)
operands_of Nop next = no_operand
operands_of (Widen w) next = no_operand
operands_of (SignA w) next = no_operand
operands_of (Shift op w dst by) next = two_operands (place_operand w dst) (count_operand by)
operands_of (Unary op w dst) next = one_operand (place_operand w dst)
operands_of (MulDiv op w src) next = one_operand (place_operand w src)
operands_of Ud2 next = no_operand
operands_of (Cmov cond w dst src) next = two_operands (operand.Reg w dst) (place_operand w src)
operands_of (Set cond dst) next = one_operand (place_operand W8 dst)
operands_of (Bits op w dst src) next = two_operands (operand.Reg w dst) (place_operand w src)
operands_of (Bt w a bit) next = two_operands (operand.Reg w a) (source_operand w bit)
operands_of (Bswap w dst) next = one_operand (operand.Reg w dst)
operands_of Endbr next = no_operand
operands_of (Xmm row wide reg rm imm) next = xmm_operands (xmm_role row) wide reg rm imm

-- The text

-- an integer in hexadecimal, with what stands for its sign where it is not negative
abbrev pub signed_text : List ℕ → ℤ → List ℕ
signed_text plus (pos n) = plus ++ (codes "0x" ++ hex_text n 1)
signed_text plus (negsuc n) = codes "-0x" ++ hex_text (n + 1) 1

abbrev pub base_text : Base → List ℕ
base_text base.None = []
base_text (base.Reg r) = reg64_text r
base_text base.Rip = codes "rip"

abbrev pub has_base : Base → Bool
has_base base.None = false
has_base _ = true

-- a plus sign where something stands before it
abbrev pub joining : Bool → List ℕ
joining false = []
joining true = codes "+"

-- an index with its scale, joined to what stands before it
abbrev pub index_text : List ℕ → Option (Reg × ℕ) → List ℕ
index_text join None = []
index_text join (Some index) = join ++ (reg64_text index.0 ++ (codes "*" ++ decimal index.1))

-- [BASE+INDEX*SCALE+0xDISPLACEMENT], without what is absent
abbrev pub mem_text : Mem → List ℕ
mem_text m = codes "[" ++ (base_text m.base ++ (index_text (joining (has_base m.base)) m.index ++ (signed_text (joining (has_base m.base || is_some m.index)) m.disp ++ codes "]")))

abbrev pub operand_text : Operand → List ℕ
operand_text (operand.Reg w r) = reg_text w r
operand_text (operand.High h) = high_text h
operand_text (operand.Mem m) = mem_text m
operand_text (operand.Imm n) = codes "0x" ++ hex_text n 1
operand_text (operand.Target place) = signed_text (codes "+") place
operand_text operand.Cl = codes "cl"
operand_text (operand.Xmm n) = codes "xmm" ++ decimal n

-- an operand with what stands before it, where there is one
abbrev pub led_text : List ℕ → Option Operand → List ℕ
led_text lead None = []
led_text lead (Some a) = lead ++ operand_text a

abbrev pub operands_text : Operands → List ℕ
operands_text ops = led_text (codes " ") ops.first ++ (led_text (codes ", ") ops.second ++ led_text (codes ", ") ops.third)

-- the printed instruction; `next` is the place of the next instruction in the function
unfoldable pub insn_text : Insn → ℕ → List ℕ
insn_text insn next = stem insn ++ (condition insn ++ operands_text (operands_of insn next))
