-- Of the spellings of an instruction by a row those whose reg field is 0 where nothing names it, and whose
-- REX has no bit that nothing reads.
use Rattle.std.specs.Prelude.{◌≡◌, ℕ, ◌+◌, ◌*◌, ◌/◌, ◌%◌, ◌==◌, Bool, true, false, cond, not, ◌&&◌, ◌||◌, Option, None, Some, length}
use Rattle.vw_insn.specs.declared.registers.Width.{Width}
use Rattle.vw_insn.specs.declared.registers.Width.TheVariants.{W8}
use Rattle.vw_insn.specs.declared.instruction.Insn.{Insn}
use Rattle.vw_rows.specs.declared.patterns.Form.{Form}
use Rattle.vw_rows.specs.declared.patterns.Form.TheVariants.{Any, Memory, Register}
use Rattle.vw_rows.specs.declared.forms.Kind.{Kind}
use Rattle.vw_rows.specs.declared.forms.Kind.TheVariants as kind
use Rattle.vw_rows.specs.declared.forms.Operands.{Operands}
use Rattle.vw_rows.specs.declared.forms.Operands.TheVariants as ops
use Rattle.vw_rows.specs.declared.forms.Sizing.{Sizing}
use Rattle.vw_rows.specs.declared.forms.Sizing.TheVariants as size
use Rattle.vw_rows.specs.declared.forms.Immediate.{Immediate}
use Rattle.vw_rows.specs.declared.forms.Immediate.TheVariants as imm
use Rattle.vw_rows.specs.declared.forms.Row.{Row}
use Rattle.vw_rows.specs.declared.shape.Shape.{Shape}
use Rattle.vw_rows.specs.Numbers.{IsBytes}
use Rattle.vw_rows.specs.Parts.{Modrm, Parts, bytes_of}
use Rattle.vw_rows.specs.Layout.{is_word, key_of, digit_of, has_modrm, takes_sib, displacement_length, has_sib, immediate_length, has_fixed, IsLaid}
use Rattle.vw_rows.specs.Lookup.{matches}
use Rattle.vw_rows.specs.Meaning.{is_given, insn_of}
use Rattle.vw_encode.specs.declared.asked.Asked.{Asked}
use Rattle.vw_encode.specs.declared.candidate.Choice.{Choice}
use Rattle.vw_encode.specs.Order.{mode_of, scale_of}

-- ---- what the instruction of a row tells of its operands

abbrev pub implies : Bool → Bool → Bool
implies a b = cond a b true

abbrev pub asks_first : Operands → Bool
asks_first ops.EG = true
asks_first ops.GE = true
asks_first ops.E = true
asks_first ops.OpcodeReg = true
asks_first _ = false

abbrev pub asks_second : Operands → Bool
asks_second ops.EG = true
asks_second ops.GE = true
asks_second _ = false

-- an instruction of the kind, with an immediate or without, has the first operand of its row
abbrev pub tells_first : Kind → Bool → Bool
tells_first (kind.Alu _) g = true
tells_first kind.Push g = not g
tells_first kind.Pop g = true
tells_first (kind.Extend _ _) g = true
tells_first kind.Imul g = true
tells_first kind.CallInd g = true
tells_first kind.JumpInd g = true
tells_first kind.Test g = true
tells_first kind.Xchg g = true
tells_first kind.Mov g = true
tells_first kind.MovImm g = true
tells_first kind.Lea g = true
tells_first (kind.Shift _) g = true
tells_first (kind.Unary _) g = true
tells_first (kind.MulDiv _) g = true
tells_first (kind.Cmov _) g = true
tells_first (kind.Set _) g = true
tells_first (kind.Bits _) g = true
tells_first kind.Bt g = true
tells_first kind.Bswap g = true
tells_first _ g = false

-- and the second
abbrev pub tells_second : Kind → Bool → Bool
tells_second (kind.Alu _) g = not g
tells_second (kind.Extend _ _) g = true
tells_second kind.Imul g = true
tells_second kind.Test g = not g
tells_second kind.Xchg g = true
tells_second kind.Mov g = not g
tells_second kind.Lea g = true
tells_second (kind.Cmov _) g = true
tells_second (kind.Bits _) g = true
tells_second kind.Bt g = not g
tells_second _ g = false

-- and the signed immediate
abbrev pub tells_signed : Kind → Bool
tells_signed (kind.Alu _) = true
tells_signed kind.Push = true
tells_signed kind.Imul = true
tells_signed (kind.Jcc _) = true
tells_signed kind.Jump = true
tells_signed kind.Call = true
tells_signed kind.Test = true
tells_signed kind.Mov = true
tells_signed kind.Bt = true
tells_signed _ = false

-- and the byte
abbrev pub tells_byte : Kind → Bool
tells_byte (kind.Shift _) = true
tells_byte (kind.Xmm _) = true
tells_byte _ = false

abbrev pub is_xmm : Kind → Bool
is_xmm (kind.Xmm _) = true
is_xmm _ = false

abbrev pub is_mov : Kind → Bool
is_mov kind.MovImm = true
is_mov _ = false

-- the first operand is a register in each row of the kind
abbrev pub register_first : Kind → Bool
register_first kind.Pop = true
register_first (kind.Extend _ _) = true
register_first kind.Imul = true
register_first kind.Xchg = true
register_first kind.MovImm = true
register_first kind.Lea = true
register_first (kind.Cmov _) = true
register_first (kind.Bits _) = true
register_first kind.Bt = true
register_first kind.Bswap = true
register_first _ = false

abbrev pub is_xchg : Kind → Bool
is_xchg kind.Xchg = true
is_xchg _ = false

abbrev pub is_lea : Kind → Bool
is_lea kind.Lea = true
is_lea _ = false

abbrev pub is_extend : Kind → Bool
is_extend (kind.Extend _ _) = true
is_extend _ = false

abbrev pub is_register : Form → Bool
is_register Any = false
is_register Memory = false
is_register Register = true

abbrev pub is_memory : Form → Bool
is_memory Any = false
is_memory Memory = true
is_memory Register = false

-- the first operand is a register that is no byte
abbrev pub full_first : Operands → Form → Bool → Bool
full_first ops.EG f x = is_register f && not x
full_first ops.GE f x = true
full_first ops.Accumulator f x = true
full_first ops.E f x = is_register f && not x
full_first ops.OpcodeReg f x = true
full_first _ f x = false

abbrev pub is_eg : Operands → Bool
is_eg ops.EG = true
is_eg _ = false

abbrev pub is_ge : Operands → Bool
is_ge ops.GE = true
is_ge _ = false

abbrev pub is_opcode_reg : Operands → Bool
is_opcode_reg ops.OpcodeReg = true
is_opcode_reg _ = false

abbrev pub is_xmm_form : Operands → Bool
is_xmm_form ops.Xmm = true
is_xmm_form _ = false

abbrev pub ends_in_fa : Operands → Bool
ends_in_fa ops.EndsInFa = true
ends_in_fa _ = false

abbrev pub reads_signed : Immediate → Bool
reads_signed imm.Ib = true
reads_signed imm.Iz = true
reads_signed imm.Rel8 = true
reads_signed imm.Rel32 = true
reads_signed _ = false

abbrev pub is_iv : Immediate → Bool
is_iv imm.Iv = true
is_iv _ = false

abbrev pub is_ub : Immediate → Bool
is_ub imm.Ub = true
is_ub _ = false

abbrev pub is_opcode_byte : Immediate → Bool
is_opcode_byte imm.OpcodeByte = true
is_opcode_byte _ = false

abbrev pub first_told : Row → Bool
first_told r = implies (asks_first r.operands) (tells_first r.kind (is_given r.immediate))

abbrev pub first_full : Row → Bool
first_full r = implies (register_first r.kind) (is_word r.width && full_first r.operands r.pattern.form (is_extend r.kind))

abbrev pub second_told : Row → Bool
second_told r = implies (asks_second r.operands) (tells_second r.kind (is_given r.immediate))

abbrev pub second_register : Row → Bool
second_register r = implies (is_xchg r.kind) (is_word r.width && is_eg r.operands)

abbrev pub second_memory : Row → Bool
second_memory r = implies (is_lea r.kind) (is_memory r.pattern.form && is_ge r.operands)

abbrev pub signed_told : Row → Bool
signed_told r = implies (reads_signed r.immediate) (tells_signed r.kind)

abbrev pub mov_told : Row → Bool
mov_told r = implies (is_iv r.immediate) (is_mov r.kind)

abbrev pub byte_told : Row → Bool
byte_told r = implies (is_ub r.immediate) (tells_byte r.kind)

abbrev pub xmm_told : Row → Bool
xmm_told r = implies (is_xmm_form r.operands) (is_xmm r.kind)

abbrev pub end_told : Row → Bool
end_told r = implies (is_opcode_byte r.immediate) (ends_in_fa r.operands)

abbrev pub plus_told : Row → Bool
plus_told r = implies r.pattern.plus (is_opcode_reg r.operands)

-- all that the parts name stands in the instruction
abbrev pub is_told : Row → Bool
is_told r = first_told r && (first_full r && (second_told r && (second_register r && (second_memory r && (signed_told r && (mov_told r && (byte_told r && (xmm_told r && (plus_told r && end_told r)))))))))

-- ---- spellings

-- nothing names the reg field
abbrev pub is_free : Operands → Option ℕ → Bool
is_free ops.E None = true
is_free _ _ = false

abbrev pub has_free_reg : Row → Bool
has_free_reg r = is_free r.operands r.pattern.digit

-- ---- what a row reads of REX (SDM volume 2, 2.2.1.2)

-- W: the width hangs on it
abbrev pub reads_w : Sizing → Bool
reads_w size.None = false
reads_w size.B = false
reads_w size.V = true
reads_w size.V32Or64 = true
reads_w size.Q = false
reads_w size.OnlyW = true
reads_w size.Narrow = true
reads_w size.Wide = true

-- R: the reg field names a register
abbrev pub reads_r : Operands → Bool
reads_r ops.EG = true
reads_r ops.GE = true
reads_r ops.Xmm = true
reads_r _ = false

-- X: there may be an index, so each row with ModRM reads it

-- B: there is a register or a base, or the row fixes the bit
abbrev pub reads_b : Operands → Bool
reads_b ops.OpcodeReg = true
reads_b ops.WithoutRexB = true
reads_b o = has_modrm o

abbrev pub is_byte : Sizing → Bool
is_byte size.B = true
is_byte _ = false

abbrev pub extends_byte : Kind → Bool
extends_byte (kind.Extend g W8) = true
extends_byte _ = false

-- that it is there: a byte register, 4 to 7, is another one with REX
abbrev pub reads_byte : Row → Bool
reads_byte r = is_byte r.width || extends_byte r.kind

abbrev pub read_bit : Bool → ℕ → ℕ
read_bit true n = n
read_bit false n = 0

-- the bits of REX that are read
abbrev pub lean_bits : Bool → Bool → Bool → Bool → ℕ → ℕ
lean_bits w r x b n = read_bit w (n / 8 % 2) * 8 + read_bit r (n / 4 % 2) * 4 + read_bit x (n / 2 % 2) * 2 + read_bit b (n % 2)

-- they are all that are set, and there are some unless REX is read itself
abbrev pub is_lean_bits : Bool → Bool → Bool → Bool → Bool → ℕ → Bool
is_lean_bits w r x b y n = (lean_bits w r x b n == n) && (y || not (n == 0))

-- no REX, or one that the row reads
abbrev pub is_lean : Row → Option ℕ → Bool
is_lean row None = true
is_lean row (Some n) =
    is_lean_bits (reads_w row.width) (reads_r row.operands) (has_modrm row.operands)
    (reads_b row.operands) (reads_byte row) n

pub record Normal (p : Parts) (row : Row) (insn : Insn) : Type 0 where
  pub width : Width
  pub laid : IsLaid p row width
  pub meant : insn_of row width p ≡ insn
  pub are_bytes : IsBytes (bytes_of p)
  pub told : is_told row ≡ true
  pub free : has_free_reg row ≡ true → digit_of p.modrm ≡ 0
  pub lean : is_lean row p.rex ≡ true

-- the parts are as chosen
pub record IsChosen (p : Parts) (c : Choice) : Type 0 where
  pub prefix : p.prefix ≡ c.prefix
  pub rex : p.rex ≡ c.rex
  pub mode : mode_of p.modrm ≡ c.mode
  pub scale : scale_of p.modrm ≡ c.scale

-- the row has no such spelling of the instruction
abbrev pub Without : Row → Insn → (Parts → Type 0) → Type 0
Without row insn P = (p : Parts) → Normal p row insn → P p → ⊥

-- ---- tests of parts

abbrev pub same_bool : Bool → Bool → Bool
same_bool true b = b
same_bool false b = not b

abbrev pub address_fits : Modrm → Bool
address_fits m = same_bool (takes_sib m.byte) (has_sib m.sib) && (length m.disp == displacement_length m.byte m.sib)

abbrev pub modrm_fits : Bool → Option Modrm → Bool
modrm_fits true None = false
modrm_fits true (Some m) = address_fits m
modrm_fits false None = true
modrm_fits false (Some _) = false

-- at a width that the row has with this prefix and this REX.W
abbrev pub is_laid : Row → Width → Parts → Bool
is_laid row w p = matches row (key_of p) && (modrm_fits (has_modrm row.operands) p.modrm && ((length p.imm == immediate_length row.immediate w) && has_fixed row.operands p))

-- the operands asked, as those of a row
abbrev pub shape_asked : Width → Asked → Shape
shape_asked w a = record { w = w; first = a.first; second = a.second; signed = a.signed; byte = a.byte; word = a.word; reg = a.reg; rm = a.rm }
