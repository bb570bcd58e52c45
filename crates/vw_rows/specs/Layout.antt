-- Which parts an instruction of a row has, and how long each is: equations on lengths, and two fields that
-- rows fix.
use Rattle.std.specs.Prelude.{◌≡◌, ℕ, ◌<◌, ◌==◌, Bool, true, false, not, ◌&&◌, if◌then◌else◌, Option, None, Some, IfSome, length}
use Rattle.vw_insn.specs.declared.registers.Width.{Width}
use Rattle.vw_insn.specs.declared.registers.Width.TheVariants.{W8, W16, W32, W64}
use Rattle.vw_rows.specs.declared.patterns.Prefix.{Prefix}
use Rattle.vw_rows.specs.declared.patterns.Prefix.TheVariants.{Plain, P66, PF2, PF3}
use Rattle.vw_rows.specs.declared.patterns.Key.{Key}
use Rattle.vw_rows.specs.declared.forms.Operands.{Operands}
use Rattle.vw_rows.specs.declared.forms.Operands.TheVariants as ops
use Rattle.vw_rows.specs.declared.forms.Sizing.{Sizing}
use Rattle.vw_rows.specs.declared.forms.Sizing.TheVariants as size
use Rattle.vw_rows.specs.declared.forms.Immediate.{Immediate}
use Rattle.vw_rows.specs.declared.forms.Immediate.TheVariants as imm
use Rattle.vw_rows.specs.declared.forms.Row.{Row}
use Rattle.vw_rows.specs.Rows.{rows}
use Rattle.vw_rows.specs.Lookup.{IsIn, key, matches}
use Rattle.vw_rows.specs.Numbers.{byte_of}
use Rattle.vw_rows.specs.Parts.{Modrm, Parts, mode, reg, rm, base, rex_w, rex_b}

-- what a row is found by. Without ModRM the digit is 0 and the form is memory: no row without ModRM asks
-- either.
abbrev pub digit_of : Option Modrm → ℕ
digit_of None = 0
digit_of (Some m) = reg m.byte

abbrev pub is_register_form : Option Modrm → Bool
is_register_form None = false
is_register_form (Some m) = mode m.byte == 3

abbrev pub key_of : Parts → Key
key_of p = key p.prefix p.map p.opcode (digit_of p.modrm) (is_register_form p.modrm)

abbrev pub has_modrm : Operands → Bool
has_modrm ops.None = false
has_modrm ops.EG = true
has_modrm ops.GE = true
has_modrm ops.Accumulator = false
has_modrm ops.E = true
has_modrm ops.OpcodeReg = false
has_modrm ops.WithoutRexB = false
has_modrm ops.EndsInFa = false
has_modrm ops.Xmm = true

-- The width of variable operands: 64 with REX.W, 16 with 66, else 32 (SDM volume 2, 2.2.1.2). Both
-- together are not spelled.
abbrev pub variable_width : Prefix → Bool → Option Width
variable_width P66 true = None
variable_width P66 false = Some W16
variable_width Plain true = Some W64
variable_width Plain false = Some W32
variable_width PF2 true = Some W64
variable_width PF2 false = Some W32
variable_width PF3 true = Some W64
variable_width PF3 false = Some W32

-- not 16
abbrev pub wide_width : Option Width → Option Width
wide_width None = None
wide_width (Some W8) = None
wide_width (Some W16) = None
wide_width (Some W32) = Some W32
wide_width (Some W64) = Some W64

-- The width of an instruction with this prefix and this REX.W, and nothing where they are not spelled
-- together. An instruction whose row names no width counts 32.
abbrev pub width_at : Sizing → Prefix → Bool → Option Width
width_at size.None prefix w = Some W32
width_at size.B prefix w = Some W8
width_at size.V prefix w = variable_width prefix w
width_at size.V32Or64 prefix w = wide_width (variable_width prefix w)
width_at size.Q prefix w = Some W64
width_at size.OnlyW prefix w = if w then Some W64 else None
width_at size.Narrow prefix w = if w then None else Some W32
width_at size.Wide prefix w = if w then Some W64 else Some W32

-- which widths are never 8 bits
abbrev pub is_word : Sizing → Bool
is_word size.None = false
is_word size.B = false
is_word size.V = true
is_word size.V32Or64 = true
is_word size.Q = true
is_word size.OnlyW = true
is_word size.Narrow = false
is_word size.Wide = false

-- ModRM is followed by a SIB where it is memory with r/m 4 (SDM volume 2, table 2-2)
abbrev pub takes_sib : ℕ → Bool
takes_sib byte = not (mode byte == 3) && (rm byte == 4)

-- memory has no base register: r/m or the SIB's base is 5 with mod 0 (SDM volume 2, tables 2-2 and 2-3)
abbrev pub without_base : ℕ → Option ℕ → Bool
without_base byte None = (mode byte == 0) && (rm byte == 5)
without_base byte (Some sib) = (mode byte == 0) && (base sib == 5)

-- how many bytes of displacement stand behind ModRM and SIB (SDM volume 2, tables 2-2 and 2-3)
abbrev pub displacement_length : ℕ → Option ℕ → ℕ
displacement_length byte sib = if mode byte == 1 then 1 else if mode byte == 2 then 4 else if without_base byte sib then 4 else 0

abbrev pub has_sib : Option ℕ → Bool
has_sib None = false
has_sib (Some _) = true

pub record IsAddress (m : Modrm) : Type 0 where
  pub sib : has_sib m.sib ≡ takes_sib m.byte
  pub disp : length m.disp ≡ displacement_length m.byte m.sib

-- ModRM is there exactly where the row has one
abbrev pub IsModrm : Bool → Option Modrm → Type 0
IsModrm true (Some m) = IsAddress m
IsModrm true None = ⊥
IsModrm false (Some _) = ⊥
IsModrm false None = Unit {0}

-- two bytes at width 16, else four (SDM volume 2, A.2.2)
abbrev pub iz_length : Width → ℕ
iz_length W8 = 4
iz_length W16 = 2
iz_length W32 = 4
iz_length W64 = 4

-- as many bytes as the register has
abbrev pub iv_length : Width → ℕ
iv_length W8 = 4
iv_length W16 = 2
iv_length W32 = 4
iv_length W64 = 8

-- how many bytes of immediate there are, or of the opcode behind the byte that the row is found by
abbrev pub immediate_length : Immediate → Width → ℕ
immediate_length imm.None w = 0
immediate_length imm.Ib w = 1
immediate_length imm.Iz w = iz_length w
immediate_length imm.Ub w = 1
immediate_length imm.Rel8 w = 1
immediate_length imm.Rel32 w = 4
immediate_length imm.By1 w = 0
immediate_length imm.Cl w = 0
immediate_length imm.Iv w = iv_length w
immediate_length imm.OpcodeByte w = 1

-- REX has four bits
abbrev pub IsRex : Option ℕ → Type 0
IsRex rex = IfSome rex (λ bits. bits < 16)

-- what a row fixes and is not found by: REX.B of 90 is 0, since with it 90 is XCHG of r8 and rAX; the
-- opcode of F3 0F 1E FA ends in FA, and what else begins with F3 0F 1E is no instruction here
abbrev pub has_fixed : Operands → Parts → Bool
has_fixed ops.None p = true
has_fixed ops.EG p = true
has_fixed ops.GE p = true
has_fixed ops.Accumulator p = true
has_fixed ops.E p = true
has_fixed ops.OpcodeReg p = true
has_fixed ops.WithoutRexB p = rex_b p.rex == 0
has_fixed ops.EndsInFa p = byte_of p.imm == 0xFA
has_fixed ops.Xmm p = true

-- The parts are those of an instruction of the row, at the width. A bit of REX, or a reg field, that no
-- line here and no operand names is free.
pub record IsLaid (p : Parts) (row : Row) (w : Width) : Type 0 where
  pub listed : IsIn row rows
  pub found : matches row (key_of p) ≡ true
  pub rex : IsRex p.rex
  pub width : width_at row.width p.prefix (rex_w p.rex) ≡ Some w
  pub modrm : IsModrm (has_modrm row.operands) p.modrm
  pub imm : length p.imm ≡ immediate_length row.immediate w
  pub fixed : has_fixed row.operands p ≡ true
