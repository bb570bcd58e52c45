-- Every instruction that has a spelling is one that the texts and the statements are defined of.
use Rattle.std.proofs.Common.{◌≡◌, ◌≢◌, ◌⊎◌, ℕ, zero, suc, ◌+◌, ◌*◌, ◌^◌, ◌<◌, ◌≤◌, ◌==◌, ℤ, pos, negsuc, Bool, true, false, ◌&&◌, ◌||◌, List, [], ◌∷◌, length, get_or, Option, Some, None, IfSome, refl, sym, ◌∙◌, ap, subst, arith, inl, inr}
use Rattle.std.specs.Prelude.{◌≤ℤ◌}
use Rattle.std.proofs.lemmas.Bool.{and_parts, cases_Bool, false≢true}
use Rattle.std.proofs.lemmas.Int.{ints}
use Rattle.std.specs.List.{list_all}
use Rattle.vw_insn.specs.declared.registers.Reg.TheVariants.{Rsp}
use Rattle.vw_insn.specs.declared.registers.Width.{Width}
use Rattle.vw_insn.specs.declared.registers.Width.TheVariants.{W8, W16, W32, W64}
use Rattle.vw_insn.specs.declared.operands.Base.TheVariants as base
use Rattle.vw_insn.specs.declared.operands.Place.{Place}
use Rattle.vw_insn.specs.declared.operands.Place.TheVariants as place
use Rattle.vw_insn.specs.declared.operands.Source.TheVariants as source
use Rattle.vw_insn.specs.declared.instruction.Insn.{Insn}
use Rattle.vw_insn.specs.Words.{number, register}
use Rattle.vw_insn.proofs.RegisterNumbers.{number_register}
use Rattle.vw_insn.specs.Listed.{IsIndex, IsMem, IsPlace, IsFullPlace, IsSource, IsFullSource, IsTested, IsBitNumber, IsWord, IsWide, IsNarrow, IsXmmOperand, IsListed}
use Rattle.vw_rows.specs.declared.patterns.Prefix.{Prefix}
use Rattle.vw_rows.specs.declared.patterns.Prefix.TheVariants.{Plain, P66, PF2, PF3}
use Rattle.vw_rows.specs.declared.forms.Kind.{Kind}
use Rattle.vw_rows.specs.declared.forms.Kind.TheVariants as kind
use Rattle.vw_rows.specs.declared.forms.Operands.{Operands}
use Rattle.vw_rows.specs.declared.forms.Operands.TheVariants as ops
use Rattle.vw_rows.specs.declared.forms.Sizing.{Sizing}
use Rattle.vw_rows.specs.declared.forms.Sizing.TheVariants as size
use Rattle.vw_rows.specs.declared.forms.Immediate.{Immediate}
use Rattle.vw_rows.specs.declared.forms.Immediate.TheVariants as imm
use Rattle.vw_rows.specs.declared.forms.Row.{Row}
use Rattle.vw_rows.specs.declared.shape.Shape.{Shape}
use Rattle.vw_rows.specs.Rows.{rows}
use Rattle.vw_rows.specs.Numbers.{IsBytes, signed_of, unsigned_of}
use Rattle.vw_rows.specs.Parts.{Modrm, Parts, bytes_of, mode, scale, index, rex_w, rex_r, rex_x, rex_b}
use Rattle.vw_rows.specs.Layout.{is_word, without_base, variable_width, wide_width, width_at, immediate_length, IsLaid}
use Rattle.vw_rows.specs.Shape.{register_place, base_at, index_at, memory_at, rm_place, reg_number, xmm_operand, rm_width, first_place, second_place, xmm_register, xmm_second, signed_immediate, byte_immediate}
use Rattle.vw_rows.specs.Meaning.{memory_in, is_given, source_or, mov_immediate, built, insn_of}
use Rattle.vw_rows.specs.Spelling.{Spells}
use Rattle.vw_rows.proofs.Bytes.{ModrmBytes, OptionalBytes, part_bytes}
use Rattle.vw_rows.proofs.Uniqueness.{rows_all}
use Rattle.vw_rows.proofs.Places.{register_has, word_has, rm_has, first_has, second_has}

-- ---- bytes of the parts

abbrev IsByte : Option ℕ → Type 0
IsByte o = IfSome o (λ b. b < 256)

-- what the parts of a list of bytes have
record Bytes (p : Parts) : Type 0 where
  sib : (m : Modrm) → p.modrm ≡ Some m → IsByte m.sib
  imm : (i : ℕ) → get_or p.imm i 0 < 256

modrm_sib : (o : Option Modrm) (m : Modrm) → OptionalBytes o → o ≡ Some m → IsByte m.sib
modrm_sib o m h e =
    let there : ModrmBytes m = subst (λ (x : Option Modrm). OptionalBytes x) e h in
    there.sib

parts_bytes : (p : Parts) → IsBytes (bytes_of p) → Bytes p
parts_bytes p h =
    let known = part_bytes p h in
    record { sib = λ m e. modrm_sib p.modrm m known.fields e; imm = known.imm }

-- ---- memory

pub bit_b : (rex : Option ℕ) → rex_b rex ≤ 1
bit_b None = omega arith
bit_b (Some b) = omega arith

pub bit_x : (rex : Option ℕ) → rex_x rex ≤ 1
bit_x None = omega arith
bit_x (Some b) = omega arith

pub bit_r : (rex : Option ℕ) → rex_r rex ≤ 1
bit_r None = omega arith
bit_r (Some b) = omega arith

not_rsp : (n : ℕ) → n < 16 → (n == 4) ≡ false → register n ≢ Rsp
not_rsp n lt miss e =
    let four : n ≡ 4 = sym (number_register n lt) ∙ ap number e in
    false≢true (sym miss ∙ rw four refl)

scale_listed : (k : ℕ) → k < 4 → (2 ^ k ≡ 1) ⊎ (2 ^ k ≡ 2) ⊎ (2 ^ k ≡ 4) ⊎ (2 ^ k ≡ 8)
scale_listed zero lt = inl refl
scale_listed (suc zero) lt = inr (inl refl)
scale_listed (suc (suc zero)) lt = inr (inr (inl refl))
scale_listed (suc (suc (suc zero))) lt = inr (inr (inr refl))
scale_listed (suc (suc (suc (suc k)))) lt = absurd (omega arith)

index_listed : (rex s : Option ℕ) → IsByte s → IsIndex (index_at rex s)
index_listed rex None h = tt
index_listed rex (Some b) h = elim (cases_Bool (index b + 8 * rex_x rex == 4)) [
  | inl hit ↦ rw hit tt
  | inr miss ↦ (let x = bit_x rex in rw miss (not_rsp (index b + 8 * rex_x rex) (omega arith) miss, scale_listed (scale b) (omega arith)))
]

rip_alone : (rex : Option ℕ) (byte : ℕ) (s : Option ℕ) → base_at rex byte s ≡ base.Rip → index_at rex s ≡ None
rip_alone rex byte None e = refl
rip_alone rex byte (Some b) e = elim (cases_Bool (without_base byte (Some b))) [
  | inl hit ↦ absurd (let f = rw hit at e in cc)
  | inr miss ↦ absurd (let f = rw miss at e in cc)
]

memory_listed : (rex : Option ℕ) (m : Modrm) → IsByte m.sib → IsMem (memory_at rex m)
memory_listed rex m h = record { index = index_listed rex m.sib h; rip = rip_alone rex m.byte m.sib }

-- ---- operands

register_listed : (w : Width) (rex : Option ℕ) (n : ℕ) → IsPlace (register_place w rex n)
register_listed w rex n = register_has IsPlace (λ r. tt) (λ h. tt) w rex n

register_full :
    (w : Width) (rex : Option ℕ) (n : ℕ) → IsWord w → IsFullPlace (register_place w rex n)
register_full w rex n word = word_has IsFullPlace (λ r. tt) w rex n word

abbrev SibByte : Option Modrm → Type 0
SibByte o = (m : Modrm) → o ≡ Some m → IsByte m.sib

rm_listed :
    (w : Width) (rex : Option ℕ) (o : Option Modrm) → SibByte o → IsPlace (rm_place w rex o)
rm_listed w rex o h =
    rm_has IsPlace w rex o tt (register_listed w rex) (λ m e. memory_listed rex m (h m e))

rm_full :
    (w : Width) (rex : Option ℕ) (o : Option Modrm) → IsWord w → SibByte o
    → IsFullPlace (rm_place w rex o)
rm_full w rex o word h =
    rm_has IsFullPlace w rex o tt (λ n. register_full w rex n word)
    (λ m e. memory_listed rex m (h m e))

xmm_listed : (rex : Option ℕ) (o : Option Modrm) → SibByte o → IsXmmOperand (xmm_operand rex o)
xmm_listed rex None h = omega arith
xmm_listed rex (Some m) h = elim (cases_Bool (mode m.byte == 3)) [
  | inl hit ↦ (let b = bit_b rex in rw hit (omega arith))
  | inr miss ↦ rw miss (memory_listed rex m (h m refl))
]

number_listed : (rex : Option ℕ) (o : Option Modrm) → reg_number rex o < 16
number_listed rex None = omega arith
number_listed rex (Some m) = let r = bit_r rex in omega arith

first_listed :
    (o : Operands) (k : Kind) (w : Width) (p : Parts) → SibByte p.modrm
    → IsPlace (first_place o k w p)
first_listed o k w p h =
    first_has IsPlace o k w p tt (register_listed w p.rex)
    (rm_listed (rm_width k w) p.rex p.modrm h)

second_listed :
    (o : Operands) (k : Kind) (w : Width) (p : Parts) → SibByte p.modrm
    → IsPlace (second_place o k w p)
second_listed o k w p h =
    second_has IsPlace o k w p tt (register_listed w p.rex)
    (rm_listed (rm_width k w) p.rex p.modrm h)

-- a kind whose E has the width of the operation
rm_word :
    (k : Kind) (w : Width) (p : Parts) → IsWord w → rm_width k w ≡ w → SibByte p.modrm
    → IsFullPlace (rm_place (rm_width k w) p.rex p.modrm)
rm_word k w p word e h = rw e (rm_full w p.rex p.modrm word h)

first_full :
    (o : Operands) (k : Kind) (w : Width) (p : Parts) → IsWord w → rm_width k w ≡ w
    → SibByte p.modrm → IsFullPlace (first_place o k w p)
first_full o k w p word e h =
    first_has IsFullPlace o k w p tt (λ n. register_full w p.rex n word) (rm_word k w p word e h)

second_full :
    (o : Operands) (k : Kind) (w : Width) (p : Parts) → IsWord w → rm_width k w ≡ w
    → SibByte p.modrm → IsFullPlace (second_place o k w p)
second_full o k w p word e h =
    second_has IsFullPlace o k w p tt (λ n. register_full w p.rex n word) (rm_word k w p word e h)

xmm_register_listed : (o : Operands) (p : Parts) → xmm_register o p < 16
xmm_register_listed ops.Xmm p = number_listed p.rex p.modrm
xmm_register_listed _ p = omega arith

xmm_second_listed :
    (o : Operands) (p : Parts) → SibByte p.modrm → IsXmmOperand (xmm_second o p)
xmm_second_listed ops.Xmm p h = xmm_listed p.rex p.modrm h
xmm_second_listed _ p h = omega arith

memory_in_listed : (p : Place) → IsPlace p → IsMem (memory_in p)
memory_in_listed (place.Reg r) h = record { index = tt; rip = λ e. refl }
memory_in_listed (place.High r) h = record { index = tt; rip = λ e. refl }
memory_in_listed (place.Mem m) h = h

source_listed : (b : Bool) (p : Place) (n : ℤ) → IsPlace p → IsSource (source_or b p n)
source_listed true p n h = tt
source_listed false p n h = h

source_full : (b : Bool) (p : Place) (n : ℤ) → IsFullPlace p → IsFullSource (source_or b p n)
source_full true p n h = tt
source_full false p n h = h

-- ---- widths

abbrev is_above_16 : Sizing → Bool
is_above_16 size.None = false
is_above_16 size.B = false
is_above_16 size.V = false
is_above_16 size.V32Or64 = true
is_above_16 size.Q = false
is_above_16 size.OnlyW = true
is_above_16 size.Narrow = false
is_above_16 size.Wide = false

variable_word : (p : Prefix) (b : Bool) → IfSome (variable_width p b) IsWord
variable_word P66 true = tt
variable_word P66 false = tt
variable_word Plain true = tt
variable_word Plain false = tt
variable_word PF2 true = tt
variable_word PF2 false = tt
variable_word PF3 true = tt
variable_word PF3 false = tt

wide_wide : (o : Option Width) → IfSome (wide_width o) IsWide
wide_wide None = tt
wide_wide (Some W8) = tt
wide_wide (Some W16) = tt
wide_wide (Some W32) = tt
wide_wide (Some W64) = tt

wide_word : (w : Width) → IsWide w → IsWord w
wide_word W8 h = absurd h
wide_word W16 h = absurd h
wide_word W32 h = tt
wide_word W64 h = tt

sizing_wide : (s : Sizing) (p : Prefix) (b : Bool) → is_above_16 s ≡ true → IfSome (width_at s p b) IsWide
sizing_wide size.None p b h = absurd (false≢true h)
sizing_wide size.B p b h = absurd (false≢true h)
sizing_wide size.V p b h = absurd (false≢true h)
sizing_wide size.V32Or64 p b h = wide_wide (variable_width p b)
sizing_wide size.Q p b h = absurd (false≢true h)
sizing_wide size.OnlyW p true h = tt
sizing_wide size.OnlyW p false h = tt
sizing_wide size.Narrow p b h = absurd (false≢true h)
sizing_wide size.Wide p b h = absurd (false≢true h)

wide_is_word : (o : Option Width) → IfSome o IsWide → IfSome o IsWord
wide_is_word None h = tt
wide_is_word (Some w) h = wide_word w h

sizing_word : (s : Sizing) (p : Prefix) (b : Bool) → is_word s ≡ true → IfSome (width_at s p b) IsWord
sizing_word size.None p b h = absurd (false≢true h)
sizing_word size.B p b h = absurd (false≢true h)
sizing_word size.V p b h = variable_word p b
sizing_word size.V32Or64 p b h = wide_is_word (wide_width (variable_width p b)) (wide_wide (variable_width p b))
sizing_word size.Q p b h = tt
sizing_word size.OnlyW p true h = tt
sizing_word size.OnlyW p false h = tt
sizing_word size.Narrow p b h = absurd (false≢true h)
sizing_word size.Wide p b h = absurd (false≢true h)

-- of an instruction of the row
pub laid_word : (p : Parts) (row : Row) (w : Width) → IsLaid p row w → is_word row.width ≡ true → IsWord w
laid_word p row w laid h = subst (λ (o : Option Width). IfSome o IsWord) laid.width (sizing_word row.width p.prefix (rex_w p.rex) h)

-- ---- immediates

signed_byte : (bytes : List ℕ) → length bytes ≡ 1 → get_or bytes 0 0 < 256 → (negsuc 127 ≤ℤ signed_of bytes) × (signed_of bytes ≤ℤ pos 127)
signed_byte [] len h = absurd (omega arith)
signed_byte (a ∷ []) len h = (omega (arith, ints), omega (arith, ints))
signed_byte (a ∷ b ∷ bs) len h = absurd (omega arith)

abbrev is_eg : Operands → Bool
is_eg ops.EG = true
is_eg _ = false

eg_is : (o : Operands) → is_eg o ≡ true → o ≡ ops.EG
eg_is ops.EG h = refl
eg_is _ h = absurd (false≢true h)

register_tested :
    (w : Width) (rex : Option ℕ) (n : ℕ) → IsTested (source.Place (register_place w rex n))
register_tested w rex n =
    register_has (λ p. IsTested (source.Place p)) (λ r. tt) (λ h. tt) w rex n

tested : (b : Bool) (o : Operands) (k : Kind) (w : Width) (p : Parts) (n : ℤ) → (b || is_eg o) ≡ true → IsTested (source_or b (second_place o k w p) n)
tested true o k w p n h = tt
tested false o k w p n h = rw (eg_is o h) (register_tested w p.rex (reg_number p.rex p.modrm))

-- bt: an immediate byte, or a register
abbrev numbers_bit : Immediate → Operands → Bool
numbers_bit imm.None o = is_eg o
numbers_bit imm.Ib o = true
numbers_bit _ o = false

register_bit :
    (w : Width) (rex : Option ℕ) (n : ℕ) → IsWord w
    → IsBitNumber (source.Place (register_place w rex n))
register_bit w rex n word = word_has (λ p. IsBitNumber (source.Place p)) (λ r. tt) w rex n word

bit_number :
    (i : Immediate) (o : Operands) (k : Kind) (w : Width) (p : Parts) → numbers_bit i o ≡ true
    → IsWord w → length p.imm ≡ immediate_length i w → get_or p.imm 0 0 < 256
    → IsBitNumber (source_or (is_given i) (second_place o k w p) (signed_immediate i p.imm))
bit_number imm.None o k w p h word len byte =
    rw (eg_is o h) (register_bit w p.rex (reg_number p.rex p.modrm) word)
bit_number imm.Ib o k w p h word len byte = signed_byte p.imm len byte
bit_number _ o k w p h word len byte = absurd (false≢true h)

mov_listed : (w : Width) (dst : Place) (n : ℤ) (word : ℕ) → IsPlace dst → IsListed (mov_immediate w dst n word)
mov_listed W8 dst n word h = (h, tt)
mov_listed W16 dst n word h = (h, tt)
mov_listed W32 dst n word h = (h, tt)
mov_listed W64 dst n word h = tt

abbrev is_narrow : Width → Bool
is_narrow W8 = true
is_narrow W16 = true
is_narrow W32 = true
is_narrow W64 = false

narrow : (w : Width) → is_narrow w ≡ true → IsNarrow w
narrow W8 h = tt
narrow W16 h = tt
narrow W32 h = tt
narrow W64 h = absurd (false≢true h)

-- ---- what the rows of each kind have

abbrev fits : Kind → Operands → Immediate → Sizing → Bool
fits (kind.Alu op) o i s = true
fits kind.Push o i s = is_word s
fits kind.Pop o i s = true
fits (kind.Extend signed from) o i s = is_narrow from && is_above_16 s
fits kind.Imul o i s = is_word s
fits (kind.Jcc c) o i s = true
fits kind.Jump o i s = true
fits kind.Call o i s = true
fits kind.Ret o i s = true
fits kind.Leave o i s = true
fits kind.CallInd o i s = is_word s
fits kind.JumpInd o i s = is_word s
fits kind.Test o i s = is_given i || is_eg o
fits kind.Xchg o i s = is_word s
fits kind.Mov o i s = true
fits kind.MovImm o i s = true
fits kind.Lea o i s = is_word s
fits kind.Nop o i s = true
fits kind.Widen o i s = is_word s
fits kind.SignA o i s = is_word s
fits (kind.Shift op) o i s = true
fits (kind.Unary op) o i s = true
fits (kind.MulDiv op) o i s = true
fits kind.Ud2 o i s = true
fits (kind.Cmov c) o i s = is_word s
fits (kind.Set c) o i s = true
fits (kind.Bits op) o i s = is_word s
fits kind.Bt o i s = is_word s && numbers_bit i o
fits kind.Bswap o i s = is_above_16 s
fits kind.Endbr o i s = true
fits (kind.Xmm row) o i s = true

abbrev row_fits : Row → Bool
row_fits r = fits r.kind r.operands r.immediate r.width

all_fit : list_all row_fits rows ≡ true
unfolding rows
all_fit = refl

abbrev shaped : Kind → Operands → Immediate → Width → Parts → Shape
shaped k o i w p = record {
  w = w;
  first = first_place o k w p;
  second = second_place o k w p;
  signed = signed_immediate i p.imm;
  byte = byte_immediate i p.imm;
  word = unsigned_of p.imm;
  reg = xmm_register o p;
  rm = xmm_second o p;
}

kind_listed : (k : Kind) (o : Operands) (i : Immediate) (s : Sizing) (w : Width) (p : Parts) → fits k o i s ≡ true → (is_word s ≡ true → IsWord w) → (is_above_16 s ≡ true → IsWide w) → length p.imm ≡ immediate_length i w → Bytes p → IsListed (built k i (shaped k o i w p))
kind_listed (kind.Alu op) o i s w p h word wide len b = (first_listed o (kind.Alu op) w p b.sib, source_listed (is_given i) (second_place o (kind.Alu op) w p) (signed_immediate i p.imm) (second_listed o (kind.Alu op) w p b.sib))
kind_listed kind.Push o i s w p h word wide len b = source_full (is_given i) (first_place o kind.Push w p) (signed_immediate i p.imm) (first_full o kind.Push w p (word h) refl b.sib)
kind_listed kind.Pop o i s w p h word wide len b = tt
kind_listed (kind.Extend signed from) o i s w p h word wide len b = (let both = and_parts (is_narrow from) (is_above_16 s) h in (narrow from both.0, wide both.1, second_listed o (kind.Extend signed from) w p b.sib))
kind_listed kind.Imul o i s w p h word wide len b = (word h, second_full o kind.Imul w p (word h) refl b.sib)
kind_listed (kind.Jcc c) o i s w p h word wide len b = tt
kind_listed kind.Jump o i s w p h word wide len b = tt
kind_listed kind.Call o i s w p h word wide len b = tt
kind_listed kind.Ret o i s w p h word wide len b = tt
kind_listed kind.Leave o i s w p h word wide len b = tt
kind_listed kind.CallInd o i s w p h word wide len b = first_full o kind.CallInd w p (word h) refl b.sib
kind_listed kind.JumpInd o i s w p h word wide len b = first_full o kind.JumpInd w p (word h) refl b.sib
kind_listed kind.Test o i s w p h word wide len b = (first_listed o kind.Test w p b.sib, tested (is_given i) o kind.Test w p (signed_immediate i p.imm) h)
kind_listed kind.Xchg o i s w p h word wide len b = word h
kind_listed kind.Mov o i s w p h word wide len b = (first_listed o kind.Mov w p b.sib, source_listed (is_given i) (second_place o kind.Mov w p) (signed_immediate i p.imm) (second_listed o kind.Mov w p b.sib))
kind_listed kind.MovImm o i s w p h word wide len b = mov_listed w (first_place o kind.MovImm w p) (signed_immediate i p.imm) (unsigned_of p.imm) (first_listed o kind.MovImm w p b.sib)
kind_listed kind.Lea o i s w p h word wide len b = (word h, memory_in_listed (second_place o kind.Lea w p) (second_listed o kind.Lea w p b.sib))
kind_listed kind.Nop o i s w p h word wide len b = tt
kind_listed kind.Widen o i s w p h word wide len b = word h
kind_listed kind.SignA o i s w p h word wide len b = word h
kind_listed (kind.Shift op) o i s w p h word wide len b = first_listed o (kind.Shift op) w p b.sib
kind_listed (kind.Unary op) o i s w p h word wide len b = first_listed o (kind.Unary op) w p b.sib
kind_listed (kind.MulDiv op) o i s w p h word wide len b = first_listed o (kind.MulDiv op) w p b.sib
kind_listed kind.Ud2 o i s w p h word wide len b = tt
kind_listed (kind.Cmov c) o i s w p h word wide len b = (word h, second_full o (kind.Cmov c) w p (word h) refl b.sib)
kind_listed (kind.Set c) o i s w p h word wide len b = first_listed o (kind.Set c) w p b.sib
kind_listed (kind.Bits op) o i s w p h word wide len b = (word h, second_full o (kind.Bits op) w p (word h) refl b.sib)
kind_listed kind.Bt o i s w p h word wide len b = (let both = and_parts (is_word s) (numbers_bit i o) h in (word both.0, bit_number i o kind.Bt w p both.1 (word both.0) len (b.imm 0)))
kind_listed kind.Bswap o i s w p h word wide len b = wide h
kind_listed kind.Endbr o i s w p h word wide len b = tt
kind_listed (kind.Xmm row) o i s w p h word wide len b = (xmm_register_listed o p, xmm_second_listed o p b.sib)

laid_listed : (p : Parts) (row : Row) (w : Width) → IsLaid p row w → IsBytes (bytes_of p) → IsListed (insn_of row w p)
laid_listed p row w laid bytes =
    let fit : row_fits row ≡ true = rows_all row_fits all_fit row laid.listed in
    let wide : is_above_16 row.width ≡ true → IsWide w = λ h. subst (λ (o : Option Width). IfSome o IsWide) laid.width (sizing_wide row.width p.prefix (rex_w p.rex) h) in
    kind_listed row.kind row.operands row.immediate row.width w p fit (laid_word p row w laid) wide laid.imm (parts_bytes p bytes)

pub spelled_listed : (bytes : List ℕ) (insn : Insn) → Spells bytes insn → IsListed insn
spelled_listed bytes insn s = subst (λ (x : Insn). IsListed x) s.meant (laid_listed s.parts s.row s.width s.laid (subst (λ (x : List ℕ). IsBytes x) s.spelled s.are_bytes))
