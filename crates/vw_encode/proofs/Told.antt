-- What an instruction tells of the operands that it was built of.
use Rattle.std.proofs.Common.{◌≡◌, ℕ, ℤ, Bool, true, false, not, refl, subst}
use Rattle.std.proofs.lemmas.Bool.{false≢true}
use Rattle.vw_insn.specs.declared.registers.Width.{Width}
use Rattle.vw_insn.specs.declared.registers.Width.TheVariants.{W8, W16, W32, W64}
use Rattle.vw_insn.specs.declared.operands.Place.{Place}
use Rattle.vw_insn.specs.declared.operands.Place.TheVariants as place
use Rattle.vw_rows.specs.declared.forms.Kind.{Kind}
use Rattle.vw_rows.specs.declared.forms.Kind.TheVariants as kind
use Rattle.vw_rows.specs.declared.forms.Immediate.{Immediate}
use Rattle.vw_rows.specs.declared.forms.Immediate.TheVariants as imm
use Rattle.vw_rows.specs.declared.shape.Shape.{Shape}
use Rattle.vw_rows.specs.declared.forms.Row.{Row}
use Rattle.vw_insn.specs.declared.instruction.Insn.{Insn}
use Rattle.vw_rows.specs.Parts.{Parts}
use Rattle.vw_rows.specs.Shape.{shape_of}
use Rattle.vw_rows.specs.Meaning.{insn_of, register_in, memory_in, is_given, source_or, third_operand, count_by, mov_immediate, built}
use Rattle.vw_encode.specs.search.Asked.{place_in, signed_in, signed_or_none, count_in, operands_asked}
use Rattle.vw_encode.specs.search.Normal.{tells_first, tells_second, tells_signed, tells_byte, is_xmm, is_mov, register_first, is_xchg, is_lea, shape_asked}

abbrev pub is_reg : Place → Bool
is_reg (place.Reg _) = true
is_reg (place.High _) = false
is_reg (place.Mem _) = false

abbrev pub is_mem : Place → Bool
is_mem (place.Reg _) = false
is_mem (place.High _) = false
is_mem (place.Mem _) = true

reg_again : (p : Place) → is_reg p ≡ true → place.Reg (register_in p) ≡ p
reg_again (place.Reg r) h = refl
reg_again (place.High r) h = absurd (false≢true h)
reg_again (place.Mem m) h = absurd (false≢true h)

mem_again : (p : Place) → is_mem p ≡ true → place.Mem (memory_in p) ≡ p
mem_again (place.Reg r) h = absurd (false≢true h)
mem_again (place.High r) h = absurd (false≢true h)
mem_again (place.Mem m) h = refl

place_given : (g : Bool) (p : Place) (n : ℤ) → not g ≡ true → place_in (source_or g p n) ≡ p
place_given true p n h = absurd (false≢true h)
place_given false p n h = refl

signed_given : (g : Bool) (p : Place) (n : ℤ) → g ≡ true → signed_in (source_or g p n) ≡ n
signed_given true p n h = refl
signed_given false p n h = absurd (false≢true h)

third_given : (g : Bool) (n : ℤ) → g ≡ true → signed_or_none (third_operand g n) ≡ n
third_given true n h = refl
third_given false n h = absurd (false≢true h)

abbrev no : false ≡ true → ⊥
no h = false≢true h

pub told_first : (k : Kind) (i : Immediate) (s : Shape) → tells_first k (is_given i) ≡ true → (register_first k ≡ true → is_reg s.first ≡ true) → (operands_asked (built k i s)).first ≡ s.first
told_first (kind.Alu op) i s h r = refl
told_first kind.Push i s h r = place_given (is_given i) s.first s.signed h
told_first kind.Pop i s h r = reg_again s.first (r refl)
told_first (kind.Extend g f) i s h r = reg_again s.first (r refl)
told_first kind.Imul i s h r = reg_again s.first (r refl)
told_first kind.CallInd i s h r = refl
told_first kind.JumpInd i s h r = refl
told_first kind.Test i s h r = refl
told_first kind.Xchg i s h r = reg_again s.first (r refl)
told_first kind.Mov i s h r = refl
told_first kind.MovImm i s h r = mov_first s.w s.first s.signed s.word (r refl)
  where
    mov_first : (w : Width) (p : Place) (n : ℤ) (word : ℕ) → is_reg p ≡ true → (operands_asked (mov_immediate w p n word)).first ≡ p
    mov_first W8 p n word r = refl
    mov_first W16 p n word r = refl
    mov_first W32 p n word r = refl
    mov_first W64 p n word r = reg_again p r
told_first kind.Lea i s h r = reg_again s.first (r refl)
told_first (kind.Shift op) i s h r = refl
told_first (kind.Unary op) i s h r = refl
told_first (kind.MulDiv op) i s h r = refl
told_first (kind.Cmov c) i s h r = reg_again s.first (r refl)
told_first (kind.Set c) i s h r = refl
told_first (kind.Bits op) i s h r = reg_again s.first (r refl)
told_first kind.Bt i s h r = reg_again s.first (r refl)
told_first kind.Bswap i s h r = reg_again s.first (r refl)
told_first _ i s h r = absurd (no h)

pub told_second : (k : Kind) (i : Immediate) (s : Shape) → tells_second k (is_given i) ≡ true → (is_xchg k ≡ true → is_reg s.second ≡ true) → (is_lea k ≡ true → is_mem s.second ≡ true) → (operands_asked (built k i s)).second ≡ s.second
told_second (kind.Alu op) i s h r m = place_given (is_given i) s.second s.signed h
told_second (kind.Extend g f) i s h r m = refl
told_second kind.Imul i s h r m = refl
told_second kind.Test i s h r m = place_given (is_given i) s.second s.signed h
told_second kind.Xchg i s h r m = reg_again s.second (r refl)
told_second kind.Mov i s h r m = place_given (is_given i) s.second s.signed h
told_second kind.Lea i s h r m = mem_again s.second (m refl)
told_second (kind.Cmov c) i s h r m = refl
told_second (kind.Bits op) i s h r m = refl
told_second kind.Bt i s h r m = place_given (is_given i) s.second s.signed h
told_second _ i s h r m = absurd (no h)

pub told_signed : (k : Kind) (i : Immediate) (s : Shape) → tells_signed k ≡ true → is_given i ≡ true → (operands_asked (built k i s)).signed ≡ s.signed
told_signed (kind.Alu op) i s h g = signed_given (is_given i) s.second s.signed g
told_signed kind.Push i s h g = signed_given (is_given i) s.first s.signed g
told_signed kind.Imul i s h g = third_given (is_given i) s.signed g
told_signed (kind.Jcc c) i s h g = refl
told_signed kind.Jump i s h g = refl
told_signed kind.Call i s h g = refl
told_signed kind.Test i s h g = signed_given (is_given i) s.second s.signed g
told_signed kind.Mov i s h g = signed_given (is_given i) s.second s.signed g
told_signed kind.Bt i s h g = signed_given (is_given i) s.second s.signed g
told_signed _ i s h g = absurd (no h)

pub told_byte : (k : Kind) (s : Shape) → tells_byte k ≡ true → (operands_asked (built k imm.Ub s)).byte ≡ s.byte
told_byte (kind.Shift op) s h = refl
told_byte (kind.Xmm x) s h = refl
told_byte _ s h = absurd (no h)

abbrev pub MovTold : Width → Shape → Kind → Immediate → Type 0
MovTold W8 s k i = (operands_asked (built k i s)).signed ≡ s.signed
MovTold W16 s k i = (operands_asked (built k i s)).signed ≡ s.signed
MovTold W32 s k i = (operands_asked (built k i s)).signed ≡ s.signed
MovTold W64 s k i = (operands_asked (built k i s)).word ≡ s.word

pub told_mov : (k : Kind) (i : Immediate) (s : Shape) (w : Width) → s.w ≡ w → is_mov k ≡ true → MovTold w s k i
told_mov kind.MovImm i s W8 e h = rw e refl
told_mov kind.MovImm i s W16 e h = rw e refl
told_mov kind.MovImm i s W32 e h = rw e refl
told_mov kind.MovImm i s W64 e h = rw e refl
told_mov _ i s w e h = absurd (no h)

pub told_xmm : (k : Kind) (i : Immediate) (s : Shape) → is_xmm k ≡ true → ((operands_asked (built k i s)).reg ≡ s.reg) × ((operands_asked (built k i s)).rm ≡ s.rm)
told_xmm (kind.Xmm x) i s h = (refl, refl)
told_xmm _ i s h = absurd (no h)

source_again : (g : Bool) (p : Place) (n : ℤ) → source_or g (place_in (source_or g p n)) (signed_in (source_or g p n)) ≡ source_or g p n
source_again true p n = refl
source_again false p n = refl

third_again : (g : Bool) (n : ℤ) → third_operand g (signed_or_none (third_operand g n)) ≡ third_operand g n
third_again true n = refl
third_again false n = refl

count_again : (i : Immediate) (n : ℕ) → count_by i (count_in (count_by i n)) ≡ count_by i n
count_again imm.Cl n = refl
count_again _ n = refl

mov_again : (w : Width) (p : Place) (n : ℤ) (word : ℕ) → mov_immediate w (operands_asked (mov_immediate w p n word)).first (operands_asked (mov_immediate w p n word)).signed (operands_asked (mov_immediate w p n word)).word ≡ mov_immediate w p n word
mov_again W8 p n word = refl
mov_again W16 p n word = refl
mov_again W32 p n word = refl
mov_again W64 p n word = refl

-- an instruction is built of its own operands
pub built_again : (k : Kind) (i : Immediate) (s : Shape) → built k i (shape_asked s.w (operands_asked (built k i s))) ≡ built k i s
built_again (kind.Alu op) i s = rw (source_again (is_given i) s.second s.signed) refl
built_again kind.Push i s = rw (source_again (is_given i) s.first s.signed) refl
built_again kind.Imul i s = rw (third_again (is_given i) s.signed) refl
built_again kind.Test i s = rw (source_again (is_given i) s.second s.signed) refl
built_again kind.Mov i s = rw (source_again (is_given i) s.second s.signed) refl
built_again kind.MovImm i s = mov_again s.w s.first s.signed s.word
built_again (kind.Shift op) i s = rw (count_again i s.byte) refl
built_again kind.Bt i s = rw (source_again (is_given i) s.second s.signed) refl
built_again _ i s = refl

-- so an instruction that a row may spell is built of the operands that it tells
pub may_be : (row : Row) (w : Width) (p : Parts) (insn : Insn) → insn_of row w p ≡ insn → built row.kind row.immediate (shape_asked w (operands_asked insn)) ≡ insn
may_be row w p insn meant = subst (λ (x : Insn). built row.kind row.immediate (shape_asked w (operands_asked x)) ≡ x) meant (built_again row.kind row.immediate (shape_of row w p))
