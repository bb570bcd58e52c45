-- A normal spelling is the candidate of its own choice.
use Rattle.std.proofs.Common.{◌≡◌, ◌⊎◌, ℕ, ◌+◌, ◌*◌, ◌/◌, ◌%◌, ◌<◌, ◌≤◌, ◌==◌, Bool, true, false, not, cond, List, [], ◌∷◌, length, take, Option, None, Some, refl, sym, ◌∙◌, ap, subst, arith, inl, inr}
use Rattle.std.proofs.lemmas.Bool.{and_parts, cases_Bool, eqb-true, false≢true}
use Rattle.std.proofs.lemmas.List.{take-append-le}
use Rattle.std.specs.Int.{w32, cast_unsigned, to_le_bytes}
use Rattle.vw_insn.specs.declared.registers.Width.{Width}
use Rattle.vw_insn.specs.declared.registers.Width.TheVariants.{W8, W16, W32, W64}
use Rattle.vw_insn.specs.declared.operands.Place.{Place}
use Rattle.vw_insn.specs.declared.operands.Mem.{Mem}
use Rattle.vw_insn.specs.declared.instruction.Insn.{Insn}
use Rattle.vw_rows.specs.declared.patterns.Prefix.{Prefix}
use Rattle.vw_rows.specs.declared.patterns.Map.{Map}
use Rattle.vw_rows.specs.declared.patterns.Form.{Form}
use Rattle.vw_rows.specs.declared.patterns.Form.TheVariants.{Any, Memory, Register}
use Rattle.vw_rows.specs.declared.forms.Kind.{Kind}
use Rattle.vw_rows.specs.declared.forms.Kind.TheVariants as kind
use Rattle.vw_rows.specs.declared.forms.Operands.{Operands}
use Rattle.vw_rows.specs.declared.forms.Operands.TheVariants as ops
use Rattle.vw_rows.specs.declared.forms.Immediate.{Immediate}
use Rattle.vw_rows.specs.declared.forms.Immediate.TheVariants as imm
use Rattle.vw_rows.specs.declared.forms.Row.{Row}
use Rattle.vw_rows.specs.declared.shape.Shape.{Shape}
use Rattle.vw_rows.specs.Numbers.{IsBytes, signed_of, byte_of, unsigned_of}
use Rattle.vw_rows.specs.Parts.{Modrm, Parts, mode, reg, rm, rex_r, rex_b}
use Rattle.vw_rows.specs.Layout.{is_word, digit_of, is_register_form, key_of, has_modrm, displacement_length, immediate_length, has_fixed, IsAddress, IsModrm, IsLaid}
use Rattle.vw_rows.specs.Lookup.{has_digit, has_form}
use Rattle.vw_rows.specs.Shape.{register_place, memory_at, rm_place, reg_number, xmm_operand, rm_width, first_place, second_place, xmm_register, xmm_second, signed_immediate, byte_immediate, shape_of}
use Rattle.vw_rows.specs.Meaning.{is_given, built, insn_of}
use Rattle.vw_rows.proofs.Matching.{tests-of, same_map-≡}
use Rattle.vw_encode.specs.declared.asked.Asked.{Asked}
use Rattle.vw_encode.specs.declared.candidate.Choice.{Choice}
use Rattle.vw_encode.specs.search.Asked.{operands_asked, place_number, xmm_number, place_memory, xmm_memory}
use Rattle.vw_encode.specs.search.Candidate.{operand_number, operand_memory, digit_or_zero, reg_field, rm_field, modrm_byte, sib_field, opcode_byte, signed_block, immediate_block, displacement_of, modrm_candidate, optional_modrm, candidate}
use Rattle.vw_encode.specs.Order.{mode_of, scale_in, scale_of}
use Rattle.vw_encode.specs.search.Normal.{Normal, IsChosen, asks_first, asks_second, tells_byte, is_mov, register_first, is_xchg, is_lea, is_extend, is_register, is_memory, full_first, is_eg, is_ge, is_opcode_reg, is_xmm_form, ends_in_fa, reads_signed, is_iv, is_ub, is_opcode_byte, is_free, has_free_reg}
use Rattle.vw_encode.proofs.Told.{is_reg, is_mem, told_first, told_second, told_signed, told_byte, told_mov, told_xmm}
use Rattle.vw_encode.proofs.Digits.{unsigned_again}
use Rattle.vw_rows.proofs.Bytes.{ModrmBytes, OptionalBytes, PartBytes, part_bytes}
use Rattle.vw_encode.proofs.Facts.{follows, is_w8, word_width, Tests, tests_of}
use Rattle.vw_encode.proofs.Fields.{IsWritten, field_b, field_r, rm_memory, sib_memory, disp_again, disp_memory, no_sib_at, no_disp_at, empty_list}

-- ---- registers and memory where a kind has nothing else

place_reg : (w : Width) (rex : Option ℕ) (n : ℕ) → is_w8 w ≡ false → is_reg (register_place w rex n) ≡ true
place_reg W8 rex n h = absurd (false≢true (sym h))
place_reg W16 rex n h = refl
place_reg W32 rex n h = refl
place_reg W64 rex n h = refl

rm_width_is : (k : Kind) (w : Width) → not (is_extend k) ≡ true → rm_width k w ≡ w
rm_width_is (kind.Extend g f) w h = absurd (false≢true h)
rm_width_is _ w h = refl

rm_reg : (w : Width) (rex : Option ℕ) (o : Option Modrm) → is_w8 w ≡ false → is_register_form o ≡ true → is_reg (rm_place w rex o) ≡ true
rm_reg w rex None h e = absurd (false≢true e)
rm_reg w rex (Some m) h e = rw e (place_reg w rex (rm m.byte + 8 * rex_b rex) h)

rm_mem : (w : Width) (rex : Option ℕ) (o : Option Modrm) → IsModrm true o → is_register_form o ≡ false → is_mem (rm_place w rex o) ≡ true
rm_mem w rex None laid e = absurd laid
rm_mem w rex (Some m) laid e = rw e refl

register_form : (f : Form) (b : Bool) → has_form f b ≡ true → is_register f ≡ true → b ≡ true
register_form Any b h e = absurd (false≢true e)
register_form Memory b h e = absurd (false≢true e)
register_form Register b h e = h

memory_form : (f : Form) (b : Bool) → has_form f b ≡ true → is_memory f ≡ true → b ≡ false
memory_form Any b h e = absurd (false≢true e)
memory_form Memory true h e = absurd (false≢true h)
memory_form Memory false h e = refl
memory_form Register b h e = absurd (false≢true e)

first_reg : (o : Operands) (k : Kind) (f : Form) (w : Width) (p : Parts) → is_w8 w ≡ false → has_form f (is_register_form p.modrm) ≡ true → full_first o f (is_extend k) ≡ true → is_reg (first_place o k w p) ≡ true
first_reg ops.None k f w p h e t = refl
first_reg ops.EG k f w p h e t =
    let both = and_parts (is_register f) (not (is_extend k)) t in
    rw (rm_width_is k w both.1) (rm_reg w p.rex p.modrm h (register_form f (is_register_form p.modrm) e both.0))
first_reg ops.GE k f w p h e t = place_reg w p.rex (reg_number p.rex p.modrm) h
first_reg ops.Accumulator k f w p h e t = refl
first_reg ops.E k f w p h e t =
    let both = and_parts (is_register f) (not (is_extend k)) t in
    rw (rm_width_is k w both.1) (rm_reg w p.rex p.modrm h (register_form f (is_register_form p.modrm) e both.0))
first_reg ops.OpcodeReg k f w p h e t = place_reg w p.rex (p.opcode % 8 + 8 * rex_b p.rex) h
first_reg ops.WithoutRexB k f w p h e t = refl
first_reg ops.EndsInFa k f w p h e t = refl
first_reg ops.Xmm k f w p h e t = refl

second_reg : (o : Operands) (k : Kind) (w : Width) (p : Parts) → is_w8 w ≡ false → is_eg o ≡ true → is_reg (second_place o k w p) ≡ true
second_reg ops.EG k w p h t = place_reg w p.rex (reg_number p.rex p.modrm) h
second_reg _ k w p h t = absurd (false≢true t)

second_mem : (o : Operands) (k : Kind) (w : Width) (p : Parts) → IsModrm (has_modrm o) p.modrm → is_register_form p.modrm ≡ false → is_ge o ≡ true → is_mem (second_place o k w p) ≡ true
second_mem ops.GE k w p laid h t = rm_mem (rm_width k w) p.rex p.modrm laid h
second_mem _ k w p laid h t = absurd (false≢true t)

-- ---- what is asked is what the parts name

record Known (a : Asked) (o : Operands) (k : Kind) (i : Immediate) (w : Width) (p : Parts) : Type 0 where
  first : asks_first o ≡ true → a.first ≡ first_place o k w p
  second : asks_second o ≡ true → a.second ≡ second_place o k w p
  xmm : is_xmm_form o ≡ true → (a.reg ≡ xmm_register o p) × (a.rm ≡ xmm_second o p)
  signed : reads_signed i ≡ true → a.signed ≡ signed_immediate i p.imm
  byte : i ≡ imm.Ub → a.byte ≡ byte_immediate imm.Ub p.imm

signed_is_given : (i : Immediate) → reads_signed i ≡ true → is_given i ≡ true
signed_is_given imm.Ib h = refl
signed_is_given imm.Iz h = refl
signed_is_given imm.Rel8 h = refl
signed_is_given imm.Rel32 h = refl
signed_is_given _ h = absurd (false≢true h)

byte_known : (row : Row) (w : Width) (p : Parts) (i : Immediate) → row.immediate ≡ i → i ≡ imm.Ub → tells_byte row.kind ≡ true → (operands_asked (insn_of row w p)).byte ≡ byte_immediate imm.Ub p.imm
byte_known row w p i e d h =
    let is : row.immediate ≡ imm.Ub = e ∙ d in
    let s = shape_of row w p in
    let one : (operands_asked (built row.kind row.immediate s)).byte ≡ s.byte = rw is (told_byte row.kind (record { w = w; first = s.first; second = s.second; signed = signed_immediate imm.Ub p.imm; byte = byte_immediate imm.Ub p.imm; word = s.word; reg = s.reg; rm = s.rm }) h) in
    one ∙ rw is refl

known : (row : Row) (w : Width) (p : Parts) → IsLaid p row w → Tests row → Known (operands_asked (insn_of row w p)) row.operands row.kind row.immediate w p
known row w p laid t =
    let s = shape_of row w p in
    let found = tests-of row (key_of p) laid.found in
    let reg_first : register_first row.kind ≡ true → is_reg (first_place row.operands row.kind w p) ≡ true = λ r.
    let both = and_parts (is_word row.width) (full_first row.operands row.pattern.form (is_extend row.kind)) (follows (register_first row.kind) _ t.full r) in
    first_reg row.operands row.kind row.pattern.form w p (word_width row p w laid both.0) found.form both.1 in
    let reg_second : is_xchg row.kind ≡ true → is_reg (second_place row.operands row.kind w p) ≡ true = λ r.
    let both = and_parts (is_word row.width) (is_eg row.operands) (follows (is_xchg row.kind) _ t.register r) in
    second_reg row.operands row.kind w p (word_width row p w laid both.0) both.1 in
    let mem_second : is_lea row.kind ≡ true → is_mem (second_place row.operands row.kind w p) ≡ true = λ r.
    let both = and_parts (is_memory row.pattern.form) (is_ge row.operands) (follows (is_lea row.kind) _ t.memory r) in
    second_mem row.operands row.kind w p laid.modrm (memory_form row.pattern.form (is_register_form p.modrm) found.form both.0) both.1 in
    record {
      first = λ h. told_first row.kind row.immediate s (follows (asks_first row.operands) _ t.first h) reg_first;
      second = λ h. told_second row.kind row.immediate s (follows (asks_second row.operands) _ t.second h) reg_second mem_second;
      xmm = λ h. told_xmm row.kind row.immediate s (follows (is_xmm_form row.operands) _ t.xmm h);
      signed = λ h. told_signed row.kind row.immediate s (follows (reads_signed row.immediate) _ t.signed h) (signed_is_given row.immediate h);
      byte = λ h. byte_known row w p row.immediate refl h (follows (is_ub row.immediate) _ t.byte (rw h refl));
    }

-- ---- the opcode

plus_first : (o : Operands) (k : Kind) (w : Width) (p : Parts) (pl : Place) → is_opcode_reg o ≡ true → pl ≡ first_place o k w p → place_number pl % 8 ≡ p.opcode % 8
plus_first ops.OpcodeReg k w p pl h e = rw e (field_b w p.rex (p.opcode % 8) (omega arith))
plus_first _ k w p pl h e = absurd (false≢true h)

asks_opcode : (o : Operands) → is_opcode_reg o ≡ true → asks_first o ≡ true
asks_opcode ops.OpcodeReg h = refl
asks_opcode _ h = absurd (false≢true h)

opcode_again : (plus : Bool) (own opcode n : ℕ) → cond plus (opcode / 8 == own / 8) (opcode == own) ≡ true → (plus ≡ true → n ≡ opcode % 8) → cond plus (own / 8 * 8 + n) own ≡ opcode
opcode_again true own opcode n h e = (let is : opcode / 8 ≡ own / 8 = eqb-true (opcode / 8) (own / 8) h in let low = e refl in omega arith)
opcode_again false own opcode n h e = sym (eqb-true opcode own h)

-- ---- ModRM

record Fits (o : Operands) (d : Option ℕ) (a : Asked) (rex : Option ℕ) (m : Modrm) : Type 0 where
  reg_is : reg_field o d a ≡ reg m.byte
  number_is : (mode m.byte == 3) ≡ true → operand_number o a % 8 ≡ rm m.byte
  memory_is : (mode m.byte == 3) ≡ false → operand_memory o a ≡ memory_at rex m

place_rm : (w : Width) (rex : Option ℕ) (m : Modrm) (pl : Place) → pl ≡ rm_place w rex (Some m) → (mode m.byte == 3) ≡ true → place_number pl % 8 ≡ rm m.byte
place_rm w rex m pl e h =
    let is : rm_place w rex (Some m) ≡ register_place w rex (rm m.byte + 8 * rex_b rex) = rw h refl in
    rw (e ∙ is) (field_b w rex (rm m.byte) (omega arith))

place_mem : (w : Width) (rex : Option ℕ) (m : Modrm) (pl : Place) → pl ≡ rm_place w rex (Some m) → (mode m.byte == 3) ≡ false → place_memory pl ≡ memory_at rex m
place_mem w rex m pl e h = rw (e, h) refl

digit_again : (d : Option ℕ) (n : ℕ) → n < 8 → has_digit d n ≡ true → (d ≡ None → n ≡ 0) → digit_or_zero d ≡ n
digit_again None n lt h e = sym (e refl)
digit_again (Some k) n lt h e = (let is : n ≡ k = eqb-true n k h in omega arith)

xmm_reg : (rex : Option ℕ) (m : Modrm) → (mode m.byte == 3) ≡ true → xmm_number (xmm_operand rex (Some m)) % 8 ≡ rm m.byte
xmm_reg rex m h = rw h (omega arith)

xmm_mem : (rex : Option ℕ) (m : Modrm) → (mode m.byte == 3) ≡ false → xmm_memory (xmm_operand rex (Some m)) ≡ memory_at rex m
xmm_mem rex m h = rw h refl

fits : (o : Operands) (k : Kind) (i : Immediate) (d : Option ℕ) (f : Form) (a : Asked) (w : Width) (p : Parts) (m : Modrm) → has_modrm o ≡ true → p.modrm ≡ Some m → Known a o k i w p → has_digit d (reg m.byte) ≡ true → (is_free o d ≡ true → reg m.byte ≡ 0) → Fits o d a p.rex m
fits ops.None k i d f a w p m is e kn h free = absurd (false≢true is)
fits ops.EG k i d f a w p m is e kn h free =
    let one : a.first ≡ rm_place (rm_width k w) p.rex (Some m) = kn.first refl ∙ ap (λ (x : Option Modrm). rm_place (rm_width k w) p.rex x) e in
    let other : a.second ≡ register_place w p.rex (reg m.byte + 8 * rex_r p.rex) = kn.second refl ∙ ap (λ (x : Option Modrm). register_place w p.rex (reg_number p.rex x)) e in
    record { reg_is = rw other (field_r w p.rex (reg m.byte) (omega arith)); number_is = place_rm (rm_width k w) p.rex m a.first one; memory_is = place_mem (rm_width k w) p.rex m a.first one }
fits ops.GE k i d f a w p m is e kn h free =
    let one : a.second ≡ rm_place (rm_width k w) p.rex (Some m) = kn.second refl ∙ ap (λ (x : Option Modrm). rm_place (rm_width k w) p.rex x) e in
    let other : a.first ≡ register_place w p.rex (reg m.byte + 8 * rex_r p.rex) = kn.first refl ∙ ap (λ (x : Option Modrm). register_place w p.rex (reg_number p.rex x)) e in
    record { reg_is = rw other (field_r w p.rex (reg m.byte) (omega arith)); number_is = place_rm (rm_width k w) p.rex m a.second one; memory_is = place_mem (rm_width k w) p.rex m a.second one }
fits ops.Accumulator k i d f a w p m is e kn h free = absurd (false≢true is)
fits ops.E k i d f a w p m is e kn h free =
    let one : a.first ≡ rm_place (rm_width k w) p.rex (Some m) = kn.first refl ∙ ap (λ (x : Option Modrm). rm_place (rm_width k w) p.rex x) e in
    record { reg_is = digit_again d (reg m.byte) (omega arith) h (λ n. free (rw n refl)); number_is = place_rm (rm_width k w) p.rex m a.first one; memory_is = place_mem (rm_width k w) p.rex m a.first one }
fits ops.OpcodeReg k i d f a w p m is e kn h free = absurd (false≢true is)
fits ops.WithoutRexB k i d f a w p m is e kn h free = absurd (false≢true is)
fits ops.EndsInFa k i d f a w p m is e kn h free = absurd (false≢true is)
fits ops.Xmm k i d f a w p m is e kn h free =
    let both = kn.xmm refl in
    let one : a.rm ≡ xmm_operand p.rex (Some m) = both.1 ∙ ap (λ (x : Option Modrm). xmm_operand p.rex x) e in
    let other : a.reg ≡ reg m.byte + 8 * rex_r p.rex = both.0 ∙ ap (λ (x : Option Modrm). reg_number p.rex x) e in
    record { reg_is = omega arith; number_is = λ t. rw one (xmm_reg p.rex m t); memory_is = λ t. rw one (xmm_mem p.rex m t) }

same_modrm : (m n : Modrm) → m.byte ≡ n.byte → m.sib ≡ n.sib → m.disp ≡ n.disp → m ≡ n
same_modrm m n e f g = rw (e, f, g) refl

modrm_again : (row : Row) (a : Asked) (rex : Option ℕ) (m : Modrm) (c : Choice) → Fits row.operands row.pattern.digit a rex m → IsAddress m → ModrmBytes m → mode m.byte ≡ c.mode → scale_in m.sib ≡ c.scale
    → modrm_candidate (modrm_byte row c a) (sib_field c.scale (operand_memory row.operands a)) (operand_memory row.operands a) ≡ m
modrm_again row a rex m c fit laid bytes e d =
    let mem = operand_memory row.operands a in
    let number = operand_number row.operands a in
    let lt = bytes.byte in
    elim (cases_Bool (mode m.byte == 3)) [
      | inl hit ↦ (
          let three : mode m.byte ≡ 3 = eqb-true (mode m.byte) 3 hit in
          let none : m.sib ≡ None = no_sib_at m.byte m.sib three laid.sib in
          let field : rm_field (mode m.byte) (scale_in m.sib) number mem ≡ rm m.byte = rw hit (fit.number_is hit) in
          let byte : modrm_byte row c a ≡ m.byte = rw (← e, ← d, fit.reg_is, field) (omega arith) in
          let sib : sib_field c.scale mem ≡ m.sib = rw (← d, none) refl in
          let zero_length : displacement_length m.byte m.sib ≡ 0 = no_disp_at m.byte m.sib three in
          let disp : displacement_of (modrm_byte row c a) (sib_field c.scale mem) mem ≡ m.disp = rw (byte, sib, zero_length) (sym (empty_list m.disp (laid.disp ∙ zero_length))) in
          same_modrm (modrm_candidate (modrm_byte row c a) (sib_field c.scale mem) mem) m byte sib disp)
      | inr miss ↦ (
          let is : mem ≡ memory_at rex m = fit.memory_is miss in
          let field : rm_field (mode m.byte) (scale_in m.sib) number mem ≡ rm m.byte = rw (miss, is) (rm_memory rex m.byte m.sib m.disp laid.sib) in
          let byte : modrm_byte row c a ≡ m.byte = rw (← e, ← d, fit.reg_is, field) (omega arith) in
          let sib : sib_field c.scale mem ≡ m.sib = rw (← d, is) (sib_memory rex m.byte m.sib m.disp bytes.sib) in
          let disp : displacement_of (modrm_byte row c a) (sib_field c.scale mem) mem ≡ m.disp = rw (byte, sib, is) (disp_memory m.byte m.sib m.disp laid.disp bytes.disp) in
          same_modrm (modrm_candidate (modrm_byte row c a) (sib_field c.scale mem) mem) m byte sib disp)
    ]

abbrev some_modrm : Modrm → Option Modrm
some_modrm m = Some m

modrm_whole : (row : Row) (w : Width) (p : Parts) (a : Asked) (c : Choice) (is : Bool) (o : Option Modrm) → has_modrm row.operands ≡ is → p.modrm ≡ o → IsModrm is o → OptionalBytes o → mode_of o ≡ c.mode → scale_of o ≡ c.scale → Known a row.operands row.kind row.immediate w p → IsLaid p row w → Tests row
    → (has_free_reg row ≡ true → digit_of o ≡ 0) → optional_modrm is (modrm_candidate (modrm_byte row c a) (sib_field c.scale (operand_memory row.operands a)) (operand_memory row.operands a)) ≡ o
modrm_whole row w p a c false None has there laid bytes e d kn all t free = refl
modrm_whole row w p a c false (Some m) has there laid bytes e d kn all t free = absurd laid
modrm_whole row w p a c true None has there laid bytes e d kn all t free = absurd laid
modrm_whole row w p a c true (Some m) has there laid bytes e d kn all t free =
    let found = tests-of row (key_of p) all.found in
    let digit : has_digit row.pattern.digit (reg m.byte) ≡ true = subst (λ (x : Option Modrm). has_digit row.pattern.digit (digit_of x) ≡ true) there found.digit in
    let fit = fits row.operands row.kind row.immediate row.pattern.digit row.pattern.form a w p m has there kn digit free in
    ap some_modrm (modrm_again row a p.rex m c fit laid bytes e d)

-- ---- the immediate

abbrev MovAsked : Width → Asked → List ℕ → Type 0
MovAsked W8 a bs = a.signed ≡ signed_of bs
MovAsked W16 a bs = a.signed ≡ signed_of bs
MovAsked W32 a bs = a.signed ≡ signed_of bs
MovAsked W64 a bs = a.word ≡ unsigned_of bs

mov_at : (k : Kind) (i : Immediate) (s : Shape) (w : Width) (bs : List ℕ) → is_iv i ≡ true → is_mov k ≡ true → s.w ≡ w → s.signed ≡ signed_immediate i bs → s.word ≡ unsigned_of bs → MovAsked w (operands_asked (built k i s)) bs
mov_at k imm.Iv s W8 bs h m e f g = told_mov k imm.Iv s W8 e m ∙ f
mov_at k imm.Iv s W16 bs h m e f g = told_mov k imm.Iv s W16 e m ∙ f
mov_at k imm.Iv s W32 bs h m e f g = told_mov k imm.Iv s W32 e m ∙ f
mov_at k imm.Iv s W64 bs h m e f g = told_mov k imm.Iv s W64 e m ∙ g
mov_at k _ s w bs h m e f g = absurd (false≢true h)

take_block : (n : ℕ) (a : Asked) (bs : List ℕ) → length bs ≡ n → (n ≤ 2) ⊎ (n ≡ 4) → IsBytes bs → a.signed ≡ signed_of bs → take n (signed_block a) ≡ bs
take_block n a bs e le h s =
    let short : n ≤ 4 = elim le [ inl l ↦ omega arith | inr is ↦ omega arith ] in
    take-append-le n (to_le_bytes w32 (cast_unsigned w32 a.signed)) (0 ∷ 0 ∷ 0 ∷ 0 ∷ []) short ∙ rw s (disp_again n bs e h le)

byte_at_again : (b : ℕ) (bs : List ℕ) → length bs ≡ 1 → b ≡ byte_of bs → b ∷ [] ≡ bs
byte_at_again b [] e h = absurd (omega arith)
byte_at_again b (x ∷ []) e h = rw h refl
byte_at_again b (x ∷ y ∷ bs) e h = absurd (omega arith)

one_byte : IsWritten 1
one_byte = inl (omega arith)

two_bytes : IsWritten 2
two_bytes = inl (omega arith)

four_bytes : IsWritten 4
four_bytes = inr refl

imm_again : (i : Immediate) (w : Width) (a : Asked) (bs : List ℕ) → length bs ≡ immediate_length i w → IsBytes bs → (reads_signed i ≡ true → a.signed ≡ signed_immediate i bs) → (i ≡ imm.Ub → a.byte ≡ byte_immediate imm.Ub bs) → (is_iv i ≡ true → MovAsked w a bs) → (is_opcode_byte i ≡ true → byte_of bs ≡ 0xFA) → take (immediate_length i w) (immediate_block i w a) ≡ bs
imm_again imm.None w a bs e h s u v f = sym (empty_list bs e)
imm_again imm.Ib w a bs e h s u v f = take_block 1 a bs e one_byte h (s refl)
imm_again imm.Iz W8 a bs e h s u v f = take_block 4 a bs e four_bytes h (s refl)
imm_again imm.Iz W16 a bs e h s u v f = take_block 2 a bs e two_bytes h (s refl)
imm_again imm.Iz W32 a bs e h s u v f = take_block 4 a bs e four_bytes h (s refl)
imm_again imm.Iz W64 a bs e h s u v f = take_block 4 a bs e four_bytes h (s refl)
imm_again imm.Ub w a bs e h s u v f = byte_at_again a.byte bs e (u refl)
imm_again imm.Rel8 w a bs e h s u v f = take_block 1 a bs e one_byte h (s refl)
imm_again imm.Rel32 w a bs e h s u v f = take_block 4 a bs e four_bytes h (s refl)
imm_again imm.By1 w a bs e h s u v f = sym (empty_list bs e)
imm_again imm.Cl w a bs e h s u v f = sym (empty_list bs e)
imm_again imm.Iv W8 a bs e h s u v f = take_block 4 a bs e four_bytes h (v refl)
imm_again imm.Iv W16 a bs e h s u v f = take_block 2 a bs e two_bytes h (v refl)
imm_again imm.Iv W32 a bs e h s u v f = take_block 4 a bs e four_bytes h (v refl)
imm_again imm.Iv W64 a bs e h s u v f =
    let word : a.word ≡ unsigned_of bs = v refl in
    rw word (unsigned_again bs e h)
imm_again imm.OpcodeByte w a bs e h s u v f = byte_at_again 0xFA bs e (sym (f refl))

fixed_end : (o : Operands) (p : Parts) → ends_in_fa o ≡ true → has_fixed o p ≡ true → byte_of p.imm ≡ 0xFA
fixed_end ops.EndsInFa p h e = eqb-true (byte_of p.imm) 0xFA e
fixed_end _ p h e = absurd (false≢true h)

-- ---- the whole

same_parts : (p q : Parts) → p.prefix ≡ q.prefix → p.rex ≡ q.rex → p.map ≡ q.map → p.opcode ≡ q.opcode → p.modrm ≡ q.modrm → p.imm ≡ q.imm → p ≡ q
same_parts p q a b c d e f = rw (a, b, c, d, e, f) refl

candidate_here : (row : Row) (w : Width) (p : Parts) (c : Choice) → IsLaid p row w → Tests row → PartBytes p → (has_free_reg row ≡ true → digit_of p.modrm ≡ 0) → IsChosen p c → candidate row w c (operands_asked (insn_of row w p)) ≡ p
candidate_here row w p c laid t bytes free at =
    let a = operands_asked (insn_of row w p) in
    let s = shape_of row w p in
    let kn = known row w p laid t in
    let found = tests-of row (key_of p) laid.found in
    let opcode : opcode_byte row.pattern a ≡ p.opcode = opcode_again row.pattern.plus row.pattern.opcode p.opcode (place_number a.first % 8) found.opcode (λ plus.
    let is : is_opcode_reg row.operands ≡ true = follows row.pattern.plus _ t.plus plus in
    plus_first row.operands row.kind w p a.first is (kn.first (asks_opcode row.operands is))) in
    let modrm = modrm_whole row w p a c (has_modrm row.operands) p.modrm refl refl laid.modrm bytes.fields at.mode at.scale kn laid t free in
    let imm = imm_again row.immediate w a p.imm laid.imm bytes.imm kn.signed kn.byte (λ iv. mov_at row.kind row.immediate s w p.imm iv (follows (is_iv row.immediate) _ t.mov iv) refl refl refl) (λ h. fixed_end row.operands p (follows (is_opcode_byte row.immediate) _ t.end h) laid.fixed) in
    same_parts (candidate row w c a) p (sym at.prefix) (sym at.rex) (same_map-≡ row.pattern.map p.map found.map) opcode modrm imm

pub candidate_again : (p : Parts) (row : Row) (insn : Insn) (n : Normal p row insn) (c : Choice) → IsChosen p c → candidate row n.width c (operands_asked insn) ≡ p
candidate_again p row insn n c at =
    subst (λ (x : Insn). candidate row n.width c (operands_asked x) ≡ p) n.meant (candidate_here row n.width p c n.laid (tests_of row n.told) (part_bytes p n.are_bytes) n.free at)

abbrev pub parts_are : Prefix → Option ℕ → Map → ℕ → Option Modrm → List ℕ → Parts
parts_are prefix rex map opcode modrm imm = record { prefix = prefix; rex = rex; map = map; opcode = opcode; modrm = modrm; imm = imm }

-- what the search builds is the candidate
pub built_modrm : (row : Row) (c : Choice) (a : Asked) (has : Bool) (byte : ℕ) (sib : Option ℕ) (mem : Mem) (n : ℕ) (bytes : List ℕ) → has ≡ has_modrm row.operands → mem ≡ operand_memory row.operands a → byte ≡ modrm_byte row c a → sib ≡ sib_field c.scale mem → n ≡ displacement_length byte sib → bytes ≡ to_le_bytes w32 (cast_unsigned w32 mem.disp)
    → optional_modrm has (record { byte = byte; sib = sib; disp = take n bytes }) ≡ optional_modrm (has_modrm row.operands) (modrm_candidate (modrm_byte row c a) (sib_field c.scale (operand_memory row.operands a)) (operand_memory row.operands a))
built_modrm row c a has byte sib mem n bytes e1 e2 e3 e4 e5 e6 = rw (e6, e5, e4, e3, e2, e1) refl

pub built_candidate : (row : Row) (w : Width) (c : Choice) (a : Asked) (opcode : ℕ) (modrm : Option Modrm) (n : ℕ) (block : List ℕ) → opcode ≡ opcode_byte row.pattern a → modrm ≡ optional_modrm (has_modrm row.operands) (modrm_candidate (modrm_byte row c a) (sib_field c.scale (operand_memory row.operands a)) (operand_memory row.operands a)) → n ≡ immediate_length row.immediate w → block ≡ immediate_block row.immediate w a
    → parts_are c.prefix c.rex row.pattern.map opcode modrm (take n block) ≡ candidate row w c a
built_candidate row w c a opcode modrm n block e1 e2 e3 e4 = rw (e4, e3, e2, e1) refl
