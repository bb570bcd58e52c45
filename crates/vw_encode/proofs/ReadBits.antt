-- A spelling without the bits of REX that nothing of its row reads says the same.
use Rattle.std.proofs.Common.{◌≡◌, ◌⊎◌, ℕ, ◌+◌, ◌*◌, ◌%◌, ◌<◌, ◌==◌, Bool, true, false, not, ◌&&◌, ◌||◌, cond, ltb, Option, None, Some, IfSome, refl, ◌∙◌, ap, subst, inl, inr}
use Rattle.std.proofs.lemmas.Bool.{and_parts, or_cases, or_left, or_right, eqb-true, ltb-true, false≢true}
use Rattle.vw_insn.specs.declared.registers.Width.{Width}
use Rattle.vw_insn.specs.declared.registers.Width.TheVariants.{W8, W16, W32, W64}
use Rattle.vw_rows.specs.declared.patterns.Prefix.{Prefix}
use Rattle.vw_rows.specs.declared.patterns.Prefix.TheVariants.{Plain, P66, PF2, PF3}
use Rattle.vw_rows.specs.declared.forms.Kind.{Kind}
use Rattle.vw_rows.specs.declared.forms.Kind.TheVariants as kind
use Rattle.vw_rows.specs.declared.forms.Operands.{Operands}
use Rattle.vw_rows.specs.declared.forms.Operands.TheVariants as ops
use Rattle.vw_rows.specs.declared.forms.Sizing.{Sizing}
use Rattle.vw_rows.specs.declared.forms.Sizing.TheVariants as size
use Rattle.vw_rows.specs.declared.forms.Row.{Row}
use Rattle.vw_rows.specs.Parts.{Modrm, Parts, rm, rex_w, rex_r, rex_x, rex_b}
use Rattle.vw_rows.specs.Layout.{has_modrm, variable_width, wide_width, width_at, has_fixed, IsRex, IsLaid}
use Rattle.vw_rows.specs.Shape.{has_rex, register_place, base_at, index_at, memory_at, rm_place, reg_number, xmm_operand, rm_width, first_place, second_place, xmm_register, xmm_second}
use Rattle.vw_rows.specs.Meaning.{insn_of}
use Rattle.vw_encode.specs.search.Normal.{implies, same_bool, reads_w, reads_r, reads_b, is_byte, extends_byte, reads_byte, lean_bits, is_lean_bits, is_lean}
use Rattle.vw_encode.specs.Order.{rank_of}
use Rattle.vw_rows.proofs.Below.{below, below_at}
use Rattle.vw_encode.proofs.Facts.{follows, is_w8}
use Rattle.vw_encode.proofs.Laid.{same_is}

-- ---- the bits, by computation

-- the bits that are read, and no REX where there are none and it is not needed for itself
abbrev pub lean_by : Bool → Bool → Bool → Bool → Bool → Option ℕ → Option ℕ
lean_by w r x b y None = None
lean_by w r x b y (Some n) = cond ((lean_bits w r x b n == 0) && not y) None (Some (lean_bits w r x b n))

abbrev same_option : Option ℕ → ℕ → Bool
same_option None n = false
same_option (Some m) n = m == n

abbrev below_16 : Option ℕ → Bool
below_16 None = true
below_16 (Some n) = ltb n 16

abbrev is_lean_by : Bool → Bool → Bool → Bool → Bool → Option ℕ → Bool
is_lean_by w r x b y None = true
is_lean_by w r x b y (Some n) = is_lean_bits w r x b y n

abbrev is_same_or_less : Bool → Bool → Bool → Bool → Bool → ℕ → Option ℕ → Bool
is_same_or_less w r x b y n l =
    implies w (same_bool (rex_w (Some n)) (rex_w l)) && (implies r (rex_r l == rex_r (Some n)) && (implies x (rex_x l == rex_x (Some n)) && (implies b (rex_b l == rex_b (Some n)) && (implies y (has_rex l) && (is_lean_by w r x b y l && (below_16 l && (same_option l n || ltb (rank_of l) (n + 1))))))))

abbrev each : (Bool → Bool) → Bool
each f = f true && f false

each_at : (f : Bool → Bool) → each f ≡ true → (b : Bool) → f b ≡ true
each_at f h true = (and_parts (f true) (f false) h).0
each_at f h false = (and_parts (f true) (f false) h).1

abbrev all_of : Bool → Bool → Bool → Bool → Bool → Bool
all_of w r x b y = below (λ n. is_same_or_less w r x b y n (lean_by w r x b y (Some n))) 16

every : each (λ w. each (λ r. each (λ x. each (λ b. each (λ y. all_of w r x b y))))) ≡ true
every = refl

checked_at : (w r x b y : Bool) (n : ℕ) → n < 16 → is_same_or_less w r x b y n (lean_by w r x b y (Some n)) ≡ true
checked_at w r x b y n lt =
    let one = each_at (λ w. each (λ r. each (λ x. each (λ b. each (λ y. all_of w r x b y))))) every w in
    let two = each_at (λ r. each (λ x. each (λ b. each (λ y. all_of w r x b y)))) one r in
    let three = each_at (λ x. each (λ b. each (λ y. all_of w r x b y))) two x in
    let four = each_at (λ b. each (λ y. all_of w r x b y)) three b in
    let five = each_at (λ y. all_of w r x b y) four y in
    below_at (λ n. is_same_or_less w r x b y n (lean_by w r x b y (Some n))) 16 five n lt

-- what is left of a REX that the row has
record Left (w r x b y : Bool) (rex l : Option ℕ) : Type 0 where
  w_is : w ≡ true → rex_w l ≡ rex_w rex
  r_is : r ≡ true → rex_r l ≡ rex_r rex
  x_is : x ≡ true → rex_x l ≡ rex_x rex
  b_is : b ≡ true → rex_b l ≡ rex_b rex
  y_is : y ≡ true → has_rex l ≡ has_rex rex
  lean : is_lean_by w r x b y l ≡ true
  bits : IsRex l
  order : (l ≡ rex) ⊎ (rank_of l < rank_of rex)

bits_below : (l : Option ℕ) → below_16 l ≡ true → IsRex l
bits_below None h = tt
bits_below (Some n) h = ltb-true n 16 h

abbrev some_bits : ℕ → Option ℕ
some_bits n = Some n

option_is : (l : Option ℕ) (n : ℕ) → same_option l n ≡ true → l ≡ Some n
option_is None n h = absurd (false≢true h)
option_is (Some m) n h = ap some_bits (eqb-true m n h)

order_of_bits : (l : Option ℕ) (n : ℕ) → (same_option l n || ltb (rank_of l) (n + 1)) ≡ true → (l ≡ Some n) ⊎ (rank_of l < rank_of (some_bits n))
order_of_bits l n h = elim (or_cases (same_option l n) (ltb (rank_of l) (n + 1)) h) [
  | inl is ↦ inl (option_is l n is)
  | inr less ↦ inr (ltb-true (rank_of l) (n + 1) less)
]

left_of : (w r x b y : Bool) (n : ℕ) (l : Option ℕ) → is_same_or_less w r x b y n l ≡ true → Left w r x b y (Some n) l
left_of w r x b y n l h =
    let a1 = and_parts (implies w (same_bool (rex_w (Some n)) (rex_w l))) (implies r (rex_r l == rex_r (Some n)) && (implies x (rex_x l == rex_x (Some n)) && (implies b (rex_b l == rex_b (Some n)) && (implies y (has_rex l) && (is_lean_by w r x b y l && (below_16 l && (same_option l n || ltb (rank_of l) (n + 1)))))))) h in
    let a2 = and_parts (implies r (rex_r l == rex_r (Some n))) (implies x (rex_x l == rex_x (Some n)) && (implies b (rex_b l == rex_b (Some n)) && (implies y (has_rex l) && (is_lean_by w r x b y l && (below_16 l && (same_option l n || ltb (rank_of l) (n + 1))))))) a1.1 in
    let a3 = and_parts (implies x (rex_x l == rex_x (Some n))) (implies b (rex_b l == rex_b (Some n)) && (implies y (has_rex l) && (is_lean_by w r x b y l && (below_16 l && (same_option l n || ltb (rank_of l) (n + 1)))))) a2.1 in
    let a4 = and_parts (implies b (rex_b l == rex_b (Some n))) (implies y (has_rex l) && (is_lean_by w r x b y l && (below_16 l && (same_option l n || ltb (rank_of l) (n + 1))))) a3.1 in
    let a5 = and_parts (implies y (has_rex l)) (is_lean_by w r x b y l && (below_16 l && (same_option l n || ltb (rank_of l) (n + 1)))) a4.1 in
    let a6 = and_parts (is_lean_by w r x b y l) (below_16 l && (same_option l n || ltb (rank_of l) (n + 1))) a5.1 in
    let a7 = and_parts (below_16 l) (same_option l n || ltb (rank_of l) (n + 1)) a6.1 in
    record {
      w_is = λ e. same_is (rex_w (Some n)) (rex_w l) (follows w (same_bool (rex_w (Some n)) (rex_w l)) a1.0 e);
      r_is = λ e. eqb-true (rex_r l) (rex_r (Some n)) (follows r (rex_r l == rex_r (Some n)) a2.0 e);
      x_is = λ e. eqb-true (rex_x l) (rex_x (Some n)) (follows x (rex_x l == rex_x (Some n)) a3.0 e);
      b_is = λ e. eqb-true (rex_b l) (rex_b (Some n)) (follows b (rex_b l == rex_b (Some n)) a4.0 e);
      y_is = λ e. follows y (has_rex l) a5.0 e;
      lean = a6.0;
      bits = bits_below l a7.0;
      order = order_of_bits l n a7.1;
    }

left_by : (w r x b y : Bool) (rex : Option ℕ) → IsRex rex → Left w r x b y rex (lean_by w r x b y rex)
left_by w r x b y None h = record { w_is = λ e. refl; r_is = λ e. refl; x_is = λ e. refl; b_is = λ e. refl; y_is = λ e. refl; lean = refl; bits = tt; order = inl refl }
left_by w r x b y (Some n) h = left_of w r x b y n (lean_by w r x b y (Some n)) (checked_at w r x b y n h)

abbrev pub lean_rex : Row → Option ℕ → Option ℕ
lean_rex r rex = lean_by (reads_w r.width) (reads_r r.operands) (has_modrm r.operands) (reads_b r.operands) (reads_byte r) rex

abbrev LeftOf : Row → Option ℕ → Type 0
LeftOf r rex = Left (reads_w r.width) (reads_r r.operands) (has_modrm r.operands) (reads_b r.operands) (reads_byte r) rex (lean_rex r rex)

left : (r : Row) (rex : Option ℕ) → IsRex rex → LeftOf r rex
left r rex h = left_by (reads_w r.width) (reads_r r.operands) (has_modrm r.operands) (reads_b r.operands) (reads_byte r) rex h

lean_is : (r : Row) (rex : Option ℕ) → is_lean_by (reads_w r.width) (reads_r r.operands) (has_modrm r.operands) (reads_b r.operands) (reads_byte r) rex ≡ true → is_lean r rex ≡ true
lean_is r None h = refl
lean_is r (Some n) h = h

-- ---- what the parts name

abbrev pub with_rex : Parts → Option ℕ → Parts
with_rex p rex = record { prefix = p.prefix; rex = rex; map = p.map; opcode = p.opcode; modrm = p.modrm; imm = p.imm }

abbrev pub lean_parts : Row → Parts → Parts
lean_parts r p = with_rex p (lean_rex r p.rex)

same_width_at : (s : Sizing) (prefix : Prefix) (a b : Bool) → (reads_w s ≡ true → a ≡ b) → width_at s prefix a ≡ width_at s prefix b
same_width_at size.None prefix a b e = refl
same_width_at size.B prefix a b e = refl
same_width_at size.V prefix a b e = rw (e refl) refl
same_width_at size.V32Or64 prefix a b e = rw (e refl) refl
same_width_at size.Q prefix a b e = refl
same_width_at size.OnlyW prefix a b e = rw (e refl) refl
same_width_at size.Narrow prefix a b e = rw (e refl) refl
same_width_at size.Wide prefix a b e = rw (e refl) refl

abbrev byte_only : Sizing → Option Width → Type 0
byte_only s o = IfSome o (λ w. is_w8 w ≡ true → is_byte s ≡ true)

variable_only : (s : Sizing) (p : Prefix) (b : Bool) → byte_only s (variable_width p b)
variable_only s P66 true = tt
variable_only s P66 false = λ h. absurd (false≢true h)
variable_only s Plain true = λ h. absurd (false≢true h)
variable_only s Plain false = λ h. absurd (false≢true h)
variable_only s PF2 true = λ h. absurd (false≢true h)
variable_only s PF2 false = λ h. absurd (false≢true h)
variable_only s PF3 true = λ h. absurd (false≢true h)
variable_only s PF3 false = λ h. absurd (false≢true h)

wide_only : (s : Sizing) (o : Option Width) → byte_only s (wide_width o)
wide_only s None = tt
wide_only s (Some W8) = tt
wide_only s (Some W16) = tt
wide_only s (Some W32) = λ h. absurd (false≢true h)
wide_only s (Some W64) = λ h. absurd (false≢true h)

sized_only : (s : Sizing) (p : Prefix) (b : Bool) → byte_only s (width_at s p b)
sized_only size.None p b = λ h. absurd (false≢true h)
sized_only size.B p b = λ h. refl
sized_only size.V p b = variable_only size.V p b
sized_only size.V32Or64 p b = wide_only size.V32Or64 (variable_width p b)
sized_only size.Q p b = λ h. absurd (false≢true h)
sized_only size.OnlyW p true = λ h. absurd (false≢true h)
sized_only size.OnlyW p false = tt
sized_only size.Narrow p true = tt
sized_only size.Narrow p false = λ h. absurd (false≢true h)
sized_only size.Wide p true = λ h. absurd (false≢true h)
sized_only size.Wide p false = λ h. absurd (false≢true h)

-- a width of 8 bits is that of a row of bytes
byte_width : (row : Row) (p : Parts) (w : Width) → IsLaid p row w → is_w8 w ≡ true → is_byte row.width ≡ true
byte_width row p w laid h = (subst (λ (o : Option Width). byte_only row.width o) laid.width (sized_only row.width p.prefix (rex_w p.rex))) h

-- and E is a byte by such a row, or by one that extends a byte
byte_rm : (k : Kind) (s : Sizing) (w : Width) → (is_w8 w ≡ true → is_byte s ≡ true) → is_w8 (rm_width k w) ≡ true → (is_byte s || extends_byte k) ≡ true
byte_rm (kind.Extend g W8) s w e h = or_right (is_byte s) true refl
byte_rm (kind.Extend g W16) s w e h = absurd (false≢true h)
byte_rm (kind.Extend g W32) s w e h = absurd (false≢true h)
byte_rm (kind.Extend g W64) s w e h = absurd (false≢true h)
byte_rm _ s w e h = or_left (is_byte s) false (e h)

same_register : (w : Width) (a b : Option ℕ) (n : ℕ) → (is_w8 w ≡ true → has_rex a ≡ has_rex b) → register_place w a n ≡ register_place w b n
same_register W8 a b n e = rw (e refl) refl
same_register W16 a b n e = refl
same_register W32 a b n e = refl
same_register W64 a b n e = refl

same_reg : (a b : Option ℕ) (o : Option Modrm) → rex_r a ≡ rex_r b → reg_number a o ≡ reg_number b o
same_reg a b None e = refl
same_reg a b (Some m) e = rw e refl

same_base : (a b : Option ℕ) (byte : ℕ) (s : Option ℕ) → rex_b a ≡ rex_b b → base_at a byte s ≡ base_at b byte s
same_base a b byte None e = rw e refl
same_base a b byte (Some s) e = rw e refl

same_index : (a b : Option ℕ) (s : Option ℕ) → rex_x a ≡ rex_x b → index_at a s ≡ index_at b s
same_index a b None e = refl
same_index a b (Some s) e = rw e refl

same_memory : (a b : Option ℕ) (m : Modrm) → rex_b a ≡ rex_b b → rex_x a ≡ rex_x b → memory_at a m ≡ memory_at b m
same_memory a b m e d = rw (same_base a b m.byte m.sib e, same_index a b m.sib d) refl

same_rm : (w : Width) (a b : Option ℕ) (o : Option Modrm) → (is_w8 w ≡ true → has_rex a ≡ has_rex b) → rex_b a ≡ rex_b b → rex_x a ≡ rex_x b → rm_place w a o ≡ rm_place w b o
same_rm w a b None h e d = refl
same_rm w a b (Some m) h e d = rw (same_memory a b m e d, e, same_register w a b (rm m.byte + 8 * rex_b b) h) refl

same_xmm : (a b : Option ℕ) (o : Option Modrm) → rex_b a ≡ rex_b b → rex_x a ≡ rex_x b → xmm_operand a o ≡ xmm_operand b o
same_xmm a b None e d = refl
same_xmm a b (Some m) e d = rw (same_memory a b m e d, e) refl

-- the operands are the same
record Named (o : Operands) (k : Kind) (w : Width) (p : Parts) (l : Option ℕ) : Type 0 where
  first : first_place o k w (with_rex p l) ≡ first_place o k w p
  second : second_place o k w (with_rex p l) ≡ second_place o k w p
  register : xmm_register o (with_rex p l) ≡ xmm_register o p
  operand : xmm_second o (with_rex p l) ≡ xmm_second o p
  fixed : has_fixed o (with_rex p l) ≡ has_fixed o p

same_names : (o : Operands) (k : Kind) (w : Width) (p : Parts) (l : Option ℕ) → (is_w8 w ≡ true → has_rex l ≡ has_rex p.rex) → (is_w8 (rm_width k w) ≡ true → has_rex l ≡ has_rex p.rex) → (reads_r o ≡ true → rex_r l ≡ rex_r p.rex) → (has_modrm o ≡ true → rex_x l ≡ rex_x p.rex) → (reads_b o ≡ true → rex_b l ≡ rex_b p.rex) → Named o k w p l
same_names ops.None k w p l h i r x b = record { first = refl; second = refl; register = refl; operand = refl; fixed = refl }
same_names ops.EG k w p l h i r x b = record { first = same_rm (rm_width k w) l p.rex p.modrm i (b refl) (x refl); second = rw (same_reg l p.rex p.modrm (r refl)) (same_register w l p.rex (reg_number p.rex p.modrm) h); register = refl; operand = refl; fixed = refl }
same_names ops.GE k w p l h i r x b = record { first = rw (same_reg l p.rex p.modrm (r refl)) (same_register w l p.rex (reg_number p.rex p.modrm) h); second = same_rm (rm_width k w) l p.rex p.modrm i (b refl) (x refl); register = refl; operand = refl; fixed = refl }
same_names ops.Accumulator k w p l h i r x b = record { first = refl; second = refl; register = refl; operand = refl; fixed = refl }
same_names ops.E k w p l h i r x b = record { first = same_rm (rm_width k w) l p.rex p.modrm i (b refl) (x refl); second = refl; register = refl; operand = refl; fixed = refl }
same_names ops.OpcodeReg k w p l h i r x b = record { first = rw (b refl) (same_register w l p.rex (p.opcode % 8 + 8 * rex_b p.rex) h); second = refl; register = refl; operand = refl; fixed = refl }
same_names ops.WithoutRexB k w p l h i r x b = record { first = refl; second = refl; register = refl; operand = refl; fixed = rw (b refl) refl }
same_names ops.EndsInFa k w p l h i r x b = record { first = refl; second = refl; register = refl; operand = refl; fixed = refl }
same_names ops.Xmm k w p l h i r x b = record { first = refl; second = refl; register = same_reg l p.rex p.modrm (r refl); operand = same_xmm l p.rex p.modrm (b refl) (x refl); fixed = refl }

named_of : (p : Parts) (r : Row) (w : Width) → IsLaid p r w → Named r.operands r.kind w p (lean_rex r p.rex)
named_of p r w laid =
    let l = left r p.rex laid.rex in
    let byte : is_w8 w ≡ true → is_byte r.width ≡ true = byte_width r p w laid in
    same_names r.operands r.kind w p (lean_rex r p.rex) (λ h. l.y_is (or_left (is_byte r.width) (extends_byte r.kind) (byte h))) (λ h. l.y_is (byte_rm r.kind r.width w byte h)) l.r_is l.x_is l.b_is

pub lean_laid : (p : Parts) (r : Row) (w : Width) → IsLaid p r w → IsLaid (lean_parts r p) r w
lean_laid p r w laid =
    let l = left r p.rex laid.rex in
    record {
      listed = laid.listed;
      found = laid.found;
      rex = l.bits;
      width = same_width_at r.width p.prefix (rex_w (lean_rex r p.rex)) (rex_w p.rex) l.w_is ∙ laid.width;
      modrm = laid.modrm;
      imm = laid.imm;
      fixed = (named_of p r w laid).fixed ∙ laid.fixed;
    }

pub lean_means : (p : Parts) (r : Row) (w : Width) → IsLaid p r w → insn_of r w (lean_parts r p) ≡ insn_of r w p
lean_means p r w laid =
    let n = named_of p r w laid in
    rw (n.first, n.second, n.register, n.operand) refl

pub lean_tested : (p : Parts) (r : Row) (w : Width) → IsLaid p r w → is_lean r (lean_rex r p.rex) ≡ true
lean_tested p r w laid = lean_is r (lean_rex r p.rex) (left r p.rex laid.rex).lean

pub lean_order : (p : Parts) (r : Row) (w : Width) → IsLaid p r w → (lean_rex r p.rex ≡ p.rex) ⊎ (rank_of (lean_rex r p.rex) < rank_of p.rex)
lean_order p r w laid = (left r p.rex laid.rex).order
