-- Each spelling of an instruction has a normal one beside it, so nothing is spelled where the search finds none.
use Rattle.std.proofs.Common.{◌≡◌, ◌⊎◌, ℕ, zero, suc, ◌+◌, ◌*◌, ◌<◌, ◌≤◌, ◌==◌, Bool, true, false, ◌&&◌, ◌||◌, cond, ltb, List, [], ◌∷◌, ◌++◌, length, take, get_or, find, Option, None, Some, ℤ, refl, sym, ◌∙◌, ap, subst, eq-eqb, arith, inl, inr}
use Rattle.std.proofs.lemmas.Bool.{and_parts, or_cases, cases_Bool, cases_lt, ltb-true, false≢true}
use Rattle.std.proofs.lemmas.List.{length-take}
use Rattle.std.specs.List.{list_all}
use Rattle.vw_insn.specs.declared.registers.Width.{Width}
use Rattle.vw_insn.specs.declared.registers.Width.TheVariants.{W8, W16, W32, W64}
use Rattle.vw_insn.specs.declared.instruction.Insn.{Insn}
use Rattle.vw_insn.specs.declared.instruction.Insn.TheVariants as insn
use Rattle.vw_rows.specs.declared.patterns.Prefix.TheVariants.{Plain}
use Rattle.vw_rows.specs.declared.patterns.Prefixes.TheVariants as pre
use Rattle.vw_rows.specs.declared.patterns.Map.TheVariants.{One}
use Rattle.vw_rows.specs.declared.patterns.Form.TheVariants as form
use Rattle.vw_rows.specs.declared.forms.Kind.{Kind}
use Rattle.vw_rows.specs.declared.forms.Kind.TheVariants as kind
use Rattle.vw_rows.specs.declared.forms.Operands.{Operands}
use Rattle.vw_rows.specs.declared.forms.Operands.TheVariants as ops
use Rattle.vw_rows.specs.declared.forms.Sizing.TheVariants as size
use Rattle.vw_rows.specs.declared.forms.Immediate.{Immediate}
use Rattle.vw_rows.specs.declared.forms.Immediate.TheVariants as imm
use Rattle.vw_rows.specs.declared.forms.Row.{Row}
use Rattle.vw_rows.specs.declared.shape.Shape.{Shape}
use Rattle.vw_rows.specs.Rows.{row, rows}
use Rattle.vw_rows.specs.Lookup.{IsIn, key, matches, has_digit}
use Rattle.vw_rows.specs.Numbers.{IsBytes}
use Rattle.vw_rows.specs.Parts.{Modrm, Parts, rex_bytes, sib_bytes, modrm_bytes, bytes_of, mode, rm}
use Rattle.vw_rows.specs.Layout.{digit_of, is_register_form, key_of, has_modrm, takes_sib, without_base, displacement_length, has_fixed, IsModrm, IsRex, IsLaid}
use Rattle.vw_rows.specs.Shape.{first_place, second_place, xmm_register, xmm_second, base_at, memory_at, rm_place, rm_width, shape_of}
use Rattle.vw_rows.specs.Meaning.{built, mov_immediate, insn_of}
use Rattle.vw_insn.specs.declared.operands.Place.{Place}
use Rattle.vw_rows.specs.Spelling.{Spells}
use Rattle.vw_rows.proofs.Matching.{tests-of, of-tests}
use Rattle.vw_rows.proofs.Uniqueness.{rows_all, find_is}
use Rattle.vw_encode.specs.declared.buffer.Spelled.{Spelled}
use Rattle.vw_rows.proofs.Bytes.{no_bytes, one_more_byte, IsBytes-take, part_bytes, bytes_of_parts}
use Rattle.vw_rows.proofs.Lengths.{spelled_length}
use Rattle.vw_encode.specs.Order.{mode_of, scale_of, prefix_rank, rank_of, mode_rank, Then, PartsBefore, IsBefore, IsFirst}
use Rattle.vw_encode.proofs.ReadBits.{with_rex, lean_rex, lean_parts, lean_laid, lean_means, lean_tested, lean_order}
use Rattle.vw_encode.specs.search.Found.{FoundIn, is_candidate}
use Rattle.vw_encode.specs.search.Kinds.{kind_number, insn_number}
use Rattle.vw_encode.specs.search.Normal.{Normal, Without, is_lean, is_told, is_free, has_free_reg}

-- ---- the rows that tell all

abbrev is_nop : Kind → Bool
is_nop kind.Nop = true
is_nop _ = false

-- NOP with an operand, that no instruction tells
abbrev is_long_nop : Row → Bool
is_long_nop r = is_nop r.kind && has_modrm r.operands

all_told : list_all (λ r. is_long_nop r || is_told r) rows ≡ true
unfolding rows
all_told = refl

told_or_nop : (r : Row) → IsIn r rows → (is_long_nop r ≡ true) ⊎ (is_told r ≡ true)
told_or_nop r listed = or_cases (is_long_nop r) (is_told r) (rows_all (λ x. is_long_nop x || is_told x) all_told r listed)

-- it comes after the one byte
abbrev is_later : Row → Bool
is_later r = cond (is_long_nop r) (ltb 138 r.number) true

all_later : list_all is_later rows ≡ true
unfolding rows
all_later = refl

long_nop_number : (r : Row) → IsIn r rows → is_long_nop r ≡ true → 138 < r.number
long_nop_number r listed h = ltb-true 138 r.number (subst (λ (b : Bool). cond b (ltb 138 r.number) true ≡ true) h (rows_all is_later all_later r listed))

nop_kind : (r : Row) → is_long_nop r ≡ true → is_nop r.kind ≡ true
nop_kind r h = (and_parts (is_nop r.kind) (has_modrm r.operands) h).0

-- ---- the one byte of NOP

abbrev short_nop : Row
short_nop = row 138 pre.PlainOr66 One 0x90 false None form.Any kind.Nop ops.WithoutRexB size.None imm.None

abbrev nop_parts : Parts
nop_parts = record { prefix = Plain; rex = None; map = One; opcode = 0x90; modrm = None; imm = [] }

short_nop_found : find (λ (r : Row). matches r (key Plain One 0x90 0 false)) rows ≡ Some short_nop
unfolding rows
short_nop_found = refl

byte_90 : IsBytes (0x90 ∷ [])
byte_90 zero = omega arith
byte_90 (suc i) = omega arith

nop_normal : Normal nop_parts short_nop insn.Nop
nop_normal =
    let is = find_is (key Plain One 0x90 0 false) short_nop short_nop_found in
    record {
      width = W32;
      laid = record { listed = is.0; found = is.1; rex = tt; width = refl; modrm = tt; imm = refl; fixed = refl };
      meant = refl;
      are_bytes = byte_90;
      told = refl;
      free = λ h. refl;
      lean = refl;
    }

nop_built : (k : Kind) (i : Immediate) (s : Shape) → is_nop k ≡ true → built k i s ≡ insn.Nop
nop_built kind.Nop i s h = refl
nop_built _ i s h = absurd (false≢true h)

-- ---- the reg field 0

abbrev zero_reg : Modrm → Modrm
zero_reg m = record { byte = mode m.byte * 64 + rm m.byte; sib = m.sib; disp = m.disp }

abbrev with_zero_reg : Option Modrm → Option Modrm
with_zero_reg None = None
with_zero_reg (Some m) = Some (zero_reg m)

abbrev zeroed_parts : Parts → Parts
zeroed_parts p = record { prefix = p.prefix; rex = p.rex; map = p.map; opcode = p.opcode; modrm = with_zero_reg p.modrm; imm = p.imm }

same_mode : (b : ℕ) → mode (mode b * 64 + rm b) ≡ mode b
same_mode b = omega arith

same_rm : (b : ℕ) → rm (mode b * 64 + rm b) ≡ rm b
same_rm b = omega arith

zero_digit : (o : Option Modrm) → digit_of (with_zero_reg o) ≡ 0
zero_digit None = refl
zero_digit (Some m) = omega arith

same_form : (o : Option Modrm) → is_register_form (with_zero_reg o) ≡ is_register_form o
same_form None = refl
same_form (Some m) = ap (λ (n : ℕ). n == 3) (same_mode m.byte)

same_takes : (b : ℕ) → takes_sib (mode b * 64 + rm b) ≡ takes_sib b
same_takes b = rw (same_mode b, same_rm b) refl

same_without : (b : ℕ) (s : Option ℕ) → without_base (mode b * 64 + rm b) s ≡ without_base b s
same_without b None = rw (same_mode b, same_rm b) refl
same_without b (Some s) = rw (same_mode b) refl

same_length : (b : ℕ) (s : Option ℕ) → displacement_length (mode b * 64 + rm b) s ≡ displacement_length b s
same_length b s = rw (same_mode b, same_without b s) refl

same_layout : (is : Bool) (o : Option Modrm) → IsModrm is o → IsModrm is (with_zero_reg o)
same_layout false None laid = tt
same_layout false (Some m) laid = absurd laid
same_layout true None laid = absurd laid
same_layout true (Some m) laid = record { sib = laid.sib ∙ sym (same_takes m.byte); disp = laid.disp ∙ sym (same_length m.byte m.sib) }

same_base : (rex : Option ℕ) (b : ℕ) (s : Option ℕ) → base_at rex (mode b * 64 + rm b) s ≡ base_at rex b s
same_base rex b None = rw (same_without b None, same_rm b) refl
same_base rex b (Some s) = rw (same_without b (Some s)) refl

same_memory : (rex : Option ℕ) (m : Modrm) → memory_at rex (zero_reg m) ≡ memory_at rex m
same_memory rex m = rw (same_base rex m.byte m.sib) refl

same_place : (w : Width) (rex : Option ℕ) (o : Option Modrm) → rm_place w rex (with_zero_reg o) ≡ rm_place w rex o
same_place w rex None = refl
same_place w rex (Some m) = rw (same_memory rex m, same_mode m.byte, same_rm m.byte) refl

-- what the row names is the same
record Same (o : Operands) (d : Option ℕ) (k : Kind) (w : Width) (p : Parts) : Type 0 where
  first : first_place o k w (zeroed_parts p) ≡ first_place o k w p
  second : second_place o k w (zeroed_parts p) ≡ second_place o k w p
  register : xmm_register o (zeroed_parts p) ≡ xmm_register o p
  operand : xmm_second o (zeroed_parts p) ≡ xmm_second o p
  fixed : has_fixed o (zeroed_parts p) ≡ has_fixed o p
  none : d ≡ None

same_named : (o : Operands) (d : Option ℕ) (k : Kind) (w : Width) (p : Parts) → is_free o d ≡ true → Same o d k w p
same_named ops.E None k w p h = record { first = same_place (rm_width k w) p.rex p.modrm; second = refl; register = refl; operand = refl; fixed = refl; none = refl }
same_named _ _ k w p h = absurd (false≢true h)

any_digit : (d : Option ℕ) (n : ℕ) → d ≡ None → has_digit d n ≡ true
any_digit d n e = rw e refl

zeroed_laid : (p : Parts) (r : Row) (w : Width) → IsLaid p r w → has_free_reg r ≡ true → IsLaid (zeroed_parts p) r w
zeroed_laid p r w laid free =
    let s = same_named r.operands r.pattern.digit r.kind w p free in
    let t = tests-of r (key_of p) laid.found in
    record {
      listed = laid.listed;
      found = of-tests r (key_of (zeroed_parts p)) (record { prefix = t.prefix; map = t.map; opcode = t.opcode; digit = any_digit r.pattern.digit (digit_of (with_zero_reg p.modrm)) s.none; form = rw (same_form p.modrm) t.form });
      rex = laid.rex;
      width = laid.width;
      modrm = same_layout (has_modrm r.operands) p.modrm laid.modrm;
      imm = laid.imm;
      fixed = s.fixed ∙ laid.fixed;
    }

zeroed_means : (p : Parts) (r : Row) (w : Width) → has_free_reg r ≡ true → insn_of r w (zeroed_parts p) ≡ insn_of r w p
zeroed_means p r w free =
    let s = same_named r.operands r.pattern.digit r.kind w p free in
    rw (s.first, s.second, s.register, s.operand) refl

zeroed_modrm_bytes : (o : Option Modrm) → IsBytes (modrm_bytes o) → IsBytes (modrm_bytes (with_zero_reg o))
zeroed_modrm_bytes None h = h
zeroed_modrm_bytes (Some m) h = (let b : m.byte < 256 = h 0 in one_more_byte (mode m.byte * 64 + rm m.byte) (sib_bytes m.sib ++ m.disp) (omega arith) (λ i. h (suc i)))

zeroed_bytes : (p : Parts) → IsBytes (bytes_of p) → IsBytes (bytes_of (zeroed_parts p))
zeroed_bytes p h =
    let known = part_bytes p h in
    bytes_of_parts (zeroed_parts p) known.prefix known.rex known.opcode (zeroed_modrm_bytes p.modrm known.modrm) known.imm

-- ---- the whole

abbrev Nothing : Insn → Type 0
Nothing i = (r : Row) → IsIn r rows → is_candidate i r ≡ true → Without r i (λ p. Unit {0})

mov_kind : (w : Width) (p : Place) (n : ℤ) (word : ℕ) → insn_number (mov_immediate w p n word) ≡ kind_number kind.MovImm
mov_kind W8 p n word = refl
mov_kind W16 p n word = refl
mov_kind W32 p n word = refl
mov_kind W64 p n word = refl

built_kind : (k : Kind) (i : Immediate) (s : Shape) → insn_number (built k i s) ≡ kind_number k
built_kind kind.MovImm i s = mov_kind s.w s.first s.signed s.word
built_kind _ i s = refl

-- the row of a spelling is of the instruction's kind
spelled_kind : (bytes : List ℕ) (i : Insn) (t : Spells bytes i) → is_candidate i t.row ≡ true
spelled_kind bytes i t =
    eq-eqb (kind_number t.row.kind) (insn_number i) (sym (built_kind t.row.kind t.row.immediate (shape_of t.row t.width t.parts)) ∙ ap insn_number t.meant)

nop_candidate : (i : Insn) → i ≡ insn.Nop → is_candidate i short_nop ≡ true
nop_candidate i e = rw e refl

-- ---- the normal spelling beside a spelling

record Said (p : Parts) (r : Row) (w : Width) (i : Insn) : Type 0 where
  laid : IsLaid p r w
  meant : insn_of r w p ≡ i
  are_bytes : IsBytes (bytes_of p)

said : (bytes : List ℕ) (i : Insn) (t : Spells bytes i) → Said t.parts t.row t.width i
said bytes i t = record { laid = t.laid; meant = t.meant; are_bytes = subst (λ (l : List ℕ). IsBytes l) t.spelled t.are_bytes }

rex_is_byte : (l : Option ℕ) → IsRex l → IsBytes (rex_bytes l)
rex_is_byte None h = no_bytes
rex_is_byte (Some n) h = one_more_byte (0x40 + n) [] (omega arith) no_bytes

lean_bytes : (p : Parts) (l : Option ℕ) → IsRex l → IsBytes (bytes_of p) → IsBytes (bytes_of (with_rex p l))
lean_bytes p l rex h =
    let known = part_bytes p h in
    bytes_of_parts (with_rex p l) known.prefix (rex_is_byte l rex) known.opcode known.modrm known.imm

lean_said : (p : Parts) (r : Row) (w : Width) (i : Insn) → Said p r w i → Said (lean_parts r p) r w i
lean_said p r w i s =
    let laid = lean_laid p r w s.laid in
    record { laid = laid; meant = lean_means p r w s.laid ∙ s.meant; are_bytes = lean_bytes p (lean_rex r p.rex) laid.rex s.are_bytes }

same_scale : (o : Option Modrm) → scale_of (with_zero_reg o) ≡ scale_of o
same_scale None = refl
same_scale (Some m) = refl

same_mode_of : (o : Option Modrm) → mode_of (with_zero_reg o) ≡ mode_of o
same_mode_of None = refl
same_mode_of (Some m) = same_mode m.byte

-- the same bits of REX, or fewer
same_or_less : (p : Parts) (l : Option ℕ) → (l ≡ p.rex) ⊎ (rank_of l < rank_of p.rex) → (with_rex p l ≡ p) ⊎ PartsBefore (with_rex p l) p
same_or_less p l (inl e) = inl (rw e refl)
same_or_less p l (inr lt) = inr (inr (refl, inl lt))

zeroed_before : (p : Parts) → 0 < digit_of p.modrm → PartsBefore (zeroed_parts p) p
zeroed_before p lt = inr (refl, inr (refl, inr (ap rank_of (same_scale p.modrm), inr (ap mode_rank (same_mode_of p.modrm), rw (zero_digit p.modrm) lt))))

then_trans : (a b c : ℕ) (X Y Z : Type 0) → (X → Y → Z) → Then a b X → Then b c Y → Then a c Z
then_trans a b c X Y Z f (inl h) (inl g) = inl (omega arith)
then_trans a b c X Y Z f (inl h) (inr g) = inl (let e = g.0 in omega arith)
then_trans a b c X Y Z f (inr h) (inl g) = inl (let e = h.0 in omega arith)
then_trans a b c X Y Z f (inr h) (inr g) = inr (h.0 ∙ g.0, f h.1 g.1)

abbrev ByDigit : Parts → Parts → Type 0
ByDigit p q = digit_of p.modrm < digit_of q.modrm

abbrev ByMode : Parts → Parts → Type 0
ByMode p q = Then (mode_rank (mode_of p.modrm)) (mode_rank (mode_of q.modrm)) (ByDigit p q)

abbrev ByScale : Parts → Parts → Type 0
ByScale p q = Then (rank_of (scale_of p.modrm)) (rank_of (scale_of q.modrm)) (ByMode p q)

abbrev ByRex : Parts → Parts → Type 0
ByRex p q = Then (rank_of p.rex) (rank_of q.rex) (ByScale p q)

by_digit : (p q r : Parts) → ByDigit p q → ByDigit q r → ByDigit p r
by_digit p q r h g = omega arith

by_mode : (p q r : Parts) → ByMode p q → ByMode q r → ByMode p r
by_mode p q r h g = then_trans (mode_rank (mode_of p.modrm)) (mode_rank (mode_of q.modrm)) (mode_rank (mode_of r.modrm)) (ByDigit p q) (ByDigit q r) (ByDigit p r) (by_digit p q r) h g

by_scale : (p q r : Parts) → ByScale p q → ByScale q r → ByScale p r
by_scale p q r h g = then_trans (rank_of (scale_of p.modrm)) (rank_of (scale_of q.modrm)) (rank_of (scale_of r.modrm)) (ByMode p q) (ByMode q r) (ByMode p r) (by_mode p q r) h g

by_rex : (p q r : Parts) → ByRex p q → ByRex q r → ByRex p r
by_rex p q r h g = then_trans (rank_of p.rex) (rank_of q.rex) (rank_of r.rex) (ByScale p q) (ByScale q r) (ByScale p r) (by_scale p q r) h g

before_trans : (p q r : Parts) → PartsBefore p q → PartsBefore q r → PartsBefore p r
before_trans p q r h g = then_trans (prefix_rank p.prefix) (prefix_rank q.prefix) (prefix_rank r.prefix) (ByRex p q) (ByRex q r) (ByRex p r) (by_rex p q r) h g

-- a normal spelling by the row, which is this one or comes before it
record Beside (p : Parts) (r : Row) (i : Insn) : Type 0 where
  parts : Parts
  normal : Normal parts r i
  order : (parts ≡ p) ⊎ PartsBefore parts p

as_normal : (p : Parts) (r : Row) (w : Width) (i : Insn) → Said p r w i → is_told r ≡ true → is_lean r p.rex ≡ true → (has_free_reg r ≡ true → digit_of p.modrm ≡ 0) → Normal p r i
as_normal p r w i s told lean free = record { width = w; laid = s.laid; meant = s.meant; are_bytes = s.are_bytes; told = told; free = free; lean = lean }

zeroed_said : (p : Parts) (r : Row) (w : Width) (i : Insn) → Said p r w i → has_free_reg r ≡ true → Said (zeroed_parts p) r w i
zeroed_said p r w i s free = record { laid = zeroed_laid p r w s.laid free; meant = zeroed_means p r w free ∙ s.meant; are_bytes = zeroed_bytes p s.are_bytes }

then_before : (p q r : Parts) → PartsBefore p q → (q ≡ r) ⊎ PartsBefore q r → (p ≡ r) ⊎ PartsBefore p r
then_before p q r h (inl e) = inr (subst (λ (x : Parts). PartsBefore p x) e h)
then_before p q r h (inr g) = inr (before_trans p q r h g)

beside_said : (p : Parts) (r : Row) (w : Width) (i : Insn) → Said p r w i → is_told r ≡ true → Beside p r i
beside_said p r w i s told =
    let lean = lean_said p r w i s in
    let test = lean_tested p r w s.laid in
    let order = same_or_less p (lean_rex r p.rex) (lean_order p r w s.laid) in
    elim (cases_Bool (has_free_reg r)) [
      | inr named ↦ record { parts = lean_parts r p; normal = as_normal (lean_parts r p) r w i lean told test (λ h. absurd (false≢true (sym named ∙ h))); order = order }
      | inl free ↦ elim (cases_lt 0 (digit_of p.modrm)) [
        | inr le ↦ record { parts = lean_parts r p; normal = as_normal (lean_parts r p) r w i lean told test (λ h. omega arith); order = order }
        | inl lt ↦ record {
          parts = zeroed_parts (lean_parts r p);
          normal = as_normal (zeroed_parts (lean_parts r p)) r w i (zeroed_said (lean_parts r p) r w i lean free) told test (λ h. zero_digit p.modrm);
          order = then_before (zeroed_parts (lean_parts r p)) (lean_parts r p) p (zeroed_before (lean_parts r p) lt) order;
        }
      ]
    ]

beside : (bytes : List ℕ) (i : Insn) (t : Spells bytes i) → is_told t.row ≡ true → Beside t.parts t.row i
beside bytes i t told = beside_said t.parts t.row t.width i (said bytes i t) told

told_spelled : (bytes : List ℕ) (i : Insn) (t : Spells bytes i) → is_told t.row ≡ true → Without t.row i (λ p. Unit {0}) → ⊥
told_spelled bytes i t told none = (let b = beside bytes i t told in none b.parts b.normal tt)

is_nop_insn : (bytes : List ℕ) (i : Insn) (t : Spells bytes i) → is_long_nop t.row ≡ true → i ≡ insn.Nop
is_nop_insn bytes i t nop = sym t.meant ∙ nop_built t.row.kind t.row.immediate (shape_of t.row t.width t.parts) (nop_kind t.row nop)

nop_is : (bytes : List ℕ) (i : Insn) (t : Spells bytes i) → is_long_nop t.row ≡ true → Normal nop_parts short_nop i
nop_is bytes i t nop = subst (λ (x : Insn). Normal nop_parts short_nop x) (sym (is_nop_insn bytes i t nop)) nop_normal

pub none_spelled : (i : Insn) → Nothing i → (bytes : List ℕ) → Spells bytes i → ⊥
none_spelled i none bytes t = elim (told_or_nop t.row t.laid.listed) [
  | inl nop ↦ none short_nop nop_normal.laid.listed (nop_candidate i (is_nop_insn bytes i t nop)) nop_parts (nop_is bytes i t nop) tt
  | inr told ↦ told_spelled bytes i t told (none t.row t.laid.listed (spelled_kind bytes i t))
]

-- ---- the first

abbrev pub found_spells : (s : Spelled) (i : Insn) → FoundIn s i → Spells (take s.len s.bytes) i
found_spells s i g = record {
  parts = g.best.parts;
  row = g.row;
  width = g.best.width;
  laid = g.best.made.laid;
  meant = g.best.made.meant;
  spelled = g.best.made.holds.taken;
  are_bytes = IsBytes-take s.len s.bytes g.best.made.holds.are_bytes;
}

abbrev Later : (s : Spelled) (i : Insn) → FoundIn s i → (other : List ℕ) → Spells other i → Type 0
Later s i g other t = (other ≡ take s.len s.bytes) ⊎ IsBefore (found_spells s i g) t

parts_later : (s : Spelled) (i : Insn) (g : FoundIn s i) (other : List ℕ) (t : Spells other i) → t.row ≡ g.row → (t.parts ≡ g.best.parts) ⊎ PartsBefore g.best.parts t.parts → Later s i g other t
parts_later s i g other t e (inl is) = inl (t.spelled ∙ (ap bytes_of is ∙ sym g.best.made.holds.taken))
parts_later s i g other t e (inr before) = inr (inr (ap (λ (r : Row). r.number) (sym e), before))

first_beside : (f q p : Parts) → (q ≡ f) ⊎ PartsBefore f q → (q ≡ p) ⊎ PartsBefore q p → (p ≡ f) ⊎ PartsBefore f p
first_beside f q p (inl e) (inl d) = inl (sym d ∙ e)
first_beside f q p (inl e) (inr h) = inr (subst (λ (x : Parts). PartsBefore x p) e h)
first_beside f q p (inr h) g = then_later f q p h g
  where
    then_later : (f q p : Parts) → PartsBefore f q → (q ≡ p) ⊎ PartsBefore q p → (p ≡ f) ⊎ PartsBefore f p
    then_later f q p h (inl e) = inr (subst (λ (x : Parts). PartsBefore f x) e h)
    then_later f q p h (inr g) = inr (before_trans f q p h g)

same_row_later : (s : Spelled) (i : Insn) (g : FoundIn s i) (other : List ℕ) (t : Spells other i) → is_told t.row ≡ true → t.row ≡ g.row → Later s i g other t
same_row_later s i g other t told e =
    let b = beside other i t told in
    let later = g.best.first b.parts (subst (λ (r : Row). Normal b.parts r i) e b.normal) tt in
    parts_later s i g other t e (first_beside g.best.parts b.parts t.parts later b.order)

nop_later : (s : Spelled) (i : Insn) (g : FoundIn s i) (other : List ℕ) (t : Spells other i) → is_long_nop t.row ≡ true → Later s i g other t
nop_later s i g other t nop =
    let more = long_nop_number t.row t.laid.listed nop in
    elim (g.later short_nop nop_normal.laid.listed (nop_candidate i (is_nop_insn other i t nop))) [
      | inl is ↦ (let own : short_nop.number ≡ g.row.number = ap (λ (r : Row). r.number) is in inr (inl (omega arith)))
      | inr rest ↦ elim rest [
        | inl less ↦ inr (inl (omega arith))
        | inr none ↦ absurd (none nop_parts (nop_is other i t nop) tt)
      ]
    ]

pub first_spelled : (s : Spelled) (i : Insn) → FoundIn s i → IsFirst (take s.len s.bytes) i
first_spelled s i g = record {
  spelled = found_spells s i g;
  first = λ other t. elim (told_or_nop t.row t.laid.listed) [
    | inl nop ↦ nop_later s i g other t nop
    | inr told ↦ elim (g.later t.row t.laid.listed (spelled_kind other i t)) [
      | inl is ↦ same_row_later s i g other t told is
      | inr rest ↦ elim rest [
        | inl less ↦ inr (inl less)
        | inr none ↦ absurd (told_spelled other i t told none)
      ]
    ]
  ];
}

pub found_zeros : (s : Spelled) (i : Insn) → FoundIn s i → (k : ℕ) → s.len ≤ k → get_or s.bytes k 0 ≡ 0
found_zeros s i g k le = g.best.made.holds.zeros k le

pub found_size : (s : Spelled) (i : Insn) → FoundIn s i → (1 ≤ s.len) × (s.len ≤ 15)
found_size s i g =
    let long = spelled_length g.best.parts g.row g.best.width g.best.made.laid in
    let same : length (take s.len s.bytes) ≡ length (bytes_of g.best.parts) = ap length g.best.made.holds.taken in
    (omega (arith, length-take s.len s.bytes, long.0), g.best.made.holds.fits)
