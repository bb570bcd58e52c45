-- Bytes at which no row has an immediate that counts among the bounds.
use Rattle.std.proofs.Common.{◌≡◌, ℕ, ◌≤◌, ◌/◌, ◌==◌, Bool, true, false, cond, ◌&&◌, List, [], ◌∷◌, length, get_or, Option, Some, None, refl, sym, ◌∙◌, ap, subst, arith, eq-eqb, inl, inr}
use Rattle.std.proofs.lemmas.Bool.{and_parts, cases_Bool, eqb-true, false≢true}
use Rattle.std.specs.List.{list_all, find}
use Rattle.vw_insn.specs.declared.operations.AluOp.TheVariants as alu
use Rattle.vw_rows.specs.declared.patterns.Map.{Map}
use Rattle.vw_rows.specs.declared.patterns.Map.TheVariants.{One, Two, Three}
use Rattle.vw_rows.specs.declared.forms.Kind.{Kind}
use Rattle.vw_rows.specs.declared.forms.Kind.TheVariants as kind
use Rattle.vw_rows.specs.declared.forms.Immediate.{Immediate}
use Rattle.vw_rows.specs.declared.forms.Row.{Row}
use Rattle.vw_rows.specs.declared.shape.Shape.{Shape}
use Rattle.vw_rows.specs.Rows.{rows}
use Rattle.vw_rows.specs.Lookup.{key, matches, takes_prefix, same_map, has_opcode}
use Rattle.vw_rows.specs.Parts.{Modrm, Parts, rex_w}
use Rattle.vw_rows.specs.Layout.{has_modrm, width_at, immediate_length, has_fixed}
use Rattle.vw_rows.specs.Shape.{shape_of}
use Rattle.vw_rows.specs.Meaning.{is_given, built}
use Rattle.vw_insn.specs.declared.registers.Width.{Width}
use Rattle.vw_decode.specs.Lexing.{◌>>=◌, Found, insn_found, Head, split, modrm_at, prefix_at, rex_at, third_byte, second_byte, opcode_at, row_at, tail_at, read}
use Rattle.vw_state.specs.Bounds.{is_bounding, counted_immediate, bounds_near, bounds_read}
use Rattle.vw_state.specs.Opcodes.{is_counting}

-- ---- what is built by a row

-- the instruction of a kind, with such an immediate, has one that counts
abbrev counts : Kind → Immediate → Bool
counts (kind.Alu op) i = is_bounding op && is_given i
counts kind.Push i = false
counts kind.Pop i = false
counts (kind.Extend signed from) i = false
counts kind.Imul i = false
counts (kind.Jcc c) i = false
counts kind.Jump i = false
counts kind.Call i = false
counts kind.Ret i = false
counts kind.Leave i = false
counts kind.CallInd i = false
counts kind.JumpInd i = false
counts kind.Test i = false
counts kind.Xchg i = false
counts kind.Mov i = is_given i
counts kind.MovImm i = true
counts kind.Lea i = false
counts kind.Nop i = false
counts kind.Widen i = false
counts kind.SignA i = false
counts (kind.Shift op) i = false
counts (kind.Unary op) i = false
counts (kind.MulDiv op) i = false
counts kind.Ud2 i = false
counts (kind.Cmov c) i = false
counts (kind.Set c) i = false
counts (kind.Bits op) i = false
counts kind.Bt i = false
counts kind.Bswap i = false
counts kind.Endbr i = false
counts (kind.Xmm row) i = false

not_true : {A : Type 0} → true ≡ false → A
not_true e = absurd (false≢true (sym e))

none_built :
    (k : Kind) (i : Immediate) (s : Shape) → counts k i ≡ false
    → counted_immediate (built k i s) ≡ None
none_built (kind.Alu alu.And) i s e = rw e refl
none_built (kind.Alu alu.Cmp) i s e = rw e refl
none_built (kind.Alu _) i s e = refl
none_built kind.Mov i s e = rw e refl
none_built kind.MovImm i s e = not_true e
none_built _ i s e = refl

-- ---- the rows whose immediate counts, by their opcodes

abbrev is_one : Map → Bool
is_one One = true
is_one Two = false
is_one Three = false

-- a row whose immediate counts has such an opcode
abbrev asks : Row → Bool
asks r = cond (counts r.kind r.immediate) (is_one r.pattern.map && cond r.pattern.plus (r.pattern.opcode / 16 == 0xB) (is_counting r.pattern.opcode)) true

all_ask : list_all asks rows ≡ true
unfolding rows
all_ask = refl

-- a row that is found passes each test that all pass, and the test that it is found by
found_passes : (p q : Row → Bool) (xs : List Row) (r : Row) → list_all p xs ≡ true → find q xs ≡ Some r → (p r ≡ true) × (q r ≡ true)
found_passes p q [] r all e = absurd cc
found_passes p q (x ∷ xs) r all e =
    let both = and_parts (p x) (list_all p xs) all in
    elim (cases_Bool (q x)) [
      | inl hit ↦ (let is : x ≡ r = some_is (rw hit at e) in subst (λ (y : Row). (p y ≡ true) × (q y ≡ true)) is (both.0, hit))
      | inr miss ↦ found_passes p q xs r both.1 (rw miss at e)
    ]
  where
    some_is : {x y : Row} → ◌≡◌ {A = Option Row} (Some x) (Some y) → x ≡ y
    some_is e = cc

same_is : (a b : Map) → same_map a b ≡ true → is_one a ≡ true → b ≡ One
same_is One One h e = refl
same_is One Two h e = absurd (false≢true h)
same_is One Three h e = absurd (false≢true h)
same_is Two b h e = absurd (false≢true e)
same_is Three b h e = absurd (false≢true e)

counting_opcode : (plus : Bool) (p o : ℕ) → cond plus (p / 16 == 0xB) (is_counting p) ≡ true → cond plus (o / 8 == p / 8) (o == p) ≡ true → is_counting o ≡ true
counting_opcode true p o is hit =
    let e : o / 8 ≡ p / 8 = eqb-true (o / 8) (p / 8) hit in
    let f : p / 16 ≡ 0xB = eqb-true (p / 16) 0xB is in
    let g : o / 16 ≡ 0xB = omega arith in
    rw (eq-eqb (o / 16) 0xB g) refl
counting_opcode false p o is hit = subst (λ (n : ℕ). is_counting n ≡ true) (sym (eqb-true o p hit)) is

-- so the immediate of a row that is found by another opcode does not count
none_counts : (h : Head) (digit : ℕ) (form : Bool) (r : Row) → (h.map ≡ One → is_counting h.opcode ≡ false)
    → find (λ (x : Row). matches x (key h.prefix h.map h.opcode digit form)) rows ≡ Some r → counts r.kind r.immediate ≡ false
none_counts h digit form r other e =
    let k = key h.prefix h.map h.opcode digit form in
    let both = found_passes asks (λ (x : Row). matches x k) rows r all_ask e in
    let opcode = and_parts (has_opcode r.pattern h.opcode) _ both.1 in
    let prefix = and_parts (takes_prefix r.pattern.prefixes h.prefix) _ opcode.1 in
    let map = and_parts (same_map r.pattern.map h.map) _ prefix.1 in
    elim (cases_Bool (counts r.kind r.immediate)) [
      | inl hit ↦ (let test = and_parts (is_one r.pattern.map) _ (rw hit at both.0) in
          let is = same_is r.pattern.map h.map map.0 test.0 in
          not_true (sym (counting_opcode r.pattern.plus r.pattern.opcode h.opcode test.1 opcode.0) ∙ other is))
      | inr miss ↦ miss
    ]

-- ---- what is read

skip : {A : Type 0} (o : Option A) (f : A → Option Found) → ((a : A) → bounds_read (f a) ≡ []) → bounds_read (o >>= f) ≡ []
skip None f h = refl
skip (Some a) f h = h a

skip_test : (b : Bool) (f : Found) → bounds_read (Some f) ≡ [] → bounds_read (cond b (Some f) None) ≡ []
skip_test true f h = h
skip_test false f h = refl

found_has_none : (f : Found) → counted_immediate (insn_found f) ≡ None → bounds_read (Some f) ≡ []
found_has_none f e = ap bounds_near e

tail_has_none : (h : Head) (r : Row) → counts r.kind r.immediate ≡ false → bounds_read (tail_at h r) ≡ []
unfolding tail_at
tail_has_none h r e =
    skip (width_at r.width h.prefix (rex_w h.rex)) (λ w. behind_width w) (λ w.
    skip (modrm_at (has_modrm r.operands) h.rest) (λ m. behind_modrm w m) (λ m.
    skip (split (immediate_length r.immediate w) m.1) (λ i. behind_immediate w m i) (λ i.
    skip_test (has_fixed r.operands (parts m i)) (made w m i) (found_has_none (made w m i) (none_built r.kind r.immediate (shape_of r w (parts m i)) e)))))
  where
    parts : Option Modrm × List ℕ → List ℕ × List ℕ → Parts
    parts m i = record { prefix = h.prefix; rex = h.rex; map = h.map; opcode = h.opcode; modrm = m.0; imm = i.0 }

    made : Width → Option Modrm × List ℕ → List ℕ × List ℕ → Found
    made w m i = record { row = r; width = w; parts = parts m i; rest = i.1 }

    behind_immediate : Width → Option Modrm × List ℕ → List ℕ × List ℕ → Option Found
    behind_immediate w m i = cond (has_fixed r.operands (parts m i)) (Some (made w m i)) None

    behind_modrm : Width → Option Modrm × List ℕ → Option Found
    behind_modrm w m = split (immediate_length r.immediate w) m.1 >>= λ i. behind_immediate w m i

    behind_width : Width → Option Found
    behind_width w = modrm_at (has_modrm r.operands) h.rest >>= λ m. behind_modrm w m

row_has_none : (h : Head) → (h.map ≡ One → is_counting h.opcode ≡ false) → bounds_read (row_at h.prefix h.map h.opcode h.rest >>= λ row. tail_at h row) ≡ []
row_has_none h other = by_row (row_at h.prefix h.map h.opcode h.rest) refl
  where
    by_row : (o : Option Row) → row_at h.prefix h.map h.opcode h.rest ≡ o → bounds_read (o >>= λ row. tail_at h row) ≡ []
    by_row None e = refl
    by_row (Some r) e = tail_has_none h r (none_counts h _ _ r other e)

-- the first of some bytes, where there is one, is no opcode of an immediate that counts
abbrev pub NoneBegins : List ℕ → Type 0
NoneBegins bytes = 1 ≤ length bytes → is_counting (get_or bytes 0 0) ≡ false

two_is_not : Two ≡ One → {A : Type 0} → A
two_is_not e = absurd cc

three_is_not : Three ≡ One → {A : Type 0} → A
three_is_not e = absurd cc

read_none : (bytes : List ℕ) → NoneBegins (rex_at (prefix_at bytes).1).1 → bounds_read (read bytes) ≡ []
unfolding read
read_none bytes none = by_rest (rex_at (prefix_at bytes).1).1 none
  where
    head : Map × ℕ × List ℕ → Head
    head o = record { prefix = (prefix_at bytes).0; rex = (rex_at (prefix_at bytes).1).0; map = o.0; opcode = o.1; rest = o.2 }

    made : Map × ℕ × List ℕ → Option Head
    made o = Some (head o)

    by_third : (rest : List ℕ) → bounds_read ((third_byte rest >>= made) >>= λ h. row_at h.prefix h.map h.opcode h.rest >>= λ row. tail_at h row) ≡ []
    by_third [] = refl
    by_third (b ∷ bs) = row_has_none (head (Three, b, bs)) (λ e. three_is_not e)

    by_second : (rest : List ℕ) → bounds_read ((second_byte rest >>= made) >>= λ h. row_at h.prefix h.map h.opcode h.rest >>= λ row. tail_at h row) ≡ []
    by_second [] = refl
    by_second (b ∷ bs) = elim (cases_Bool (b == 0x3A)) [
      | inl a ↦ rw a (by_third bs)
      | inr a ↦ rw a (row_has_none (head (Two, b, bs)) (λ e. two_is_not e))
    ]

    by_rest : (rest : List ℕ) → NoneBegins rest → bounds_read ((opcode_at rest >>= made) >>= λ h. row_at h.prefix h.map h.opcode h.rest >>= λ row. tail_at h row) ≡ []
    by_rest [] none = refl
    by_rest (b ∷ bs) none = elim (cases_Bool (b == 0x0F)) [
      | inl a ↦ rw a (by_second bs)
      | inr a ↦ rw a (row_has_none (head (One, b, bs)) (λ e. none (omega arith)))
    ]

pub none_read : (bytes behind rest : List ℕ) → behind ≡ (prefix_at bytes).1 → rest ≡ (rex_at behind).1 → NoneBegins rest → bounds_read (read bytes) ≡ []
none_read bytes behind rest e f none =
    let is : rest ≡ (rex_at (prefix_at bytes).1).1 = f ∙ ap (λ (x : List ℕ). (rex_at x).1) e in
    read_none bytes (subst NoneBegins is none)
