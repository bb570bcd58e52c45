-- What is read up to the opcode, and that it is read again.
use Rattle.std.proofs.Common.{◌≡◌, ℕ, ◌+◌, ◌/◌, ◌%◌, ◌<◌, ◌==◌, Bool, true, false, ◌||◌, List, [], ◌∷◌, ◌++◌, Option, Some, None, refl, sym, ◌∙◌, ap, arith, inl, inr}
use Rattle.std.proofs.lemmas.Bool.{cases_Bool, eqb-true, false≢true}
use Rattle.vw_rows.specs.declared.patterns.Prefix.{Prefix}
use Rattle.vw_rows.specs.declared.patterns.Prefix.TheVariants.{Plain, P66, PF2, PF3}
use Rattle.vw_rows.specs.declared.patterns.Map.{Map}
use Rattle.vw_rows.specs.declared.patterns.Map.TheVariants.{One, Two, Three}
use Rattle.vw_rows.specs.Parts.{prefix_bytes, rex_bytes, opcode_bytes}
use Rattle.vw_rows.specs.Layout.{IsRex}
use Rattle.vw_decode.specs.Lexing.{prefix_at, rex_at, third_byte, second_byte, opcode_at, Head, head_at}
use Rattle.vw_decode.proofs.Binds.{bind_some, some_is}
use Rattle.vw_decode.proofs.RowFacts.{is_taken}

-- ---- what is read is there

prefix_takes : (bytes : List ℕ) → bytes ≡ prefix_bytes (prefix_at bytes).0 ++ (prefix_at bytes).1
prefix_takes [] = refl
prefix_takes (b ∷ bs) = elim (cases_Bool (b == 0x66)) [
  | inl a ↦ rw a (ap (λ (n : ℕ). n ∷ bs) (eqb-true b 0x66 a))
  | inr miss ↦ elim (cases_Bool (b == 0xF2)) [
    | inl a ↦ rw (miss, a) (ap (λ (n : ℕ). n ∷ bs) (eqb-true b 0xF2 a))
    | inr miss2 ↦ elim (cases_Bool (b == 0xF3)) [
      | inl a ↦ rw (miss, miss2, a) (ap (λ (n : ℕ). n ∷ bs) (eqb-true b 0xF3 a))
      | inr miss3 ↦ rw (miss, miss2, miss3) refl
    ]
  ]
]

rex_takes : (bytes : List ℕ) → (bytes ≡ rex_bytes (rex_at bytes).0 ++ (rex_at bytes).1) × IsRex (rex_at bytes).0
rex_takes [] = (refl, tt)
rex_takes (b ∷ bs) = elim (cases_Bool (b / 16 == 4)) [
  | inl a ↦ (let e : b / 16 ≡ 4 = eqb-true (b / 16) 4 a in let is : b ≡ 0x40 + b % 16 = omega arith in rw a (ap (λ (n : ℕ). n ∷ bs) is, omega arith))
  | inr miss ↦ rw miss (refl, tt)
]

third_takes : (bytes : List ℕ) (o : Map × ℕ × List ℕ) → third_byte bytes ≡ Some o → 0x0F ∷ 0x3A ∷ bytes ≡ opcode_bytes o.0 o.1 ++ o.2
third_takes [] o e = absurd cc
third_takes (b ∷ bs) o e = rw (← some_is (Three, b, bs) o e) refl

second_takes : (bytes : List ℕ) (o : Map × ℕ × List ℕ) → second_byte bytes ≡ Some o → 0x0F ∷ bytes ≡ opcode_bytes o.0 o.1 ++ o.2
second_takes [] o e = absurd cc
second_takes (b ∷ bs) o e = elim (cases_Bool (b == 0x3A)) [
  | inl a ↦ ap (λ (n : ℕ). 0x0F ∷ n ∷ bs) (eqb-true b 0x3A a) ∙ third_takes bs o (rw a at e)
  | inr miss ↦ (let is = some_is (Two, b, bs) o (rw miss at e) in rw (← is) refl)
]

opcode_takes : (bytes : List ℕ) (o : Map × ℕ × List ℕ) → opcode_at bytes ≡ Some o → bytes ≡ opcode_bytes o.0 o.1 ++ o.2
opcode_takes [] o e = absurd cc
opcode_takes (b ∷ bs) o e = elim (cases_Bool (b == 0x0F)) [
  | inl a ↦ ap (λ (n : ℕ). n ∷ bs) (eqb-true b 0x0F a) ∙ second_takes bs o (rw a at e)
  | inr miss ↦ (let is = some_is (One, b, bs) o (rw miss at e) in rw (← is) refl)
]

pub head_takes : (bytes : List ℕ) (h : Head) → head_at bytes ≡ Some h → (bytes ≡ prefix_bytes h.prefix ++ (rex_bytes h.rex ++ (opcode_bytes h.map h.opcode ++ h.rest))) × IsRex h.rex
head_takes bytes h e =
    let p = prefix_at bytes in
    let r = rex_at p.1 in
    let made : Map × ℕ × List ℕ → Head = λ o. record { prefix = p.0; rex = r.0; map = o.0; opcode = o.1; rest = o.2 } in
    let b = bind_some (opcode_at r.1) (λ o. Some (made o)) h e in
    let is : made b.0 ≡ h = some_is (made b.0) h b.2 in
    let one : bytes ≡ prefix_bytes p.0 ++ p.1 = prefix_takes bytes in
    let two = rex_takes p.1 in
    let three : r.1 ≡ opcode_bytes b.0.0 b.0.1 ++ b.0.2 = opcode_takes r.1 b.0 b.1 in
    rw (← is) (one ∙ ap (λ (t : List ℕ). prefix_bytes p.0 ++ t) (two.0 ∙ ap (λ (t : List ℕ). rex_bytes r.0 ++ t) three), two.1)

-- ---- what is there is read

or_no : (a b : Bool) → (a || b) ≡ false → (a ≡ false) × (b ≡ false)
or_no true b h = absurd (false≢true (sym h))
or_no false b h = (refl, h)

-- a byte that no prefix is
pub record NoPrefix (b : ℕ) : Type 0 where
  pub not66 : (b == 0x66) ≡ false
  pub notF2 : (b == 0xF2) ≡ false
  pub notF3 : (b == 0xF3) ≡ false

prefix_again : (p : Prefix) (b : ℕ) (bs : List ℕ) → NoPrefix b → prefix_at (prefix_bytes p ++ (b ∷ bs)) ≡ (p, b ∷ bs)
prefix_again Plain b bs miss = rw (miss.not66, miss.notF2, miss.notF3) refl
prefix_again P66 b bs miss = refl
prefix_again PF2 b bs miss = refl
prefix_again PF3 b bs miss = refl

not_equal : (a b : ℕ) → (a ≡ b → ⊥) → (a == b) ≡ false
not_equal a b h = elim (cases_Bool (a == b)) [
  | inl yes_ ↦ absurd (h (eqb-true a b yes_))
  | inr miss ↦ miss
]

rex_no_prefix : (bits : ℕ) → bits < 16 → NoPrefix (0x40 + bits)
rex_no_prefix bits lt = record {
  not66 = not_equal (0x40 + bits) 0x66 (λ e. omega arith);
  notF2 = not_equal (0x40 + bits) 0xF2 (λ e. omega arith);
  notF3 = not_equal (0x40 + bits) 0xF3 (λ e. omega arith);
}

is_rex : (bits : ℕ) → bits < 16 → ((0x40 + bits) / 16 == 4) ≡ true
is_rex bits lt = (let e : (0x40 + bits) / 16 ≡ 4 = omega arith in rw e refl)

rex_low : (bits : ℕ) → bits < 16 → (0x40 + bits) % 16 ≡ bits
rex_low bits lt = omega arith

-- the prefix and REX are read before a byte that is neither
front_again : (p : Prefix) (r : Option ℕ) (b : ℕ) (bs : List ℕ) → IsRex r → NoPrefix b → (b / 16 == 4) ≡ false → (prefix_at (prefix_bytes p ++ (rex_bytes r ++ (b ∷ bs))) ≡ (p, rex_bytes r ++ (b ∷ bs))) × (rex_at (rex_bytes r ++ (b ∷ bs)) ≡ (r, b ∷ bs))
front_again p None b bs rex miss no_rex = (prefix_again p b bs miss, rw no_rex refl)
front_again p (Some bits) b bs rex miss no_rex = (prefix_again p (0x40 + bits) (b ∷ bs) (rex_no_prefix bits rex), rw (is_rex bits rex, rex_low bits rex) refl)

opcode_again : (m : Map) (o : ℕ) (rest : List ℕ) → is_taken m o ≡ false → opcode_at (opcode_bytes m o ++ rest) ≡ Some (m, o, rest)
opcode_again One o rest free =
    let a = or_no (o == 0x66) _ free in
    let b = or_no (o == 0xF2) _ a.1 in
    let c = or_no (o == 0xF3) _ b.1 in
    let d = or_no (o / 16 == 4) (o == 0x0F) c.1 in
    rw d.1 refl
opcode_again Two o rest free = rw free refl
opcode_again Three o rest free = refl

-- the first byte of an opcode, and that it is no other part
record Begins (bytes : List ℕ) : Type 0 where
  b : ℕ
  bs : List ℕ
  is : bytes ≡ b ∷ bs
  no_prefix : NoPrefix b
  no_rex : (b / 16 == 4) ≡ false

opcode_begins : (m : Map) (o : ℕ) (rest : List ℕ) → is_taken m o ≡ false → Begins (opcode_bytes m o ++ rest)
opcode_begins One o rest free =
    let a = or_no (o == 0x66) _ free in
    let b = or_no (o == 0xF2) _ a.1 in
    let c = or_no (o == 0xF3) _ b.1 in
    let d = or_no (o / 16 == 4) (o == 0x0F) c.1 in
    record { b = o; bs = rest; is = refl; no_prefix = record { not66 = a.0; notF2 = b.0; notF3 = c.0 }; no_rex = d.0 }
opcode_begins Two o rest free = record { b = 0x0F; bs = o ∷ rest; is = refl; no_prefix = record { not66 = refl; notF2 = refl; notF3 = refl }; no_rex = refl }
opcode_begins Three o rest free = record { b = 0x0F; bs = 0x3A ∷ o ∷ rest; is = refl; no_prefix = record { not66 = refl; notF2 = refl; notF3 = refl }; no_rex = refl }

pub head_again : (h : Head) → IsRex h.rex → is_taken h.map h.opcode ≡ false → head_at (prefix_bytes h.prefix ++ (rex_bytes h.rex ++ (opcode_bytes h.map h.opcode ++ h.rest))) ≡ Some h
head_again h rex free =
    let tail = opcode_bytes h.map h.opcode ++ h.rest in
    let s = opcode_begins h.map h.opcode h.rest free in
    let f = front_again h.prefix h.rex s.b s.bs rex s.no_prefix s.no_rex in
    let one : prefix_at (prefix_bytes h.prefix ++ (rex_bytes h.rex ++ tail)) ≡ (h.prefix, rex_bytes h.rex ++ tail) = rw s.is f.0 in
    let two : rex_at (rex_bytes h.rex ++ tail) ≡ (h.rex, tail) = rw s.is f.1 in
    rw (one, two, opcode_again h.map h.opcode h.rest free) refl
