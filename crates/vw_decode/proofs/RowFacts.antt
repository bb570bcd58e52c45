-- What every row meets, by computation over the list.
use Rattle.std.proofs.Common.{◌≡◌, ℕ, ◌+◌, ◌/◌, ◌<◌, ◌≤◌, ◌==◌, Bool, true, false, cond, not, ◌&&◌, ◌||◌, Option, None, Some, refl, sym, ◌∙◌, subst, arith, inl, inr}
use Rattle.std.proofs.lemmas.Bool.{and_parts, or_cases, cases_lt, eqb-true, false≢true, not-true}
use Rattle.std.specs.List.{list_all}
use Rattle.vw_rows.specs.declared.patterns.Prefix.{Prefix}
use Rattle.vw_rows.specs.declared.patterns.Map.{Map}
use Rattle.vw_rows.specs.declared.patterns.Map.TheVariants.{One, Two, Three}
use Rattle.vw_rows.specs.declared.patterns.Form.{Form}
use Rattle.vw_rows.specs.declared.patterns.Form.TheVariants.{Any, Memory, Register}
use Rattle.vw_rows.specs.declared.forms.Row.{Row}
use Rattle.vw_rows.specs.Rows.{rows}
use Rattle.vw_rows.specs.Lookup.{IsIn, key, matches, has_digit, has_form}
use Rattle.vw_rows.specs.Layout.{has_modrm}
use Rattle.vw_rows.proofs.Matching.{tests-of, of-tests, same_map-≡}
use Rattle.vw_rows.proofs.Uniqueness.{rows_all}

-- ---- a row without ModRM asks no digit and no form

abbrev is_none : Option ℕ → Bool
is_none None = true
is_none (Some _) = false

abbrev is_any : Form → Bool
is_any Any = true
is_any Memory = false
is_any Register = false

abbrev asks_nothing : Row → Bool
asks_nothing r = cond (has_modrm r.operands) true (is_none r.pattern.digit && is_any r.pattern.form)

all_ask_nothing : list_all asks_nothing rows ≡ true
unfolding rows
all_ask_nothing = refl

any_digit : (o : Option ℕ) (d : ℕ) → is_none o ≡ true → has_digit o d ≡ true
any_digit None d h = refl
any_digit (Some n) d h = absurd (false≢true h)

any_form : (f : Form) (b : Bool) → is_any f ≡ true → has_form f b ≡ true
any_form Any b h = refl
any_form Memory b h = absurd (false≢true h)
any_form Register b h = absurd (false≢true h)

-- so it is found with each digit and form
pub found_with_any : (r : Row) → IsIn r rows → has_modrm r.operands ≡ false → (p : Prefix) (m : Map) (o d e : ℕ) (f g : Bool) → matches r (key p m o d f) ≡ true → matches r (key p m o e g) ≡ true
found_with_any r i miss p m o d e f g h =
    let test : asks_nothing r ≡ true = rows_all asks_nothing all_ask_nothing r i in
    let both = and_parts (is_none r.pattern.digit) (is_any r.pattern.form) (subst (λ (b : Bool). cond b true (is_none r.pattern.digit && is_any r.pattern.form) ≡ true) miss test) in
    let t = tests-of r (key p m o d f) h in
    of-tests r (key p m o e g) (record { prefix = t.prefix; map = t.map; opcode = t.opcode; digit = any_digit r.pattern.digit e both.0; form = any_form r.pattern.form g both.1 })

-- ---- no opcode is a prefix, a REX or the first bytes of a longer opcode

abbrev pub is_taken : Map → ℕ → Bool
is_taken One o = (o == 0x66) || ((o == 0xF2) || ((o == 0xF3) || ((o / 16 == 4) || (o == 0x0F))))
is_taken Two o = o == 0x3A
is_taken Three o = false

-- the same of the eight opcodes of +r
abbrev is_taken_eight : Map → ℕ → Bool
is_taken_eight One e = (e == 12) || ((e == 30) || ((e == 8) || ((e == 9) || (e == 1))))
is_taken_eight Two e = e == 7
is_taken_eight Three e = false

abbrev is_free : Row → Bool
is_free r = cond r.pattern.plus (not (is_taken_eight r.pattern.map (r.pattern.opcode / 8))) (not (is_taken r.pattern.map r.pattern.opcode))

all_free : list_all is_free rows ≡ true
unfolding rows
all_free = refl

false_where : (a b : Bool) → (a ≡ true → b ≡ true) → b ≡ false → a ≡ false
false_where true b h e = absurd (false≢true (sym e ∙ h refl))
false_where false b h e = refl

eight_or_nine : (e : ℕ) → 8 ≤ e → e < 10 → is_taken_eight One e ≡ true
eight_or_nine e lo hi = elim (cases_lt e 9) [
  | inl lt ↦ (let is : e ≡ 8 = omega arith in subst (λ (n : ℕ). is_taken_eight One n ≡ true) (sym is) refl)
  | inr le ↦ (let is : e ≡ 9 = omega arith in subst (λ (n : ℕ). is_taken_eight One n ≡ true) (sym is) refl)
]

eight_of_one : (o : ℕ) → is_taken One o ≡ true → is_taken_eight One (o / 8) ≡ true
eight_of_one o h = elim (or_cases (o == 0x66) _ h) [
  | inl a ↦ subst (λ (n : ℕ). is_taken_eight One (n / 8) ≡ true) (sym (eqb-true o 0x66 a)) refl
  | inr h2 ↦ elim (or_cases (o == 0xF2) _ h2) [
    | inl a ↦ subst (λ (n : ℕ). is_taken_eight One (n / 8) ≡ true) (sym (eqb-true o 0xF2 a)) refl
    | inr h3 ↦ elim (or_cases (o == 0xF3) _ h3) [
      | inl a ↦ subst (λ (n : ℕ). is_taken_eight One (n / 8) ≡ true) (sym (eqb-true o 0xF3 a)) refl
      | inr h4 ↦ elim (or_cases (o / 16 == 4) _ h4) [
        | inl a ↦ eight_or_nine (o / 8) (let e : o / 16 ≡ 4 = eqb-true (o / 16) 4 a in omega arith) (let e : o / 16 ≡ 4 = eqb-true (o / 16) 4 a in omega arith)
        | inr a ↦ subst (λ (n : ℕ). is_taken_eight One (n / 8) ≡ true) (sym (eqb-true o 0x0F a)) refl
      ]
    ]
  ]
]

eight_of : (m : Map) (o : ℕ) → is_taken m o ≡ true → is_taken_eight m (o / 8) ≡ true
eight_of One o h = eight_of_one o h
eight_of Two o h = subst (λ (n : ℕ). is_taken_eight Two (n / 8) ≡ true) (sym (eqb-true o 0x3A h)) refl
eight_of Three o h = absurd (false≢true h)

free_opcode : (plus : Bool) (m : Map) (p o : ℕ) → cond plus (not (is_taken_eight m (p / 8))) (not (is_taken m p)) ≡ true → cond plus (o / 8 == p / 8) (o == p) ≡ true → is_taken m o ≡ false
free_opcode true m p o free hit =
    false_where (is_taken m o) (is_taken_eight m (p / 8)) (λ h. subst (λ (e : ℕ). is_taken_eight m e ≡ true) (eqb-true (o / 8) (p / 8) hit) (eight_of m o h)) (not-true (is_taken_eight m (p / 8)) free)
free_opcode false m p o free hit = subst (λ (n : ℕ). is_taken m n ≡ false) (sym (eqb-true o p hit)) (not-true (is_taken m p) free)

-- so the opcode of a row begins as no other part does
pub opcode_free : (r : Row) → IsIn r rows → (p : Prefix) (m : Map) (o d : ℕ) (f : Bool) → matches r (key p m o d f) ≡ true → is_taken m o ≡ false
opcode_free r i p m o d f h =
    let t = tests-of r (key p m o d f) h in
    let free = free_opcode r.pattern.plus r.pattern.map r.pattern.opcode o (rows_all is_free all_free r i) t.opcode in
    subst (λ (x : Map). is_taken x o ≡ false) (same_map-≡ r.pattern.map m t.map) free
