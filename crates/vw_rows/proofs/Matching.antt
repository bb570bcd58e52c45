use Rattle.std.proofs.Common.{◌≡◌, ℕ, ◌/◌, ◌==◌, Bool, true, false, cond, ◌&&◌, ◌||◌, Option, None, Some, refl, sym, ◌∙◌, ap, subst, eq-eqb}
use Rattle.std.proofs.lemmas.Bool.{and_parts, or_left, or_right, eqb-true, false≢true}
use Rattle.std.specs.Cmp.Derive.{both_true}
use Rattle.vw_rows.specs.declared.patterns.Prefix.{Prefix}
use Rattle.vw_rows.specs.declared.patterns.Prefix.TheVariants.{Plain, P66, PF2, PF3}
use Rattle.vw_rows.specs.declared.patterns.Map.{Map}
use Rattle.vw_rows.specs.declared.patterns.Map.TheVariants.{One, Two, Three}
use Rattle.vw_rows.specs.declared.patterns.Key.{Key}
use Rattle.vw_rows.specs.declared.forms.Row.{Row}
use Rattle.vw_rows.specs.Lookup.{matches, takes_prefix, same_map, has_opcode, has_digit, has_form}

-- the five tests of a match, by name
pub record AnswersTo (r : Row) (k : Key) : Type 0 where
  pub prefix : takes_prefix r.pattern.prefixes k.prefix ≡ true
  pub map : same_map r.pattern.map k.map ≡ true
  pub opcode : has_opcode r.pattern k.opcode ≡ true
  pub digit : has_digit r.pattern.digit k.digit ≡ true
  pub form : has_form r.pattern.form k.register_form ≡ true

five_parts : (a b c d e : Bool) → (a && (b && (c && (d && e)))) ≡ true → (a ≡ true) × (b ≡ true) × (c ≡ true) × (d ≡ true) × (e ≡ true)
five_parts a b c d e h =
    let one = and_parts a (b && (c && (d && e))) h in
    let two = and_parts b (c && (d && e)) one.1 in
    let three = and_parts c (d && e) two.1 in
    let four = and_parts d e three.1 in
    (one.0, two.0, three.0, four.0, four.1)

pub tests-of : (r : Row) (k : Key) → matches r k ≡ true → AnswersTo r k
tests-of r k h =
    let parts = five_parts (has_opcode r.pattern k.opcode) (takes_prefix r.pattern.prefixes k.prefix) (same_map r.pattern.map k.map) (has_digit r.pattern.digit k.digit) (has_form r.pattern.form k.register_form) h in
    record { prefix = parts.1; map = parts.2; opcode = parts.0; digit = parts.3; form = parts.4 }

pub of-tests : (r : Row) (k : Key) → AnswersTo r k → matches r k ≡ true
of-tests r k t = both_true t.opcode (both_true t.prefix (both_true t.map (both_true t.digit t.form)))

pub same_map-≡ : (a b : Map) → same_map a b ≡ true → a ≡ b
same_map-≡ One One _ = refl
same_map-≡ Two Two _ = refl
same_map-≡ Three Three _ = refl
same_map-≡ _ _ h = absurd (false≢true h)

pub same_map-refl : (a : Map) → same_map a a ≡ true
same_map-refl One = refl
same_map-refl Two = refl
same_map-refl Three = refl

-- whether some prefix, or some form, passes
abbrev pub some_prefix : (Prefix → Bool) → Bool
some_prefix f = f Plain || (f P66 || (f PF2 || f PF3))

abbrev pub some_form : (Bool → Bool) → Bool
some_form f = f true || f false

some_prefix-lem : (f : Prefix → Bool) (p : Prefix) → f p ≡ true → some_prefix f ≡ true
some_prefix-lem f Plain h = or_left (f Plain) _ h
some_prefix-lem f P66 h = or_right (f Plain) _ (or_left (f P66) _ h)
some_prefix-lem f PF2 h = or_right (f Plain) _ (or_right (f P66) _ (or_left (f PF2) _ h))
some_prefix-lem f PF3 h = or_right (f Plain) _ (or_right (f P66) _ (or_right (f PF2) _ h))

some_form-lem : (f : Bool → Bool) (b : Bool) → f b ≡ true → some_form f ≡ true
some_form-lem f true h = or_left (f true) _ h
some_form-lem f false h = or_right (f true) _ h

-- two rows that one key may have, field by field
abbrev pub clash_opcode : Bool → ℕ → Bool → ℕ → Bool
clash_opcode true a true b = a / 8 == b / 8
clash_opcode true a false b = a / 8 == b / 8
clash_opcode false a true b = a / 8 == b / 8
clash_opcode false a false b = a == b

abbrev pub clash_digit : Option ℕ → Option ℕ → Bool
clash_digit None _ = true
clash_digit (Some a) None = true
clash_digit (Some a) (Some b) = a == b

abbrev pub clash : Row → Row → Bool
clash r s =
    some_prefix (λ p. takes_prefix r.pattern.prefixes p && takes_prefix s.pattern.prefixes p) && (same_map r.pattern.map s.pattern.map && (clash_opcode r.pattern.plus r.pattern.opcode s.pattern.plus s.pattern.opcode && (clash_digit r.pattern.digit s.pattern.digit && some_form (λ f. has_form r.pattern.form f && has_form s.pattern.form f))))

both_opcodes : (p : Bool) (a : ℕ) (q : Bool) (b o : ℕ) → cond p (o / 8 == a / 8) (o == a) ≡ true → cond q (o / 8 == b / 8) (o == b) ≡ true → clash_opcode p a q b ≡ true
both_opcodes true a true b o h i = eq-eqb (a / 8) (b / 8) (sym (eqb-true (o / 8) (a / 8) h) ∙ eqb-true (o / 8) (b / 8) i)
both_opcodes true a false b o h i = eq-eqb (a / 8) (b / 8) (sym (eqb-true (o / 8) (a / 8) h) ∙ ap (λ (n : ℕ). n / 8) (eqb-true o b i))
both_opcodes false a true b o h i = eq-eqb (a / 8) (b / 8) (ap (λ (n : ℕ). n / 8) (sym (eqb-true o a h)) ∙ eqb-true (o / 8) (b / 8) i)
both_opcodes false a false b o h i = eq-eqb a b (sym (eqb-true o a h) ∙ eqb-true o b i)

both_digits : (a b : Option ℕ) (d : ℕ) → has_digit a d ≡ true → has_digit b d ≡ true → clash_digit a b ≡ true
both_digits None _ d h i = refl
both_digits (Some a) None d h i = refl
both_digits (Some a) (Some b) d h i = eq-eqb a b (sym (eqb-true d a h) ∙ eqb-true d b i)

both_maps : (a b m : Map) → same_map a m ≡ true → same_map b m ≡ true → same_map a b ≡ true
both_maps a b m h i =
    let e : a ≡ b = same_map-≡ a m h ∙ sym (same_map-≡ b m i) in
    subst (λ (x : Map). same_map a x ≡ true) e (same_map-refl a)

pub matches-clash : (r s : Row) (k : Key) → matches r k ≡ true → matches s k ≡ true → clash r s ≡ true
matches-clash r s k h i =
    let t = tests-of r k h in
    let u = tests-of s k i in
    both_true
    (some_prefix-lem (λ (p : Prefix). takes_prefix r.pattern.prefixes p && takes_prefix s.pattern.prefixes p) k.prefix (both_true t.prefix u.prefix))
    (both_true
    (both_maps r.pattern.map s.pattern.map k.map t.map u.map)
    (both_true
    (both_opcodes r.pattern.plus r.pattern.opcode s.pattern.plus s.pattern.opcode k.opcode t.opcode u.opcode)
    (both_true
    (both_digits r.pattern.digit s.pattern.digit k.digit t.digit u.digit)
    (some_form-lem (λ (f : Bool). has_form r.pattern.form f && has_form s.pattern.form f) k.register_form (both_true t.form u.form)))))
