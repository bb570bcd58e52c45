use Rattle.std.proofs.Common.{◌≡◌, ℕ, ◌<◌, ◌≤◌, ◌==◌, Bool, true, false, nat_le, List, length, take, drop, get_or, min, Option, Some, None, if◌then◌else◌, option_and_then, length-take, refl, sym, ap, ◌∙◌, arith, suc, inl, inr}
use Rattle.std.specs.List.{list_any}
use Rattle.std.proofs.lemmas.List.{take_all}
use Rattle.std.proofs.lemmas.Bool.Decides.{nat_tests}
use Rattle.std.proofs.lemmas.Bool.{cases_lt}
use Rattle.vw_bits.specs.Lists.{before_first}
use Rattle.vw_bits.specs.Symbols.{short}
use Rattle.vw_bits.proofs.ListLemmas.{before_first-here, before_first-none, before_first-long, split_at, any_more}
use Rattle.vw_bits.proofs.strings.short_string.Goals as goal

abbrev zero_byte : ℕ → Bool
zero_byte b = b == 0

abbrev checked : List ℕ → Option (List ℕ)
checked name = if nat_le (length name) 1024 then Some name else None

ends : (rest : List ℕ) (i : ℕ) → i < length rest → list_any zero_byte (take i rest) ≡ false → get_or rest i 0 ≡ 0 → before_first zero_byte rest ≡ Some (take i rest)
ends rest i inside before here =
    let test : zero_byte (get_or rest i 0) ≡ true = grind (arith, nat_tests, here) in
    ap (before_first zero_byte) (split_at rest i 0 inside) ∙ before_first-here zero_byte (take i rest) (get_or rest i 0) (drop (suc i) rest) before test

is_short : (rest : List ℕ) (i : ℕ) → i < length rest → i < 1025 → checked (take i rest) ≡ Some (take i rest)
is_short rest i inside bound =
    let count : length (take i rest) ≡ i = omega (arith, length-take {A = ℕ}) in
    let test : nat_le (length (take i rest)) 1024 ≡ true = grind (arith, nat_tests, count) in
    rw test refl

long_name : (name : List ℕ) → 1025 ≤ length name → checked name ≡ None
long_name name long =
    let test : nat_le (length name) 1024 ≡ false = grind (arith, nat_tests, long) in
    rw test refl

too_long : (rest : List ℕ) (i : ℕ) (found : Option (List ℕ)) → before_first zero_byte rest ≡ found → list_any zero_byte (take i rest) ≡ false → i ≡ min (length rest) 1025 → option_and_then checked found ≡ None
too_long rest i None is before all = refl
too_long rest i (Some name) is before all =
    elim (cases_lt (length rest) 1025) [
      | inl short ↦
          let whole : take i rest ≡ rest = take_all i rest (omega arith) in
          let none : before_first zero_byte rest ≡ None = before_first-none zero_byte rest (rw whole at before) in
          let clash : None ≡ Some name = sym none ∙ is in
          cc
      | inr long ↦
          let count : i ≡ 1025 = omega arith in
          let within : i ≤ length rest = omega arith in
          let front = before_first-long zero_byte i rest name before within is in
          long_name name (omega (arith, front))
    ]

pub returns-then-rest-index-eq0 : goal.returns-then-rest-index-eq0
returns-then-rest-index-eq0 c =
    let rest = c.args.rest.now in
    let i = c.loop-index.index in
    let within : i < length rest = omega arith in
    let bound : i < 1025 = omega arith in
    let found : before_first zero_byte rest ≡ Some (take i rest) = ends rest i within c.loop-index.invariant c.if-rest-index-eq0.true in
    sym (ap (option_and_then checked) found ∙ is_short rest i within bound)

not_zero : (b : ℕ) → (b ≡ 0 → ⊥) → zero_byte b ≡ false
not_zero b h = grind (arith, nat_tests)

pub loop-index-preserved : goal.loop-index-preserved
loop-index-preserved c =
    let within : c.loop-index.index < length c.args.rest.now = omega arith in
    any_more zero_byte c.args.rest.now c.loop-index.index 0 within c.loop-index.invariant (not_zero _ c.if-rest-index-eq0.false)

pub returns : goal.returns
returns c =
    let all : c.loop-index.index ≡ min (length c.args.rest.now) 1025 = omega arith in
    sym (too_long c.args.rest.now c.loop-index.index (before_first zero_byte c.args.rest.now) refl c.loop-index.invariant all)
