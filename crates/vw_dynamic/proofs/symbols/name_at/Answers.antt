use Rattle.std.proofs.Common.{◌≡◌, ℕ, ◌&&◌, ◌==◌, Bool, true, false, cond, nat_le, List, length, Option, Some, None, option_copied, refl, sym, ap, ◌∙◌, arith}
use Rattle.std.proofs.lemmas.Bool.Decides.{nat_tests}
use Rattle.vw_bits.specs.Symbols.{short, short_string_at, string_at}
use Rattle.vw_dynamic.specs.Targets.{named, name_at}
use Rattle.vw_dynamic.proofs.symbols.name_at.Goals as goal

none_step : (some small : Bool) (s : List ℕ) → cond small (Some s) None ≡ None → cond (some && small) (Some s) None ≡ None
none_step some true s is = cc
none_step true false s is = refl
none_step false false s is = refl

none_short : (string : Option (List ℕ)) → short string ≡ None → named string ≡ None
none_short None is = refl
none_short (Some s) is = none_step (nat_le 1 (length s)) (nat_le (length s) 1024) s is

some_step : (some small : Bool) (s : List ℕ) → small ≡ true → cond (some && small) (Some s) None ≡ cond some (Some s) None
some_step true small s is = rw is refl
some_step false small s is = refl

fits : (small : Bool) (s name : List ℕ) → cond small (Some s) None ≡ Some name → (small ≡ true) × (s ≡ name)
fits true s name is = (refl, cc)
fits false s name is = cc

some_short : (string : Option (List ℕ)) (name : List ℕ) → short string ≡ Some name → named string ≡ cond (nat_le 1 (length name)) (Some name) None
some_short None name is = cc
some_short (Some s) name is =
    let both = fits (nat_le (length s) 1024) s name is in
    rw (← both.1) (some_step (nat_le 1 (length s)) (nat_le (length s) 1024) s both.0)

absent : (strings : List ℕ) (at : ℕ) → short_string_at strings at ≡ None → name_at strings at ≡ None
unfolding short_string_at name_at
absent strings at is = none_short (string_at strings at) is

there : (strings : List ℕ) (at : ℕ) (name : List ℕ) → short_string_at strings at ≡ Some name → name_at strings at ≡ cond (nat_le 1 (length name)) (Some name) None
unfolding short_string_at name_at
there strings at name is = some_short (string_at strings at) name is

empty : (name : List ℕ) → true ≡ (length name == 0) → nat_le 1 (length name) ≡ false
empty name is = grind (arith, nat_tests, is)

filled : (name : List ℕ) → false ≡ (length name == 0) → nat_le 1 (length name) ≡ true
filled name is = grind (arith, nat_tests, is)

pub returns-in_err-name : goal.returns-in_err-name
returns-in_err-name c = ap option_copied c.from_residual.ensures ∙ sym (absent _ _ (sym c.in_err-name.ensures))

pub returns-then-is_empty : goal.returns-then-is_empty
returns-then-is_empty c =
    let test = empty c.in_ok-name.name.now c.if-is_empty.ensures in
    rw (there _ _ _ (sym c.in_ok-name.ensures), test) refl

pub returns-else-is_empty : goal.returns-else-is_empty
returns-else-is_empty c =
    let test = filled c.in_ok-name.name.now c.if-is_empty.ensures in
    rw (there _ _ _ (sym c.in_ok-name.ensures), test) refl
