use Rattle.std.proofs.Common.{◌≡◌, ℕ, ◌≤◌, ◌-◌, ◌==◌, List, [], length, take, drop, None, refl, sym, ◌∙◌, arith}
use Rattle.std.proofs.lemmas.List.{take_rest, drop_all}
use Rattle.vw_bits.specs.Lists.{before_first}
use Rattle.vw_bits.specs.Symbols.{string_at, short, short_string_at}
use Rattle.vw_bits.proofs.strings.short_string_at.Goals as goal

past : (strings : List ℕ) (at : ℕ) → length strings ≤ at → short_string_at strings at ≡ None
unfolding short_string_at string_at
past strings at far =
    let none : drop at strings ≡ [] = drop_all at strings far in
    rw none refl

inside : (strings : List ℕ) (at : ℕ) → short (before_first (λ b. b == 0) (take (length strings - at) (drop at strings))) ≡ short_string_at strings at
unfolding short_string_at string_at
inside strings at = rw take_rest refl

pub returns-then-at-strings : goal.returns-then-at-strings
returns-then-at-strings c = sym (past _ _ (omega arith))

pub returns : goal.returns
returns c = c.short_string.ensures ∙ inside _ _
