-- An error names the lowest broken rule: rule by rule, and group by group. `told` is the fault that it tells.
use Rattle.std.proofs.Common.{◌≡◌, ℕ, ◌+◌, List, ◌∷◌, ◌++◌, length, Option, Some, None, refl}
use Rattle.vw_bits.specs.Rules.{lowest_broken, AllHold, NamesBroken, TellsBroken}
use Rattle.vw_bits.proofs.RuleLemmas.{lowest-append, lowest-front, lowest-shift}

pub names_here : (n : ℕ) (found rule : Option ℕ) (rules : List (Option ℕ)) (told : Option (ℕ × ℕ)) → found ≡ rule → TellsBroken n found told → NamesBroken (lowest_broken n (rule ∷ rules)) told
names_here n found rule rules (Some fault) is tells = rw (← tells.0, ← is, tells.1) refl
names_here n found rule rules None is tells = tt

pub names_next : (n : ℕ) (found rule : Option ℕ) (rules : List (Option ℕ)) (told : Option (ℕ × ℕ)) → found ≡ rule → found ≡ None → NamesBroken (lowest_broken (n + 1) rules) told → NamesBroken (lowest_broken n (rule ∷ rules)) told
names_next n found rule rules told is holds rest = rw (← is, holds) rest

pub holds_next : (n : ℕ) (found rule : Option ℕ) (rules : List (Option ℕ)) → found ≡ rule → found ≡ None → lowest_broken (n + 1) rules ≡ None → lowest_broken n (rule ∷ rules) ≡ None
holds_next n found rule rules is holds rest = rw (← is, holds) rest

-- the first rules are broken
pub names_front : (n : ℕ) (front rules : List (Option ℕ)) (told : Option (ℕ × ℕ)) → NamesBroken (lowest_broken n front) told → NamesBroken (lowest_broken n (front ++ rules)) told
names_front n front rules (Some fault) names = lowest-front n front rules fault names
names_front n front rules None names = tt

-- the first rules hold
pub names_behind : (n m : ℕ) (front rules : List (Option ℕ)) (told : Option (ℕ × ℕ)) → AllHold front → n + length front ≡ m → NamesBroken (lowest_broken m rules) told → NamesBroken (lowest_broken n (front ++ rules)) told
names_behind n m front rules told holds count names = rw (lowest-append n front rules (lowest-shift 1 n front holds), count) names

pub holds_append : (n m : ℕ) (front rules : List (Option ℕ)) → AllHold front → n + length front ≡ m → lowest_broken m rules ≡ None → lowest_broken n (front ++ rules) ≡ None
holds_append n m front rules holds count rest = rw (lowest-append n front rules (lowest-shift 1 n front holds), count) rest
