-- What it is to be the first broken rule of a file.
use Rattle.std.specs.Prelude.{◌≡◌, ℕ, ◌+◌, Bool, List, [], ◌∷◌, ◌++◌, Option, Some, None, if◌then◌else◌}

-- A rule is known by what breaks it: `None` where it holds, and else the offset that it names, that of
-- the first item (`find`) of a table at which it does not hold.

-- a rule on the whole file, which names an offset where it does not hold
abbrev pub unless : Bool → ℕ → Option ℕ
unless holds at = if holds then None else Some at

-- the lowest rule that breaks, with its offset, of rules numbered from n on
abbrev pub lowest_broken : ℕ → List (Option ℕ) → Option (ℕ × ℕ)
lowest_broken n [] = None
lowest_broken n (None ∷ rules) = lowest_broken (n + 1) rules
lowest_broken n (Some at ∷ rules) = Some (n, at)

-- each item of a list with the items before it; `before` stands before them all
abbrev pub each_after : {X : Type 0} → List X → List X → List (List X × X)
each_after before [] = []
each_after before (x ∷ xs) = (before, x) ∷ each_after (before ++ x ∷ []) xs

-- each item of a list with the items before it, in order
abbrev pub with_earlier : {X : Type 0} → List X → List (List X × X)
with_earlier xs = each_after [] xs

-- all these rules hold
abbrev pub AllHold : List (Option ℕ) → Type 0
AllHold rules = lowest_broken 1 rules ≡ None

-- What an error says of the rules: `told` is the number of a rule and the offset that it names, and `None` where
-- the error is of something else, which says nothing.

-- the error is the first broken rule
abbrev pub NamesBroken : Option (ℕ × ℕ) → Option (ℕ × ℕ) → Type 0
NamesBroken broken None = Unit {0}
NamesBroken broken (Some fault) = broken ≡ Some fault

-- the error is of this rule, broken at its offset
abbrev pub TellsBroken : ℕ → Option ℕ → Option (ℕ × ℕ) → Type 0
TellsBroken number broken None = Unit {0}
TellsBroken number broken (Some fault) = (fault.0 ≡ number) × (broken ≡ Some fault.1)
