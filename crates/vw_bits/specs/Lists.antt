-- Lists that end at a mark.
use Rattle.std.specs.Prelude.{Bool, List, [], ◌∷◌, Option, Some, None, option_map, if◌then◌else◌}

-- the items before the first that passes a test; `None` where none passes
abbrev pub before_first : {X : Type 0} → (X → Bool) → List X → Option (List X)
before_first test [] = None
before_first test (x ∷ xs) = if test x then Some [] else option_map (λ front. x ∷ front) (before_first test xs)
