-- A literal in two parts.
use Rattle.std.proofs.Common.{◌≡◌, ℕ, List, [], ◌∷◌, ◌++◌, true, false, cond, None, refl}
use Rattle.std.specs.Prelude.{◌==◌}
use Rattle.vw_report.specs.Items.{after, ◌>>=◌}

pub after_append : (s t b : List ℕ) → after (s ++ t) b ≡ (after s b >>= after t)
after_append [] t b = refl
after_append (c ∷ s) t [] = refl
after_append (c ∷ s) t (d ∷ b) = elim (d == c) as (λ q. cond q (after (s ++ t) b) None ≡ (cond q (after s b) None >>= after t)) [ true ↦ after_append s t b | false ↦ refl ]
