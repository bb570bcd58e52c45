-- Ranks are at most eight more than there are bounds.
use Rattle.std.proofs.Common.{ℕ, ◌+◌, ◌^◌, ◌≤◌, Option, Some, None, ◌∷◌, arith}
use Rattle.vw_values.specs.declared.shape.Family.{Family}
use Rattle.vw_values.specs.declared.shape.Family.TheVariants as fam
use Rattle.vw_values.specs.Shapes.{shape_of}
use Rattle.vw_values.specs.Rank.{mark_rank, family_rank}
use Rattle.vw_values.specs.RankFalls.{inner, above-most}
use Rattle.vw_values.specs.Laws.{RanksAreSmall}

mark-small : (m : Option (ℕ × ℕ)) → mark_rank m ≤ 1
mark-small None = omega arith
mark-small (Some m) = omega arith

family-small : (f : Family) (n : ℕ) → family_rank f n ≤ 1 + n
family-small fam.Any n = omega arith
family-small _ n = omega arith

pub small : RanksAreSmall
small b v =
    let counts = above-most (shape_of v).low (1 ∷ 2 ^ 32 ∷ b) in
    let marks = mark-small (shape_of v).mark in
    let most = family-small (shape_of v).family (inner b (shape_of v)) in
    omega (arith, counts, marks, most)
