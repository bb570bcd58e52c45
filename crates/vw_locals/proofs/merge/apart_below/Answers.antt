use Rattle.std.proofs.Common.{arith, rules, refl, w64, to_z, of_z}
use Rattle.std.proofs.lemmas.Int.{to_z-of_z}
use mir.Val.{SFits}
use Rattle.vw_locals.proofs.MergeLemmas.{below_adjacent, below_apart}
use Rattle.vw_locals.proofs.merge.apart_below.Goals as goal
use Rattle.vw_locals.proofs.merge.apart_below.Goals.{else-at-gt0-via-then-at-gt0+else-is_adjacent, else-at-gt0-via-else-at-gt0}

pub returns-then-is_adjacent-clause-below : goal.returns-then-is_adjacent-clause-below
returns-then-is_adjacent-clause-below c =
    let x = c.args.range.now.0 in
    let fits : SFits w64 c.args.range.now.0 = search rules in
    below_adjacent c.args.ranges.now c.args.range.now c.ending_below-at.result (to_z w64 (of_z w64 x)) (to_z-of_z w64 x fits) c.requires c.if-at-gt0.true c.ending_below-at.ensures.within (c.if-is_adjacent.ensures.0 refl)

pub returns-else-at-gt0-clause-below : goal.returns-else-at-gt0-clause-below
returns-else-at-gt0-clause-below c =
    let x = c.args.range.now.0 in
    let fits : SFits w64 c.args.range.now.0 = search rules in
    below_apart c.args.ranges.now c.args.range.now c.ending_below-at.result (to_z w64 (of_z w64 x)) (to_z-of_z w64 x fits) c.requires c.ending_below-at.ensures.within c.ending_below-at.ensures.below (λ some same. elim c.else-at-gt0.branch [
      | else-at-gt0-via-then-at-gt0+else-is_adjacent w ↦ let h = w.if-is_adjacent.ensures.1 same in absurd (cc)
      | else-at-gt0-via-else-at-gt0 w ↦ absurd (omega (arith, w.if-at-gt0))
    ])
