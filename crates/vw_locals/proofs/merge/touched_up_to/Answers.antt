use Rattle.std.proofs.Common.{arith, rules, refl, w64, to_z, of_z}
use Rattle.std.proofs.lemmas.Int.{to_z-of_z}
use mir.Val.{SFits}
use Rattle.vw_locals.proofs.MergeLemmas.{above_adjacent, above_apart}
use Rattle.vw_locals.proofs.merge.touched_up_to.Goals as goal
use Rattle.vw_locals.proofs.merge.touched_up_to.Goals.{else-at-ranges-via-then-at-ranges+else-is_adjacent, else-at-ranges-via-else-at-ranges}

pub returns-then-is_adjacent-clause-above : goal.returns-then-is_adjacent-clause-above
returns-then-is_adjacent-clause-above c =
    let x = c.args.range.now.1 in
    let fits : SFits w64 c.args.range.now.1 = search rules in
    above_adjacent c.args.ranges.now c.args.range.now c.beginning_up_to-at.result (to_z w64 (of_z w64 x)) (to_z-of_z w64 x fits) c.requires c.if-at-ranges.true (c.if-is_adjacent.ensures.0 refl)

pub returns-else-at-ranges-clause-above : goal.returns-else-at-ranges-clause-above
returns-else-at-ranges-clause-above c =
    let x = c.args.range.now.1 in
    let fits : SFits w64 c.args.range.now.1 = search rules in
    above_apart c.args.ranges.now c.args.range.now c.beginning_up_to-at.result (to_z w64 (of_z w64 x)) (to_z-of_z w64 x fits) c.requires c.beginning_up_to-at.ensures.above (λ within same. elim c.else-at-ranges.branch [
      | else-at-ranges-via-then-at-ranges+else-is_adjacent w ↦ let h = w.if-is_adjacent.ensures.1 same in absurd (cc)
      | else-at-ranges-via-else-at-ranges w ↦ absurd (omega (arith, w.if-at-ranges))
    ])
