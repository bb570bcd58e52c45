use Rattle.std.proofs.Common.{length, arith, rules, w64, to_z, of_z}
use Rattle.std.proofs.lemmas.Bool.{ltb-true, lt-ltb}
use Rattle.std.proofs.lemmas.Int.{to_z-of_z}
use mir.Val.{SFits}
use Rattle.vw_locals.proofs.SearchLemmas.{contained_yes, contained_read}
use Rattle.vw_locals.proofs.search.contains.Goals as goal

pub returns-then-at-ranges : goal.returns-then-at-ranges
returns-then-at-ranges c =
    let x = c.args.range.now.0 in
    let fits : SFits w64 c.args.range.now.0 = search rules in (
      λ yes. let both = c.is_within.ensures.0 yes in contained_yes c.args.ranges.now c.ending_below-at.result c.args.range.now c.if-at-ranges.true both.0 both.1,
      λ all. let is = contained_read c.args.ranges.now c.ending_below-at.result c.args.range.now (to_z w64 (of_z w64 x)) (to_z-of_z w64 x fits) c.requires.ranges c.requires.filled c.ending_below-at.ensures.below c.ending_below-at.ensures.above all in c.is_within.ensures.1 (is.1, is.2),
    )

pub returns-else-at-ranges : goal.returns-else-at-ranges
returns-else-at-ranges c =
    let x = c.args.range.now.0 in
    let fits : SFits w64 c.args.range.now.0 = search rules in (
      λ yes. let less = ltb-true c.ending_below-at.result (length c.args.ranges.now) yes in absurd (omega (arith, c.if-at-ranges.false)),
      λ all. let is = contained_read c.args.ranges.now c.ending_below-at.result c.args.range.now (to_z w64 (of_z w64 x)) (to_z-of_z w64 x fits) c.requires.ranges c.requires.filled c.ending_below-at.ensures.below c.ending_below-at.ensures.above all in lt-ltb c.ending_below-at.result (length c.args.ranges.now) is.0,
    )
