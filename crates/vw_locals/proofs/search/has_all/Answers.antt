use Rattle.std.proofs.Common.{◌<◌, ◌≤◌, length, arith, rules, refl}
use Rattle.vw_locals.proofs.SearchLemmas.{below_by_ranges, below_at}
use Rattle.vw_locals.proofs.search.has_all.Goals as goal

pub returns-then-not-contains : goal.returns-then-not-contains
returns-then-not-contains c =
    let within : c.loop-range.range-index < length c.args.high.now = search rules in (
      λ yes. absurd (search rules),
      λ below. let h = c.if-not-contains.ensures.1 (below_at c.args.low.now c.args.high.now c.loop-range.range-index within below) in h,
    )

pub returns : goal.returns
returns c =
    let all : length c.args.high.now ≤ c.loop-range.range-index = search rules in (
      λ yes. below_by_ranges c.args.low.now c.args.high.now (λ k within. c.loop-range.invariant k (omega arith)),
      λ below. refl,
    )
