use Rattle.std.proofs.Common.{rules, ◌≤◌, ◌<◌, length, refl}
use Rattle.std.specs.Prelude.{pos}
use Rattle.vw_domain.proofs.PartChecks.{ranges_next, ranges_end}
use Rattle.vw_domain.proofs.part_checks.are_ranges.Goals as goal

pub returns-then-not-is_next_range : goal.returns-then-not-is_next_range
returns-then-not-is_next_range c =
    let within : c.loop-range.range-index < length c.args.ranges.now = search rules in
    (λ never. absurd (cc), λ are. c.if-not-is_next_range.ensures.1 (ranges_next _ c.args.ranges.now c.loop-range.range-index (pos 0, pos 0) within c.loop-range.invariant.from are))

pub returns : goal.returns
returns c =
    let end : length c.args.ranges.now ≤ c.loop-range.range-index = search rules in
    (λ _. ranges_end _ c.args.ranges.now c.loop-range.range-index end c.loop-range.invariant.to, λ _. refl)
