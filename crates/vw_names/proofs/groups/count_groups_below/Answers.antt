use Rattle.std.proofs.Common.{◌≡◌, ℕ, ◌+◌, ◌-◌, ◌/◌, ◌<◌, ◌≤◌, length, get_or, ap, sym, subst, ◌∙◌, arith}
use Rattle.vw_names.specs.Groups.{first_place}
use Rattle.vw_names.proofs.Lookups.{below_up_to, above_from}
use Rattle.vw_names.proofs.groups.count_groups_below.Goals as goal

pub loop-low-preserved-then-first_of-place : goal.loop-low-preserved-then-first_of-place
loop-low-preserved-then-first_of-place c =
    let middle : ℕ = c.loop-low.low + (c.loop-low.high - c.loop-low.low) / 2 in
    let group = c.index-groups-middle.result in
    let is : first_place group ≡ first_place (get_or c.args.groups.now middle group) = ap first_place c.index-groups-middle.is in
    let read = c.first_of.ensures in
    record {
      ordered = omega arith;
      within = c.loop-low.invariant.within;
      below = below_up_to first_place c.args.groups.now middle group c.args.place c.requires (omega arith) (omega (arith, c.if-first_of-place.true));
      above = c.loop-low.invariant.above;
    }

pub loop-low-preserved : goal.loop-low-preserved
loop-low-preserved c =
    let middle : ℕ = c.loop-low.low + (c.loop-low.high - c.loop-low.low) / 2 in
    let group = c.index-groups-middle.result in
    let is : first_place group ≡ first_place (get_or c.args.groups.now middle group) = ap first_place c.index-groups-middle.is in
    let read = c.first_of.ensures in
    record {
      ordered = omega arith;
      within = omega arith;
      below = c.loop-low.invariant.below;
      above = above_from first_place c.args.groups.now middle group c.args.place c.requires (omega arith) (omega (arith, c.if-first_of-place.false));
    }
