use Rattle.std.proofs.Common.{◌-◌, ◌<◌, ◌≤◌, length}
use Rattle.std.specs.List.{AllWithin}
use Rattle.vw_names.specs.Groups.{first_place}
use Rattle.vw_names.proofs.groups.count_groups_below.Given as goal

abbrev pub invariant-loop-low : goal.invariant-loop-low
invariant-loop-low l = record {
  ordered : l.low ≤ l.high;
  within : l.high ≤ length l.groups;
  below : AllWithin (λ group. first_place group < l.place) l.groups 0 l.low;
  above : AllWithin (λ group. l.place ≤ first_place group) l.groups l.high (length l.groups);
}

abbrev pub decreases-loop-low : goal.decreases-loop-low
decreases-loop-low l = l.high - l.low
