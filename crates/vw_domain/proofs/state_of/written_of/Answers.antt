use mir.Val.{SFits}
use Rattle.std.proofs.lemmas.Int.{to_z-of_z, ints}
use Rattle.std.proofs.Common.{rules, arith, w64, to_z, of_z, ◌≡◌, ◌≤◌, ◌<◌, List, length, get_or, subst, ap, ◌∙◌}
use Rattle.std.proofs.lemmas.List.{take_all}
use Rattle.std.specs.Prelude.{ℤ, pos, ◌+ℤ◌}
use Rattle.vw_domain.proofs.PartChecks.{AreSame, next_fits, range_at, added_same, same_set}
use Rattle.vw_domain.proofs.state_of.written_of.Goals as goal

pub overflow_add-range : goal.overflow_add-range
overflow_add-range c =
    let within : c.loop-range.range-index < length c.args.ranges.now = search rules in
    let last : ℤ = (get_or c.args.ranges.now c.loop-range.range-index (pos 0, pos 0)).1 in
    let fits : SFits w64 last = search rules in
    let is = range_at c.args.ranges.now c.loop-range.range-index (pos 0, pos 0) c.requires within in
    let below = is.frame in
    let filled = is.filled in
    let first = is.behind in
    rw (to_z-of_z w64 last fits) (next_fits last (omega (arith, ints)) below)

pub loop-range-preserved : goal.loop-range-preserved
loop-range-preserved c =
    let ranges : List (ℤ × ℤ) = c.args.ranges.now in
    let i = c.loop-range.range-index in
    let within : c.loop-range.range-index < length c.args.ranges.now = search rules in
    let range : ℤ × ℤ = get_or ranges i (pos 0, pos 0) in
    let is = range_at ranges i (pos 0, pos 0) c.requires within in
    let below = is.frame in
    let filled = is.filled in
    let first = is.behind in
    let fits_first : SFits w64 range.0 = search rules in
    let fits_last : SFits w64 range.1 = search rules in
    let read_first : to_z w64 (of_z w64 range.0) ≡ range.0 = to_z-of_z w64 range.0 fits_first in
    let read_last : to_z w64 (of_z w64 range.1) ≡ range.1 = to_z-of_z w64 range.1 fits_last in
    let fits_next : SFits w64 (range.1 +ℤ pos 1) = next_fits range.1 (omega (arith, ints)) below in
    let read_next : to_z w64 (of_z w64 (range.1 +ℤ pos 1)) ≡ range.1 +ℤ pos 1 = to_z-of_z w64 (range.1 +ℤ pos 1) fits_next in
    let next : ℤ → ℤ = λ z. to_z w64 (of_z w64 (z +ℤ pos 1)) in
    record {
      ranges = c.in_ok-add.ensures.ranges;
      same = added_same ranges c.loop-range.written c.add.new.self i (pos 0, pos 0) _ _ within read_first (ap next read_last ∙ read_next) c.in_ok-add.ensures.ok c.loop-range.invariant.same;
    }

pub returns : goal.returns
returns c =
    let ranges : List (ℤ × ℤ) = c.args.ranges.now in
    let end : length c.args.ranges.now ≤ c.loop-range.range-index = search rules in
    same_set c.loop-range.written ranges c.loop-range.invariant.ranges c.requires.ranges
    (subst (λ (xs : List (ℤ × ℤ)). AreSame c.loop-range.written xs) (take_all c.loop-range.range-index ranges end) c.loop-range.invariant.same)
