use Rattle.std.proofs.Common.{arith, ◌^◌, w64, to_z, of_z}
use Rattle.std.proofs.lemmas.Int.{ints}
use Rattle.std.specs.Prelude.{ℤ, pos, ◌-ℤ◌, ◌≤ℤ◌}
use Rattle.vw_domain.proofs.LeaveLemmas.{between_lost, lose_range}
use Rattle.vw_domain.proofs.stores.lose_between.Goals as goal

pub returns : goal.returns
returns c =
    let lo : ℤ = to_z w64 (of_z w64 c.args.low) in
    let hi : ℤ = to_z w64 (of_z w64 c.args.high) in
    let low : (pos 0 -ℤ pos (2 ^ 63)) ≤ℤ lo = omega (arith, ints) in
    let high : (pos 0 -ℤ pos (2 ^ 63)) ≤ℤ hi = omega (arith, ints) in
    lose_range lo hi c.args.low c.args.high _ _ (omega (arith, ints)) (omega (arith, ints))
    (between_lost lo hi low high c.args.parts.now c.cut_range.new.self c.leave_slots.new.self c.cut_range.ensures.ascending c.cut_range.ensures.inside c.cut_range.ensures.outside c.leave_slots.ensures.leaves c.leave_slots.ensures.division)
