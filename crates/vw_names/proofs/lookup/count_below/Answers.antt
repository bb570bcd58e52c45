use Rattle.std.proofs.Common.{ℕ, ◌+◌, ◌-◌, ◌/◌, ◌<◌, length, get_or, arith}
use Rattle.vw_names.proofs.Lookups.{below_up_to, above_from}
use Rattle.vw_names.proofs.lookup.count_below.Goals as goal

pub loop-low-preserved-then-entries-middle : goal.loop-low-preserved-then-entries-middle
loop-low-preserved-then-entries-middle c =
    let middle : ℕ = c.loop-low.low + (c.loop-low.high - c.loop-low.low) / 2 in
    record {
      ordered = omega arith;
      within = c.loop-low.invariant.within;
      below = below_up_to (λ (e : ℕ × ℕ). e.0) c.args.entries.now middle (0, 0) c.args.place c.requires (omega arith) (omega arith);
      above = c.loop-low.invariant.above;
    }

pub loop-low-preserved : goal.loop-low-preserved
loop-low-preserved c =
    let middle : ℕ = c.loop-low.low + (c.loop-low.high - c.loop-low.low) / 2 in
    record {
      ordered = omega arith;
      within = omega arith;
      below = c.loop-low.invariant.below;
      above = above_from (λ (e : ℕ × ℕ). e.0) c.args.entries.now middle (0, 0) c.args.place c.requires (omega arith) (omega arith);
    }
