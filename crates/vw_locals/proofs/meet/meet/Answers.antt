use Rattle.std.proofs.Common.{arith, refl, false, true, ◌≡◌}
use Rattle.std.specs.Prelude.{ℤ, pos, ◌<ℤ◌, ◌≤ℤ◌}
use Rattle.std.proofs.lemmas.Int.{by_lt_z}
use Rattle.vw_locals.proofs.MeetLemmas.{go_left, go_right}
use Rattle.vw_locals.proofs.meet.meet.Goals as goal

pub loop-i-preserved-then-ends_first : goal.loop-i-preserved-then-ends_first
loop-i-preserved-then-ends_first c =
    record {
      within_left = omega arith;
      within_right = c.loop-i.invariant.within_right;
      meeting = go_left c.args.left.now c.args.right.now c.loop-i.common.items c.put_part.new.common.items c.loop-i.i c.loop-i.j (pos 0, pos 0) c.loop-i-test.true c.if-j-right.true c.loop-i.invariant.meeting c.in_ok-put_part.ensures (c.if-ends_first.ensures.0 refl);
    }

not_first : {a b : ℤ} → (a <ℤ b → false ≡ true) → b ≤ℤ a
not_first {a} {b} never = by_lt_z a b (λ less. let is = never less in absurd (cc)) (λ not_less. not_less)

pub loop-i-preserved : goal.loop-i-preserved
loop-i-preserved c =
    record {
      within_left = c.loop-i.invariant.within_left;
      within_right = omega arith;
      meeting = go_right c.args.left.now c.args.right.now c.loop-i.common.items c.put_part.new.common.items c.loop-i.i c.loop-i.j (pos 0, pos 0) c.loop-i-test.true c.if-j-right.true c.loop-i.invariant.meeting c.in_ok-put_part.ensures (not_first c.if-ends_first.ensures.1);
    }
