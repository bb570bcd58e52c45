use Rattle.std.proofs.Common.{arith, rules, length-drop}
use Rattle.vw_outside.proofs.Pieces.{appended_more}
use Rattle.vw_outside.proofs.writing.write_all_of.Goals as goal

pub loop-done-preserved : goal.loop-done-preserved
loop-done-preserved g c =
    let took = c.in_ok-count.ensures.bytes in
    let so_far = c.loop-done.invariant in
    record {
      within = omega (arith, took.fits, so_far.within, length-drop c.loop-done.done c.args.piece.now);
      told = search rules;
      appended = appended_more _ _ _ _ _ _ so_far.appended took.appended;
      count = omega (arith, c.in_ok-count.ensures.count);
    }
