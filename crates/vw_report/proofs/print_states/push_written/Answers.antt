use Rattle.std.proofs.Common.{◌++◌}
use Rattle.std.specs.Prelude.{codes}
use Rattle.std.specs.Prelude.{pos}
use Rattle.vw_report.specs.StateText.{range_text}
use Rattle.vw_report.proofs.Pieces.{each_piece, all_pieces}
use Rattle.vw_report.proofs.print_states.push_written.Goals as goal

pub loop-range-preserved : goal.loop-range-preserved
loop-range-preserved c =
    each_piece (λ range. codes " w" ++ range_text range) c.args.text.now c.loop-range.text c.push_range.new.text c.args.ranges.now c.loop-range.range-index (pos 0, pos 0) c.loop-range-test.true c.loop-range.invariant c.in_ok-push_range.ensures

pub returns : goal.returns
returns c = all_pieces (λ range. codes " w" ++ range_text range) c.args.text.now c.loop-range.text c.args.ranges.now c.loop-range.range-index c.loop-range-test.false c.loop-range.invariant
