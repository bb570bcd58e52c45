use Rattle.std.proofs.Common.{sym, ◌++◌}
use Rattle.std.specs.Prelude.{codes}
use Rattle.vw_report.specs.StateText.{class_text}
use Rattle.vw_report.proofs.Pieces.{each_item, all_pieces}
use Rattle.vw_report.proofs.print_states.push_classes.Goals as goal

pub loop-class-preserved : goal.loop-class-preserved
loop-class-preserved c =
    each_item (λ class. codes " e" ++ class_text class) c.args.text.now c.loop-class.text c.push_class.new.text c.args.classes.now c.loop-class.class-index c.class-item.result c.loop-class-test.true (sym c.class-item.is) c.loop-class.invariant (rw c.as_slice.ensures at c.in_ok-push_class.ensures)

pub returns : goal.returns
returns c = all_pieces (λ class. codes " e" ++ class_text class) c.args.text.now c.loop-class.text c.args.classes.now c.loop-class.class-index c.loop-class-test.false c.loop-class.invariant
