use Rattle.vw_app.specs.Lines.{name_byte}
use Rattle.vw_app.proofs.Pieces.{each_piece, all_pieces}
use Rattle.vw_app.proofs.lines.push_name.Goals as goal

pub loop-byte-preserved : goal.loop-byte-preserved
loop-byte-preserved c =
    each_piece name_byte c.args.text.now c.loop-byte.text c.push_name_byte.new.text c.args.name.now c.loop-byte.byte-index 0 c.loop-byte-test.true c.loop-byte.invariant c.in_ok-push_name_byte.ensures

pub returns : goal.returns
returns c = all_pieces name_byte c.args.text.now c.loop-byte.text c.args.name.now c.loop-byte.byte-index c.loop-byte-test.false c.loop-byte.invariant
