use Rattle.vw_app.specs.Listing.{byte_text}
use Rattle.vw_app.proofs.Pieces.{each_piece, all_pieces}
use Rattle.vw_app.proofs.listing.push_bytes.Goals as goal

pub loop-byte-preserved : goal.loop-byte-preserved
loop-byte-preserved c =
    each_piece byte_text c.args.text.now c.loop-byte.text c.hex.new.self c.args.bytes.now c.loop-byte.byte-index 0 c.loop-byte-test.true c.loop-byte.invariant c.in_ok-hex.ensures.ok

pub returns : goal.returns
returns c = all_pieces byte_text c.args.text.now c.loop-byte.text c.args.bytes.now c.loop-byte.byte-index c.loop-byte-test.false c.loop-byte.invariant
