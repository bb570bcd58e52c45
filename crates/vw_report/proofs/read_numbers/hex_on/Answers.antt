use Rattle.std.proofs.Common.{◌∙◌, sym, arith}
use Rattle.vw_report.proofs.HexLoop.{hex_one, hex_room, hex_more}
use Rattle.vw_report.proofs.read_numbers.hex_on.Goals as goal

pub hex_digit_on-requires : goal.hex_digit_on-requires
hex_digit_on-requires c = hex_room c.loop-i.i c.loop-i.n (omega arith) c.loop-i.invariant.1

pub loop-i-preserved : goal.loop-i-preserved
loop-i-preserved c = (
  sym (hex_one c.args.count c.loop-i.i c.loop-i.n c.in_ok-more.more c.loop-i.rest.now c.in_ok-more.tail.now (omega arith) c.in_ok-more.ensures.gives) ∙ c.loop-i.invariant.0,
  hex_more c.loop-i.i c.loop-i.n c.in_ok-more.more c.loop-i.invariant.1 c.in_ok-more.ensures.small,
)
