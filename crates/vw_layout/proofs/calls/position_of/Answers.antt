use Rattle.std.proofs.Common.{◌+◌, ◌-◌, ◌/◌, ◌<◌, length, sym, arith}
use Rattle.vw_layout.proofs.SearchLemmas.{position_found, position_missed, lower_half, upper_half}
use Rattle.vw_layout.proofs.calls.position_of.Goals as goal

pub returns-then-entry-address : goal.returns-then-entry-address
returns-then-entry-address c =
    let middle = c.loop-low.low + (c.loop-low.high - c.loop-low.low) / 2 in
    let inside : middle < length c.args.functions.now = omega (arith, c.loop-low-test.true, c.loop-low.invariant.ends) in
    sym (position_found c.args.functions.now middle c.args.address _ c.requires inside c.if-entry-address.true)

pub loop-low-preserved-then-entry-address-2 : goal.loop-low-preserved-then-entry-address-2
loop-low-preserved-then-entry-address-2 c =
    let middle = c.loop-low.low + (c.loop-low.high - c.loop-low.low) / 2 in
    let inside : middle < length c.args.functions.now = omega (arith, c.loop-low-test.true, c.loop-low.invariant.ends) in
    record {
      ends = c.loop-low.invariant.ends;
      below = lower_half c.args.functions.now middle c.args.address _ c.requires inside c.if-entry-address-2.true;
      above = c.loop-low.invariant.above;
    }

pub loop-low-preserved : goal.loop-low-preserved
loop-low-preserved c =
    let middle = c.loop-low.low + (c.loop-low.high - c.loop-low.low) / 2 in
    let inside : middle < length c.args.functions.now = omega (arith, c.loop-low-test.true, c.loop-low.invariant.ends) in
    record {
      ends = omega (arith, inside);
      below = c.loop-low.invariant.below;
      above = upper_half c.args.functions.now middle c.args.address c.index-functions-middle.result c.requires inside (omega (arith, c.if-entry-address.false, c.if-entry-address-2.false));
    }

pub returns : goal.returns
returns c = sym (position_missed c.args.functions.now c.loop-low.low c.loop-low.high c.args.address c.loop-low-test.false c.loop-low.invariant.below c.loop-low.invariant.above)
