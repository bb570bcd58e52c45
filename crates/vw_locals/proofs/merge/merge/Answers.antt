use Rattle.std.proofs.Common.{◌≤◌, arith}
use Rattle.vw_locals.proofs.MergeLemmas.{places_as, merge_alone, merge_hull}
use Rattle.vw_locals.proofs.merge.merge.Goals as goal

pub returns-then-from-to : goal.returns-then-from-to
returns-then-from-to c =
    let from = c.apart_below-from.ensures in
    let to = c.touched_up_to-to.ensures in
    let xs = c.args.ranges.now.items in
    let places = places_as c.args.range.now xs c.deref.result.now c.deref-2.result.now c.apart_below-from.result c.touched_up_to-to.result c.deref.ensures.value c.deref-2.ensures.value from.within from.below from.above to.within to.below to.above in
    let merged = merge_hull c.args.range.now c.hull-first.result c.hull-merged.result c.index.result.now c.index-then-from-to.result.now xs c.replace.new.ranges.items c.apart_below-from.result c.touched_up_to-to.result c.requires.ranges c.requires.filled places c.if-from-to.true c.index.ensures c.index-then-from-to.ensures c.hull-first.ensures c.hull-merged.ensures c.replace.ensures in
    record { ranges = merged.ranges; adds = merged.adds; err = tt }

pub returns-in_ok-insert : goal.returns-in_ok-insert
returns-in_ok-insert c =
    let from = c.apart_below-from.ensures in
    let to = c.touched_up_to-to.ensures in
    let xs = c.args.ranges.now.items in
    let places = places_as c.args.range.now xs c.deref.result.now c.deref-2.result.now c.apart_below-from.result c.touched_up_to-to.result c.deref.ensures.value c.deref-2.ensures.value from.within from.below from.above to.within to.below to.above in
    let not_less : c.touched_up_to-to.result ≤ c.apart_below-from.result = omega (arith, c.if-from-to.false) in
    let merged = merge_alone c.args.range.now xs c.deref.result.now c.deref-2.result.now c.insert.new.self.items c.apart_below-from.result c.touched_up_to-to.result c.requires.ranges c.requires.filled places not_less c.in_ok-insert.ensures.items in
    record { ranges = merged.ranges; adds = merged.adds; err = tt }
