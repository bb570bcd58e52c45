use Rattle.std.proofs.Common.{arith, rules, w64}
use Rattle.std.proofs.lemmas.Int.{ints}
use mir.Val.{SFits}
use Rattle.vw_locals.proofs.merge.is_adjacent.Goals as goal

pub overflow_add-result : goal.overflow_add-result
overflow_add-result c =
    let f : SFits w64 c.args.a.now.1 = search rules in
    let g : SFits w64 c.args.b.now.0 = search rules in
    let less = c.requires in
    grind (arith, ints)
