use Rattle.std.proofs.Common.{◌+◌, ◌≤◌, List, length, set, ap, ◌∙◌, rules, arith}
use Rattle.std.specs.Prelude.{ℤ}
use Rattle.std.specs.List.{remove}
use Rattle.std.proofs.lemmas.List.{length-set}
use Rattle.vw_locals.proofs.MergeLemmas.{one_less}
use Rattle.vw_locals.proofs.merge.replace.Goals as goal

pub loop-other-preserved : goal.loop-other-preserved
loop-other-preserved c =
    let xs : List (ℤ × ℤ) = set c.args.ranges.now.items c.args.from c.args.merged.now in
    let size = length-set c.args.ranges.now.items c.args.from c.args.merged.now in
    let whole : c.args.to ≤ length c.args.ranges.now.items = search rules in
    let within : c.args.from + 1 ≤ length xs = omega arith in
    let R : List (ℤ × ℤ) → List (ℤ × ℤ) = λ es. remove es (c.args.from + 1) in
    c.remove-merged.ensures.items ∙ ap R c.loop-other.invariant ∙ one_less xs (c.args.from + 1) c.loop-other.other within
