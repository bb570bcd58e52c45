use Rattle.std.proofs.Common.{◌≡◌, ◌+◌, ◌-◌, ◌∷◌, ◌++◌, [], length, ap, ◌∙◌, arith}
use Rattle.vw_report.specs.Items.{read_many}
use Rattle.vw_report.specs.Grammar.{equals, place}
use Rattle.vw_report.proofs.ItemLoops.{with_front, many_on}
use Rattle.vw_report.proofs.read_fields.further_at.Goals as goal

pub loop-i-preserved : goal.loop-i-preserved
loop-i-preserved c =
    let p : c.push-in-Some-place_at.new.self ≡ c.loop-i.items ++ (c.in-Some-place_at.item ∷ []) = c.in_ok-push-in-Some-place_at.ensures.ok in
    ap (λ xs. with_front xs (read_many (length c.args.bytes.now - (c.loop-i.i + 1)) (equals) place c.in-Some-place_at.tail.now)) p
    ∙ many_on (equals) place (length c.args.bytes.now) c.loop-i.i c.loop-i.items c.loop-i.rest.now c.in-Some.tail.now c.in-Some-place_at.item c.in-Some-place_at.tail.now (omega arith) c.in-Some.ensures c.in-Some-place_at.ensures
    ∙ c.loop-i.invariant
