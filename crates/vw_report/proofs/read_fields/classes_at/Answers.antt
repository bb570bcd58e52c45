use Rattle.std.proofs.Common.{◌≡◌, ◌+◌, ◌-◌, ◌∷◌, ◌++◌, [], length, ap, ◌∙◌, arith}
use Rattle.vw_report.specs.Items.{read_many}
use Rattle.vw_report.specs.Grammar.{class}
use Rattle.vw_report.proofs.ItemLoops.{with_front, many_on}
use Rattle.vw_report.proofs.read_fields.classes_at.Goals as goal

pub loop-i-preserved : goal.loop-i-preserved
loop-i-preserved c =
    let p : c.push.new.self ≡ c.loop-i.items ++ (c.in_ok-item-in-Some.item ∷ []) = c.in_ok-push-in-Some.ensures.ok in
    ap (λ xs. with_front xs (read_many (length c.args.bytes.now - (c.loop-i.i + 1)) (32 ∷ 101 ∷ []) class c.in_ok-item-in-Some.tail.now)) p
    ∙ many_on (32 ∷ 101 ∷ []) class (length c.args.bytes.now) c.loop-i.i c.loop-i.items c.loop-i.rest.now c.in-Some.tail.now c.in_ok-item-in-Some.item c.in_ok-item-in-Some.tail.now (omega arith) c.in-Some.ensures c.in_ok-item-in-Some.ensures
    ∙ c.loop-i.invariant
