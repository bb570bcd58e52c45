use Rattle.std.proofs.Common.{◌≡◌, ◌+◌, ◌-◌, ◌∷◌, ◌++◌, [], length, ap, ◌∙◌, arith}
use Rattle.vw_report.specs.Items.{read_many}
use Rattle.vw_report.specs.Grammar.{slot}
use Rattle.vw_report.proofs.ItemLoops.{with_front, many_on}
use Rattle.vw_report.proofs.read_fields.slots_at.Goals as goal

pub loop-i-preserved : goal.loop-i-preserved
loop-i-preserved c =
    let p : c.push.new.self ≡ c.loop-i.items ++ (c.in-Some-slot_at.item ∷ []) = c.in_ok-push-in-Some-slot_at.ensures.ok in
    ap (λ xs. with_front xs (read_many (length c.args.bytes.now - (c.loop-i.i + 1)) (32 ∷ 115 ∷ []) slot c.in-Some-slot_at.tail.now)) p
    ∙ many_on (32 ∷ 115 ∷ []) slot (length c.args.bytes.now) c.loop-i.i c.loop-i.items c.loop-i.rest.now c.in-Some.tail.now c.in-Some-slot_at.item c.in-Some-slot_at.tail.now (omega arith) c.in-Some.ensures c.in-Some-slot_at.ensures
    ∙ c.loop-i.invariant
