use Rattle.std.proofs.Common.{◌≡◌, ◌<◌, [], length, get_or, ap, sym, ◌∙◌, arith, rules}
use Rattle.std.proofs.lemmas.List.{get_or_default}
use Rattle.vw_names.specs.Groups.{first_place}
use Rattle.vw_names.proofs.GroupLemmas.{puts_grown, puts_begun}
use Rattle.vw_names.proofs.groups.put_place.Goals as goal
use Rattle.vw_names.proofs.groups.put_place.Goals.{else-at-len-via-then-at-len+else-first_of-least, else-at-len-via-else-at-len}

pub returns-in_ok-grow : goal.returns-in_ok-grow
returns-in_ok-grow c =
    let within : c.count_groups_below-at.result < length c.args.groups.now.items = search rules in
    puts_grown c.args.place c.args.least c.count_groups_below-at.result c.args.groups.now.items c.grow.new.groups.items c.index.result.now c.spot_of-spot.result within c.index.ensures (sym c.first_of.ensures ∙ c.if-first_of-least.true) c.spot_of-spot.ensures c.in_ok-grow.ensures

pub returns-in_ok-insert : goal.returns-in_ok-insert
returns-in_ok-insert c =
    let items = c.args.groups.now.items in
    let at = c.count_groups_below-at.result in
    puts_begun c.args.place c.args.least at items c.deref.result.now c.insert.new.self.items c.in_ok-group.group c.spot_of.result c.spot_of-spot.result c.deref.ensures.value c.requires.ordered c.count_groups_below-at.ensures.within c.count_groups_below-at.ensures.below c.count_groups_below-at.ensures.above
    (λ within same. elim c.else-at-len.branch [
      | else-at-len-via-then-at-len+else-first_of-least w ↦ w.if-first_of-least.false (w.first_of.ensures ∙ ap first_place (w.index.ensures ∙ get_or_default items at w.index.result.now [] within) ∙ same)
      | else-at-len-via-else-at-len w ↦ absurd (omega (arith, w.if-at-len, c.len.ensures))
    ])
    c.spot_of.ensures c.spot_of-spot.ensures c.in_ok-group.ensures c.in_ok-insert.ensures.items
