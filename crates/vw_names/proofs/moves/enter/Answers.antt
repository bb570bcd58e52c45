use Rattle.std.proofs.Common.{◌≡◌, ◌<◌, ◌≤◌, ℕ, length, List, get_or, arith, rules, sym, ap, subst, ◌∙◌}
use Rattle.vw_names.specs.Division.{IsAscending}
use Rattle.vw_names.proofs.MoveLemmas.{entered_low_as, entered_high_as, ascending_relabeled, IsPlace}
use Rattle.vw_names.proofs.NameLemmas.{names_entered}
use Rattle.vw_names.proofs.moves.enter.Goals as goal

pub count_below-at-requires-else-least-place : goal.count_below-at-requires-else-least-place
count_below-at-requires-else-least-place c =
    let A : List (ℕ × ℕ) → Type 0 = λ es. IsAscending es in
    subst A (sym (c.deref-else-least-place.ensures.value ∙ c.relabel.ensures.items)) (ascending_relabeled c.args.least c.args.place c.args.entries.now.items c.requires.division.ascending)

pub returns-in_ok-insert : goal.returns-in_ok-insert
returns-in_ok-insert c =
    let at : IsPlace c.deref.result.now c.args.place c.count_below-at.result = record {
      within = c.count_below-at.ensures.within;
      below = c.count_below-at.ensures.below;
      above = c.count_below-at.ensures.above;
    } in
    let entered = entered_low_as c.args.entries.now.items c.deref.result.now c.insert.new.self.items c.args.place c.args.least c.count_below-at.result c.deref.ensures.value c.requires.division c.requires.alone c.requires.least c.if-least-place.true at c.in_ok-insert.ensures.items in
    record {
      division = entered.division;
      others = entered.others;
      joined = entered.joined;
      names = names_entered c.args.entries.now.items c.insert.new.self.items c.args.place c.args.least c.requires.apart entered.others entered.joined;
      err = tt;
    }

pub returns-in_ok-insert-2 : goal.returns-in_ok-insert-2
returns-in_ok-insert-2 c =
    let at : IsPlace c.deref-else-least-place.result.now c.args.least c.count_below-at-else-least-place.result = record {
      within = c.count_below-at-else-least-place.ensures.within;
      below = c.count_below-at-else-least-place.ensures.below;
      above = c.count_below-at-else-least-place.ensures.above;
    } in
    let apart = c.requires.apart in
    let less : c.args.place < c.args.least = omega (arith, c.if-least-place.false) in
    let entered = entered_high_as c.args.entries.now.items c.relabel.new.entries.items c.deref-else-least-place.result.now c.insert-else-least-place.new.self.items c.args.place c.args.least c.count_below-at-else-least-place.result c.relabel.ensures.items c.deref-else-least-place.ensures.value c.requires.division c.requires.alone c.requires.least less at c.in_ok-insert-2.ensures.items in
    record {
      division = entered.division;
      others = entered.others;
      joined = entered.joined;
      names = names_entered c.args.entries.now.items c.insert-else-least-place.new.self.items c.args.place c.args.least c.requires.apart entered.others entered.joined;
      err = tt;
    }
