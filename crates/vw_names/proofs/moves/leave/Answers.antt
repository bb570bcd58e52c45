use Rattle.std.proofs.Common.{rules, inl, inr}
use Rattle.vw_names.proofs.MoveLemmas.{left_key_as, left_root_as, left_none_as}
use Rattle.vw_names.proofs.NameLemmas.{names_left}
use Rattle.vw_names.proofs.moves.leave.Goals as goal

pub returns-in-Some : goal.returns-in-Some
returns-in-Some c =
    let left = left_key_as c.args.entries.now.items c.deref.result.now c.remove-own.new.self.items c.in-Some.at c.args.place c.deref.ensures.value c.requires c.in-Some.ensures c.remove-own.ensures.items in
    record {
      division = left.division;
      alone = left.alone;
      others = left.others;
      names = names_left c.args.entries.now.items c.remove-own.new.self.items c.args.place left.alone left.others;
      room = search rules;
      fewer = search rules;
      shrinks = inr (search rules);
    }

pub returns-in-Some-first_under : goal.returns-in-Some-first_under
returns-in-Some-first_under c =
    let left = left_root_as c.args.entries.now.items c.deref-in-None.result.now c.remove-least.new.self.items c.relabel.new.entries.items c.remove-least.result c.in-Some-first_under.first c.args.place c.deref-in-None.ensures.value c.requires c.in-Some-first_under.ensures c.remove-least.ensures.value c.remove-least.ensures.items c.relabel.ensures.items in
    record {
      division = left.division;
      alone = left.alone;
      others = left.others;
      names = names_left c.args.entries.now.items c.relabel.new.entries.items c.args.place left.alone left.others;
      room = search rules;
      fewer = search rules;
      shrinks = inr (search rules);
    }

pub returns-in_default-clause-alone : goal.returns-in_default-clause-alone
returns-in_default-clause-alone c = left_none_as c.args.entries.now.items c.deref.result.now c.deref-in-None.result.now c.args.place c.deref.ensures.value c.deref-in-None.ensures.value c.requires c.in-None.ensures c.in_default.ensures

pub returns-in_default-clause-shrinks : goal.returns-in_default-clause-shrinks
returns-in_default-clause-shrinks c = inl (left_none_as c.args.entries.now.items c.deref.result.now c.deref-in-None.result.now c.args.place c.deref.ensures.value c.deref-in-None.ensures.value c.requires c.in-None.ensures c.in_default.ensures)
