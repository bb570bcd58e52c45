use Rattle.vw_names.specs.Spot.{number}
use Rattle.vw_names.proofs.NameLemmas.{followed_as}
use Rattle.vw_names.proofs.classes.Classes.follow.Goals as goal

pub returns-clause-ok : goal.returns-clause-ok
returns-clause-ok c = followed_as (number c.args.place) (number c.args.other) c.number_of-place.result c.number_of-other.result c.root_of-least.result c.args.self.now c.self.inside.entries.items c.reserve.new.self.items c.leave-2.new.entries.items c.deref.result.now c.enter.new.entries.items c.number_of-place.ensures.number c.number_of-other.ensures.number c.self.view_is c.in_ok-reserve.ensures.items c.deref.ensures.value c.if-place-other.false c.root_of-least.ensures c.leave-2.ensures.division c.leave-2.ensures.alone c.leave-2.ensures.others c.in_ok-enter.ensures.others c.in_ok-enter.ensures.joined
