use Rattle.std.proofs.Common.{◌<◌, length, rules}
use Rattle.vw_names.proofs.GroupLemmas.{entry_places, groups_next}
use Rattle.vw_names.proofs.groups.groups.Goals as goal

pub put_place-requires-clause-place : goal.put_place-requires-clause-place
put_place-requires-clause-place c =
    let within : c.loop-entry.entry-index < length c.args.entries.now = search rules in
    (entry_places c.args.entries.now c.loop-entry.entry-index c.requires.division c.requires.places within).0

pub put_place-requires-clause-least : goal.put_place-requires-clause-least
put_place-requires-clause-least c =
    let within : c.loop-entry.entry-index < length c.args.entries.now = search rules in
    (entry_places c.args.entries.now c.loop-entry.entry-index c.requires.division c.requires.places within).1

pub loop-entry-preserved : goal.loop-entry-preserved
loop-entry-preserved c =
    let within : c.loop-entry.entry-index < length c.args.entries.now = search rules in
    groups_next c.args.entries.now c.loop-entry.entry-index c.loop-entry.groups.items c.put_place.new.groups.items c.requires.division within c.loop-entry.invariant c.in_ok-put_place.ensures
