use Rattle.std.proofs.Common.{rules, ◌<◌, List, length, get_or}
use Rattle.std.proofs.lemmas.List.{get_or_default}
use Rattle.vw_names.specs.declared.spot.Spot.{Spot}
use Rattle.vw_names.specs.declared.spot.Spot.TheVariants.{Reg}
use Rattle.vw_domain.proofs.JoinedClasses.{names_push}
use Rattle.vw_domain.proofs.state_of.names_of.Goals as goal

pub loop-place-preserved : goal.loop-place-preserved
loop-place-preserved c =
    let places : List Spot = c.args.class.now in
    let within : c.loop-place.place-index < length c.args.class.now = search rules in
    names_push c.args.slots.now places c.loop-place.names c.push.new.self c.loop-place.place-index (get_or places c.loop-place.place-index (Reg 0)) c.in-Some.name within
    (λ d. get_or_default places c.loop-place.place-index d (Reg 0) within) c.in_ok-push-in-Some.ensures.ok c.in-Some.ensures c.loop-place.invariant
