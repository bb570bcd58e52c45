use Rattle.std.proofs.Common.{◌≤◌, ◌<◌, List, length, get_or, rules, subst}
use Rattle.std.proofs.lemmas.List.{take_all, get_or_default}
use Rattle.vw_names.specs.declared.spot.Spot.{Spot}
use Rattle.vw_names.specs.declared.spot.Spot.TheVariants.{Reg}
use Rattle.vw_domain.specs.StateParts.{ArePlacesOf}
use Rattle.vw_domain.proofs.PartLemmas.{places_step}
use Rattle.vw_domain.proofs.state_parts.places_of.Goals as goal

pub loop-name-preserved : goal.loop-name-preserved
loop-name-preserved c =
    let names : List Spot = c.args.names.now in
    let within : c.loop-name.name-index < length names = search rules in
    places_step names c.loop-name.places c.push.new.self c.loop-name.name-index (get_or names c.loop-name.name-index (Reg 0)) c.place_of.result within
    (λ d. get_or_default names c.loop-name.name-index d (Reg 0) within) c.in_ok-push.ensures.ok c.place_of.ensures c.loop-name.invariant

pub returns : goal.returns
returns c =
    let names : List Spot = c.args.names.now in
    let end : length names ≤ c.loop-name.name-index = search rules in
    subst (λ (xs : List Spot). ArePlacesOf xs c.loop-name.places) (take_all c.loop-name.name-index names end) c.loop-name.invariant
