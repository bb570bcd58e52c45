use Rattle.std.proofs.Common.{◌≤◌, ◌<◌, List, length, rules, sym, subst, ◌∙◌}
use Rattle.std.proofs.lemmas.List.{take_all, get_or_default}
use Rattle.vw_names.specs.declared.spot.Spot.{Spot}
use Rattle.vw_domain.specs.StateParts.{ArePlacesOf, AreClassesOf}
use Rattle.vw_domain.proofs.PartLemmas.{classes_step}
use Rattle.vw_domain.proofs.state_parts.classes_of.Goals as goal

pub loop-group-preserved : goal.loop-group-preserved
loop-group-preserved c =
    let names : List (List Spot) = c.args.names.now in
    let group : List Spot = c.group-item.result in
    let within : c.loop-group.group-index < length names = search rules in
    let places : ArePlacesOf group c.in_ok-places.places = subst (λ (xs : List Spot). ArePlacesOf xs c.in_ok-places.places) c.as_slice.ensures c.in_ok-places.ensures in
    classes_step names c.loop-group.classes c.push.new.self c.loop-group.group-index group c.in_ok-places.places within
    (λ d. get_or_default names c.loop-group.group-index d group within ∙ sym c.group-item.is) c.in_ok-push.ensures.ok places c.loop-group.invariant

pub returns : goal.returns
returns c =
    let names : List (List Spot) = c.args.names.now in
    let end : length names ≤ c.loop-group.group-index = search rules in
    subst (λ (xs : List (List Spot)). AreClassesOf xs c.loop-group.classes) (take_all c.loop-group.group-index names end) c.loop-group.invariant
