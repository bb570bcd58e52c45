use Rattle.std.proofs.Common.{rules, ◌<◌, List, length, subst, sym, ◌∙◌}
use Rattle.std.specs.Prelude.{Option, MatchOption}
use Rattle.std.specs.List.{All}
use Rattle.std.proofs.lemmas.List.{get_or_default}
use Rattle.vw_names.specs.declared.spot.Spot.{Spot}
use Rattle.vw_domain.specs.PartRanges.{AreNamesOf, IsPointPlace}
use Rattle.vw_domain.proofs.JoinedClasses.{classes_push}
use Rattle.vw_domain.proofs.state_of.named_classes.Goals as goal

pub loop-class-preserved : goal.loop-class-preserved
loop-class-preserved c =
    let classes : List (List Spot) = c.args.classes.now in
    let class : List Spot = c.class-item.result in
    let read : List Spot = c.as_slice.result.now in
    let within : c.loop-class.class-index < length c.args.classes.now = search rules in
    let told : AreNamesOf c.args.slots.now read c.in-Some.group =
    subst (λ (o : Option (List Spot)). MatchOption o (All (IsPointPlace c.args.slots.now) read → ⊥) (AreNamesOf c.args.slots.now read)) c.in-Some.is c.in_ok-names_of.ensures in
    let here : AreNamesOf c.args.slots.now class c.in-Some.group = subst (λ (xs : List Spot). AreNamesOf c.args.slots.now xs c.in-Some.group) c.as_slice.ensures told in
    classes_push c.args.slots.now classes c.loop-class.names c.push.new.self c.loop-class.class-index class c.in-Some.group within
    (λ d. get_or_default classes c.loop-class.class-index d class within ∙ sym c.class-item.is) c.in_ok-push-in-Some.ensures.ok here c.loop-class.invariant
