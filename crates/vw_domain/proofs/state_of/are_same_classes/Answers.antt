use Rattle.std.proofs.Common.{arith, ◌≡◌, ◌<◌, List, [], length, get_or, map, sym, ap, ◌∙◌}
use Rattle.std.proofs.lemmas.List.{get_or_default}
use Rattle.vw_names.specs.declared.spot.Spot.{Spot}
use Rattle.vw_names.specs.Spot.{number}
use Rattle.vw_domain.proofs.JoinedClasses.{image_at}
use Rattle.vw_domain.proofs.state_of.are_same_classes.Goals as goal

pub returns-then-not-are_same_places-clause-apart : goal.returns-then-not-are_same_places-clause-apart
returns-then-not-are_same_places-clause-apart c = λ same.
    let a : List (List Spot) = c.args.a.now in
    let b : List (List Spot) = c.args.b.now in
    let i = c.loop-i.i in
    let in_a : c.loop-i.i < length c.args.a.now = omega arith in
    let in_b : c.loop-i.i < length c.args.b.now = omega arith in
    let read_a : c.as_slice.result.now ≡ get_or a i [] = c.as_slice.ensures ∙ c.index-a-i.is ∙ get_or_default a i c.index-a-i.result [] in_a in
    let read_b : c.as_slice-in-loop-i.result.now ≡ get_or b i [] = c.as_slice-in-loop-i.ensures ∙ c.index-b-i.is ∙ get_or_default b i c.index-b-i.result [] in_b in
    c.if-not-are_same_places.ensures.apart (ap (map number) read_a ∙ image_at (map number) a b i [] same in_a in_b ∙ ap (map number) (sym read_b))
