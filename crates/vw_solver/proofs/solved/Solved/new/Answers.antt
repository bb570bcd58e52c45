use Rattle.std.proofs.Common.{◌≡◌, ℕ, List, [], ◌∷◌, ◌++◌, replicate, Option, None, rules, ap, ◌∙◌}
use Rattle.vw_solver.specs.search.Places.{states_by}
use Rattle.vw_solver.proofs.PlaceLemmas.{none_first}
use Rattle.vw_solver.proofs.solved.Solved.new.Goals as goal

pub returns : goal.returns
returns g c =
    let places : c.in_ok-places.places.items ≡ replicate c.args.points 0 = search rules in
    let append : List (Option g.row.S.Denot) → List (Option g.row.S.Denot) = λ t. t ++ None ∷ [] in
    let states : c.push.new.self.items ≡ None ∷ [] = c.in_ok-push.ensures.items ∙ ap append c.new-states.ensures.items in
    let by_places : List ℕ → List (Option g.row.S.Denot) = λ ps. states_by ps (None ∷ []) in
    let by_states : List (Option g.row.S.Denot) → List (Option g.row.S.Denot) = λ t. states_by c.in_ok-places.places.items t in
    c.table_of.ensures ∙ ap by_states states ∙ ap by_places places ∙ none_first {S = g.row.S.Denot} c.args.points
