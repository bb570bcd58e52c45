use Rattle.std.proofs.Common.{◌≡◌, ℕ, ◌<◌, List, get_or, set, length, Option, sym, ap, subst, ◌∙◌}
use Rattle.vw_solver.proofs.PlaceLemmas.{written}
use Rattle.vw_solver.proofs.solved.Solved.take.Goals as goal

pub returns-clause-rest : goal.returns-clause-rest
returns-clause-rest g c =
    let places = c.self.inside.places.items in
    let states = c.self.inside.states.items in
    let place = c.in-Some.place.now in
    let lent : c.deref.result.now ≡ places = c.deref.ensures.value in
    let W : List ℕ → Type 0 = λ ps. c.args.point < length ps in
    let within : c.args.point < length places = subst W lent c.in-Some.ensures.lookup.3.0 in
    let read : List ℕ → ℕ = λ ps. get_or ps c.args.point 0 in
    let is : get_or places c.args.point 0 ≡ place = sym (c.in-Some.ensures.lookup.3.1 0 ∙ ap read lent) in
    let write : List (Option g.row.S.Denot) → List (Option g.row.S.Denot) = λ t. set t c.args.point c.replace.new.dest in
    let empty : Option g.row.S.Denot → List (Option g.row.S.Denot) = λ o. set c.args.self.now c.args.point o in
    written places states c.args.point place c.replace.new.dest c.self.invariant within is (λ _. c.replace.ensures.after) ∙ ap write c.self.view_is ∙ ap empty c.replace.ensures.after
