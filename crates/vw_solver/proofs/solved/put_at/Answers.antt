use Rattle.std.proofs.Common.{◌≡◌, ◌+◌, ◌≤◌, ◌++◌, ◌∷◌, [], get_or, length, Some, sym, ◌∙◌, arith}
use Rattle.std.proofs.lemmas.List.{get_or_default}
use Rattle.vw_solver.specs.search.Places.{placed_count}
use Rattle.vw_solver.proofs.PlaceLemmas.{placed_below, written, pushed, pushed_places}
use Rattle.vw_solver.proofs.solved.put_at.Goals as goal

pub overflow_cast-last : goal.overflow_cast-last
overflow_cast-last g c =
    let places = c.args.places.now.items in
    let zero : get_or places c.args.point 0 ≡ 0 = get_or_default places c.args.point 0 c.index.result.now c.requires.point ∙ sym c.index.ensures ∙ c.if-place-eq0.true in
    let below : placed_count places + 1 ≤ length places = placed_below places c.args.point c.requires.point zero in
    let last : c.len-last.result ≡ length c.args.states.now.items = c.len-last.ensures ∙ c.args.states.now.ok.0 in
    omega (arith, below, last, c.requires.places.few, c.requires.places.short)

pub returns-in_ok-push-clause-places : goal.returns-in_ok-push-clause-places
returns-in_ok-push-clause-places g c =
    let places = c.args.places.now.items in
    let zero : get_or places c.args.point 0 ≡ 0 = get_or_default places c.args.point 0 c.index.result.now c.requires.point ∙ sym c.index.ensures ∙ c.if-place-eq0.true in
    let last : c.len-last.result ≡ length c.args.states.now.items = c.len-last.ensures ∙ c.args.states.now.ok.0 in
    let items : c.push.new.self.items ≡ c.args.states.now.items ++ Some c.args.state ∷ [] = c.in_ok-push.ensures.items in
    rw (last, items) (pushed_places places c.args.states.now.items c.args.point c.args.state c.requires.places c.requires.point zero)

pub returns-in_ok-push-clause-put : goal.returns-in_ok-push-clause-put
returns-in_ok-push-clause-put g c =
    let places = c.args.places.now.items in
    let zero : get_or places c.args.point 0 ≡ 0 = get_or_default places c.args.point 0 c.index.result.now c.requires.point ∙ sym c.index.ensures ∙ c.if-place-eq0.true in
    let last : c.len-last.result ≡ length c.args.states.now.items = c.len-last.ensures ∙ c.args.states.now.ok.0 in
    let items : c.push.new.self.items ≡ c.args.states.now.items ++ Some c.args.state ∷ [] = c.in_ok-push.ensures.items in
    rw (last, items) (pushed places c.args.states.now.items c.args.point c.args.state c.requires.places c.requires.point zero)

pub returns-else-place-eq0-clause-put : goal.returns-else-place-eq0-clause-put
returns-else-place-eq0-clause-put g c =
    let is : get_or c.args.places.now.items c.args.point 0 ≡ c.index.result.now = get_or_default c.args.places.now.items c.args.point 0 c.index.result.now c.requires.point ∙ sym c.index.ensures in
    written c.args.places.now.items c.args.states.now.items c.args.point c.index.result.now (Some c.args.state) c.requires.places c.requires.point is (λ zero. absurd (c.if-place-eq0.false zero))
