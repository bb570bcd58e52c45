use Rattle.std.proofs.Common.{◌≡◌, ◌<◌, arith, length, rules, subst, sym, List, ℕ}
use Rattle.vw_domain.specs.State.{Fits}
use Rattle.vw_recheck.proofs.Points.{edge_to, edge_lands}
use Rattle.vw_recheck.proofs.landing.goes_on.Goals as goal

pub returns-clause-same : goal.returns-clause-same
returns-clause-same c = λ yes.
    let one : length c.args.edges.now ≡ 1 = search rules in
    let within : c.args.next < length c.args.states.now = omega arith in
    let edge = c.index-edges-0.result in
    let point = c.index-states-next.result in
    let at : edge.0 ≡ point.at = search rules in
    edge_to c.args.states.now c.args.next c.args.edges.now edge edge point point one c.index-edges-0.is within c.index-states-next.is at (c.is_same.ensures.0 yes).0

pub returns-clause-lands : goal.returns-clause-lands
returns-clause-lands c = λ yes f is.
    let one : length c.args.edges.now ≡ 1 = search rules in
    let within : c.args.next < length c.args.states.now = omega arith in
    let edge = c.index-edges-0.result in
    let point = c.index-states-next.result in
    let at : edge.0 ≡ point.at = search rules in
    let same = c.is_same.ensures.0 yes in
    edge_lands f c.args.states.now c.args.next c.args.edges.now edge edge point point c.requires one c.index-edges-0.is within c.index-states-next.is at same.0
    c.is_state.ensures (subst (λ (bounds : List ℕ). Fits bounds point.state) (sym is.bounds) same.1)
