use Rattle.std.proofs.Common.{ap, ◌∙◌}
use Rattle.vw_state.specs.declared.tables.PointState.{PointState}
use Rattle.vw_recheck.proofs.Points.{given_there}
use Rattle.vw_recheck.proofs.Search.{same_read}
use Rattle.vw_recheck.proofs.landing.state_at.Goals as goal

pub returns-then-states-near-clause-found : goal.returns-then-states-near-clause-found
returns-then-states-near-clause-found c =
    let states = c.args.states.now in
    let near = c.args.near in
    let within = c.if-near-states.true in
    let first = c.index-states-near.result in
    let second = c.index-states-near-then-states-near.result in
    given_there c.args.at near second states c.requires within
    (ap (λ (p : PointState). p.at) (same_read states near second first within) ∙ c.if-states-near.true)
