use Rattle.std.proofs.Common.{rules, ltb, ap, ◌∙◌}
use Rattle.std.proofs.lemmas.List.Sorted.{IsPartitionPoint-from_clause, IsPartitionedBy-ltb}
use Rattle.vw_state.specs.declared.tables.PointState.{PointState}
use Rattle.vw_recheck.proofs.Search.{rising, found_there, none_there, none_past, same_read}
use Rattle.vw_recheck.proofs.landing.state_by_halves.Goals as goal
use Rattle.vw_recheck.proofs.landing.state_by_halves.Goals.{else-index-states-via-then-index-states+else-states-index, else-index-states-via-else-index-states}

pub returns-then-states-index-clause-found : goal.returns-then-states-index-clause-found
returns-then-states-index-clause-found c =
    let states = c.args.states.now in
    let i = c.partition_point-index.result in
    let within = c.if-index-states.true in
    let first = c.index-states-index.result in
    let second = c.index-states-index-then-states-index.result in
    let parted = IsPartitionedBy-ltb (λ (p : PointState). p.at) _ c.args.at (rising 0 states c.requires) in
    let point = IsPartitionPoint-from_clause (λ (p : PointState). ltb p.at c.args.at) _ _ c.partition_point-index.ensures.partitioned parted (λ a r q k. search rules) in
    found_there c.args.at i second states c.requires point.0 point.1 within
    (ap (λ (p : PointState). p.at) (same_read states i second first within) ∙ c.if-states-index.true)

pub returns-else-index-states-clause-none : goal.returns-else-index-states-clause-none
returns-else-index-states-clause-none c =
    let states = c.args.states.now in
    let i = c.partition_point-index.result in
    let parted = IsPartitionedBy-ltb (λ (p : PointState). p.at) _ c.args.at (rising 0 states c.requires) in
    let point = IsPartitionPoint-from_clause (λ (p : PointState). ltb p.at c.args.at) _ _ c.partition_point-index.ensures.partitioned parted (λ a r q k. search rules) in
    elim c.else-index-states.branch [
      | else-index-states-via-then-index-states+else-states-index w ↦
          none_there c.args.at i w.index-states-index.result states c.requires point.0 point.1
          (λ within same. w.if-states-index.false same)
      | else-index-states-via-else-index-states w ↦ none_past c.args.at i states c.requires point.0 point.1 w.if-index-states.false
    ]
