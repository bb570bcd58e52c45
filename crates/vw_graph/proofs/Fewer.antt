-- That the rounds end: from round to round fewer pairs of points are left that are not yet among those of the round. And
-- how many steps there may be up to the first one.
use Rattle.std.proofs.Common.{ℕ, ◌+◌, ◌-◌, ◌*◌, ◌<◌, ◌≤◌, List, [], length, Option, arith}
use Rattle.vw_domain.specs.declared.parts.Parts.{Parts}
use Rattle.vw_state.specs.declared.jumps.JumpTable.{JumpTable}
use Rattle.vw_state.specs.Context.{Context}
use Rattle.vw_state.specs.Laws.{tick_limit}
use Rattle.vw_graph.specs.search.Course.{IsNextRound}
use Rattle.vw_graph.specs.search.Jumps.{pairs_of}
use Rattle.vw_graph.specs.Rounds.{WithinRounds, first_begins}
use Rattle.vw_graph.proofs.Distinct.{distinct, are_distinct, distinct_has, distinct_from, distinct_at_most}
use Rattle.vw_graph.proofs.Members.{distinct_fewer}

-- the pairs of the function's points that are not among those of the round
abbrev pub left : Context → List (Option JumpTable) → ℕ
left f slots = (f.size + 1) * (f.size + 1) - length (distinct (pairs_of f slots))

pub fewer_left : (f : Context) (before slots : List (Option JumpTable)) (old new : ℕ) (table : List (Option Parts)) → IsNextRound f before old new slots table → left f slots < left f before
fewer_left f before slots old new table next =
    let had : List (ℕ × ℕ) = pairs_of f before in
    let has : List (ℕ × ℕ) = pairs_of f slots in
    let less : length (distinct had) < length (distinct has) =
    distinct_fewer (distinct had) (distinct has) (next.at, next.to) (are_distinct had) (λ p c. distinct_has has p (next.grows p.0 p.1 (distinct_from had p c))) (distinct_has has (next.at, next.to) next.there)
    (λ c. next.new_pair (distinct_from had (next.at, next.to) c))
    in
    let most : length (distinct has) ≤ (f.size + 1) * (f.size + 1) = distinct_at_most (distinct has) (f.size + 1) (are_distinct has) (λ a b c. next.inside a b (distinct_from has (a, b) c)) in
    below ((f.size + 1) * (f.size + 1)) (length (distinct had)) (length (distinct has)) less most
  where
    below : (n a b : ℕ) → a < b → b ≤ n → n - b < n - a
    below n a b less most = omega arith

once : (limit old new : ℕ) → new ≤ old + limit → new - old ≤ 1 * limit
once limit old new ticks = omega arith

-- the steps of a first round are within the bound, whether it comes to its end or not
pub first_within : (f : Context) (old new : ℕ) → new ≤ old + tick_limit f → WithinRounds f (new - old)
first_within f old new ticks = record { pairs = []; begun = first_begins; within = once (tick_limit f) old new ticks }

-- as there are where it does not begin
pub none_within : (f : Context) (old : ℕ) → WithinRounds f (old - old)
none_within f old = first_within f old old (omega arith)
