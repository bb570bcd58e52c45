use Rattle.std.proofs.Common.{◌≡◌, ℕ, ◌+◌, ◌≤◌, List, length, Option, refl, sym, subst, arith}
use Rattle.vw_rows.specs.Numbers.{IsBytes}
use Rattle.vw_state.specs.declared.jumps.JumpTable.{JumpTable}
use Rattle.vw_state.specs.declared.site.Site.{Site}
use Rattle.vw_state.specs.Code.{code_at}
use Rattle.vw_state.specs.Context.{Context, context_of, IsSite}
use Rattle.vw_graph.specs.declared.round.Step.{Step}
use Rattle.vw_graph.specs.search.Course.{IsInRound, IsStep}
use Rattle.vw_graph.specs.search.Graphs.{IsGraph}
use Rattle.vw_graph.proofs.Fewer.{fewer_left, first_within}
use Rattle.vw_graph.proofs.round.all_rounds.Goals as goal

has_graph : (f : Context) (site : Site) (code : List ℕ) → IsSite f site → length site.tables.now ≤ 64 → code ≡ code_at site.image.now site.entry site.size → length code ≤ site.size → IsBytes code → IsGraph f site code (f.size + 1)
has_graph f site code is few same short bytes = record { is_site = is; few = few; code_is = same; bytes = bytes; short = omega (arith, short, is.size); size = refl }

pub first_round-requires-clause-whole : goal.first_round-requires-clause-whole
first_round-requires-clause-whole g c = c.requires.whole

pub first_round-requires-clause-listed : goal.first_round-requires-clause-listed
first_round-requires-clause-listed g c = c.requires.listed

pub first_round-requires-clause-short : goal.first_round-requires-clause-short
first_round-requires-clause-short g c = c.requires.short

pub first_round-requires-clause-graph : goal.first_round-requires-clause-graph
first_round-requires-clause-graph g c =
    has_graph (context_of c.args.loaded.now c.args.declared.now) c.args.site c.code-code.result.now c.requires.site c.requires.few c.code-code.ensures.code c.code-code.ensures.size c.code-code.ensures.bytes

pub returns-in_err-table-clause-ticks : goal.returns-in_err-table-clause-ticks
returns-in_err-table-clause-ticks g c = first_within (context_of c.args.loaded.now c.args.declared.now) c.args.steps.now c.first_round.new.steps c.first_round.ensures.ticks

pub returns-in_err-table-clause-counts : goal.returns-in_err-table-clause-counts
returns-in_err-table-clause-counts g c = c.first_round.ensures.counts

pub rounds-init : goal.rounds-init
rounds-init g c = record {
  counts = c.first_round.ensures.counts;
  in_round = subst (λ (slots : List (Option JumpTable)). IsInRound (context_of c.args.loaded.now c.args.declared.now) slots c.in_ok-table.table c.args.steps.now c.first_round.new.steps) (sym c.new-jumps.ensures.items) c.in_ok-table.ensures.solved;
}

pub next_step-requires-clause-whole : goal.next_step-requires-clause-whole
next_step-requires-clause-whole g c = c.requires.whole

pub next_step-requires-clause-listed : goal.next_step-requires-clause-listed
next_step-requires-clause-listed g c = c.requires.listed

pub next_step-requires-clause-short : goal.next_step-requires-clause-short
next_step-requires-clause-short g c = c.requires.short

pub next_step-requires-clause-graph : goal.next_step-requires-clause-graph
next_step-requires-clause-graph g c =
    has_graph (context_of c.args.loaded.now c.args.declared.now) c.args.site c.code-code.result.now c.requires.site c.requires.few c.code-code.ensures.code c.code-code.ensures.size c.code-code.ensures.bytes

pub next_step-requires-clause-in_round : goal.next_step-requires-clause-in_round
next_step-requires-clause-in_round g c = (c.args.steps.now, c.rounds.invariant.in_round)

pub returns-in_err-rounds-clause-ticks : goal.returns-in_err-rounds-clause-ticks
returns-in_err-rounds-clause-ticks g c = c.next_step.ensures.ticks c.args.steps.now c.rounds.invariant.in_round

pub returns-in_err-rounds-clause-counts : goal.returns-in_err-rounds-clause-counts
returns-in_err-rounds-clause-counts g c = omega (arith, c.next_step.ensures.counts, c.rounds.invariant.counts)

pub returns-in-Ends-clause-rounds : goal.returns-in-Ends-clause-rounds
returns-in-Ends-clause-rounds g c =
    (subst (λ (step : Step). IsStep (context_of c.args.loaded.now c.args.declared.now) c.rounds.jumps.items c.args.steps.now c.next_step.new.steps step) c.in-Ends.is
    (c.in_ok-rounds.ensures.step c.args.steps.now c.rounds.invariant.in_round)).0

pub returns-in-Ends-clause-fit : goal.returns-in-Ends-clause-fit
returns-in-Ends-clause-fit g c =
    (subst (λ (step : Step). IsStep (context_of c.args.loaded.now c.args.declared.now) c.rounds.jumps.items c.args.steps.now c.next_step.new.steps step) c.in-Ends.is
    (c.in_ok-rounds.ensures.step c.args.steps.now c.rounds.invariant.in_round)).1

pub returns-in-Ends-clause-ticks : goal.returns-in-Ends-clause-ticks
returns-in-Ends-clause-ticks g c = c.next_step.ensures.ticks c.args.steps.now c.rounds.invariant.in_round

pub returns-in-Ends-clause-counts : goal.returns-in-Ends-clause-counts
returns-in-Ends-clause-counts g c = omega (arith, c.next_step.ensures.counts, c.rounds.invariant.counts)

pub rounds-smaller : goal.rounds-smaller
rounds-smaller g c =
    fewer_left (context_of c.args.loaded.now c.args.declared.now) c.rounds.jumps.items c.in-GoesOn.further.items c.args.steps.now c.next_step.new.steps c.in-GoesOn.risen
    (subst (λ (step : Step). IsStep (context_of c.args.loaded.now c.args.declared.now) c.rounds.jumps.items c.args.steps.now c.next_step.new.steps step) c.in-GoesOn.is
    (c.in_ok-rounds.ensures.step c.args.steps.now c.rounds.invariant.in_round))

pub rounds-preserved : goal.rounds-preserved
rounds-preserved g c = record {
  counts = omega (arith, c.next_step.ensures.counts, c.rounds.invariant.counts);
  in_round = (subst (λ (step : Step). IsStep (context_of c.args.loaded.now c.args.declared.now) c.rounds.jumps.items c.args.steps.now c.next_step.new.steps step) c.in-GoesOn.is
      (c.in_ok-rounds.ensures.step c.args.steps.now c.rounds.invariant.in_round)).in_round;
}
