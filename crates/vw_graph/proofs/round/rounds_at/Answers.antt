use Rattle.std.proofs.Common.{◌-◌, subst}
use Rattle.vw_layout.specs.declared.functions.Function.{Function}
use Rattle.vw_state.specs.Context.{context_of}
use Rattle.vw_state.specs.Tables.{AllFit}
use Rattle.vw_graph.specs.Rounds.{IsRounds, WithinRounds, last_table}
use Rattle.vw_graph.proofs.Declared.{short, is_numbered, one_function, of_each}
use Rattle.vw_graph.proofs.round.rounds_at.Goals as goal

pub all_rounds-requires-clause-short : goal.all_rounds-requires-clause-short
all_rounds-requires-clause-short g c =
    short c.args.loaded.now.functions c.args.function c.index-as_slice-function.result c.as_slice.result.now c.as_slice.ensures c.index-as_slice-function.is
    c.args.loaded.now.image.bytes c.functions_are_code.ensures c.requires.whole.rules c.requires.whole.functions c.requires.declared

pub all_rounds-requires-clause-site : goal.all_rounds-requires-clause-site
all_rounds-requires-clause-site g c =
    c.requires.site c.index-as_slice-function.result
    (is_numbered c.args.loaded.now.functions c.args.function c.index-as_slice-function.result c.as_slice.result.now c.as_slice.ensures c.index-as_slice-function.is c.requires.declared)

pub returns-clause-rounds : goal.returns-clause-rounds
returns-clause-rounds g c =
    of_each c.args.loaded.now.functions c.args.function c.index-as_slice-function.result c.as_slice.result.now c.as_slice.ensures c.index-as_slice-function.is
    (λ f rounds. IsRounds (context_of c.args.loaded.now f) rounds) c.all_rounds.result c.all_rounds.ensures.rounds

pub returns-clause-fit : goal.returns-clause-fit
returns-clause-fit g c =
    of_each c.args.loaded.now.functions c.args.function c.index-as_slice-function.result c.as_slice.result.now c.as_slice.ensures c.index-as_slice-function.is
    (λ f rounds. AllFit (context_of c.args.loaded.now f).bounds (last_table rounds).states) c.all_rounds.result c.all_rounds.ensures.fit

pub returns-clause-ticks : goal.returns-clause-ticks
returns-clause-ticks g c = λ f e.
    subst (λ (h : Function). WithinRounds (context_of c.args.loaded.now h) (c.all_rounds.new.steps - c.args.steps.now))
    (one_function c.args.loaded.now.functions c.args.function c.index-as_slice-function.result c.as_slice.result.now c.as_slice.ensures c.index-as_slice-function.is f e)
    c.all_rounds.ensures.ticks
