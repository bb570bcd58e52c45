use Rattle.std.proofs.Common.{◌≡◌, ℕ, ◌∙◌, List, refl, sym, ap, subst}
use Rattle.vw_layout.specs.declared.functions.Function.{Function}
use Rattle.vw_layout.specs.declared.layout.Module.{Module}
use Rattle.vw_state.specs.declared.site.Site.{Site}
use Rattle.vw_state.specs.Bounds.{bounds_of}
use Rattle.vw_state.specs.Context.{context_of, lengths_of, IsSite}
use Rattle.vw_graph.proofs.Declared.{one_function}
use Rattle.vw_graph.proofs.Fewer.{none_within}
use Rattle.vw_graph.proofs.round.rounds.Goals as goal

same_site : (m : Module) (f g : Function) (site : Site) → f ≡ g → IsSite (context_of m f) site → IsSite (context_of m g) site
same_site m f g site same is = subst (λ (h : Function). IsSite (context_of m h) site) same is

pub returns-in_err-tables-clause-ticks : goal.returns-in_err-tables-clause-ticks
returns-in_err-tables-clause-ticks g c = λ f e. none_within (context_of c.args.loaded.now f) c.args.steps.now

pub returns-in_err-lengths-clause-ticks : goal.returns-in_err-lengths-clause-ticks
returns-in_err-lengths-clause-ticks g c = λ f e. none_within (context_of c.args.loaded.now f) c.args.steps.now

pub returns-in_err-bounds-clause-ticks : goal.returns-in_err-bounds-clause-ticks
returns-in_err-bounds-clause-ticks g c = λ f e. none_within (context_of c.args.loaded.now f) c.args.steps.now

pub rounds_at-requires-clause-site : goal.rounds_at-requires-clause-site
rounds_at-requires-clause-site g c = λ f e.
    same_site c.args.loaded.now c.index-as_slice-function.result f _
    (one_function c.args.loaded.now.functions c.args.function c.index-as_slice-function.result c.as_slice.result.now c.as_slice.ensures c.index-as_slice-function.is f e) (record {
      image = refl;
      tables = sym c.in_ok-tables.ensures.tables;
      entry = refl;
      size = refl;
      bounds =
          ap (λ (code : List ℕ). bounds_of code (lengths_of c.args.loaded.now.tables)) (sym c.code_of-code.ensures.code)
          ∙ ap (λ (lengths : List ℕ). bounds_of c.code_of-code.result.now lengths) (sym (c.as_slice-2.ensures ∙ c.in_ok-lengths.ensures.lengths))
          ∙ sym c.in_ok-bounds.ensures;
    })
