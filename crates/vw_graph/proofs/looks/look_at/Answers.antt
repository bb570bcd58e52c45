use Rattle.std.proofs.Common.{◌≡◌, ◌+◌, ℕ, List, sym, subst, arith}
use Rattle.vw_state.specs.Checks.{lacks_code}
use Rattle.vw_state.specs.Code.{NothingAt, StandsAlone}
use Rattle.vw_state.specs.Context.{Context, IsSite, code_of}
use Rattle.vw_graph.specs.search.Walks.{FindsBehind, FindsAt}
use Rattle.vw_graph.proofs.Finds.{behind_at, if_ok_map}
use Rattle.vw_graph.proofs.looks.look_at.Goals as goal

pub overflow_add-at : goal.overflow_add-at
overflow_add-at c = omega (arith, c.requires.short, c.requires.small, c.in-Some.ensures.found.begins.inside)

pub returns-in-Some : goal.returns-in-Some
returns-in-Some c =
    if_ok_map (λ look. (f : Context) → IsSite f c.args.site.now → FindsBehind f (c.args.at + c.in-Some.len) c.in-Some.insn c.args.state.now look)
    (λ look. (f : Context) → IsSite f c.args.site.now → code_of f ≡ c.args.code.now → FindsAt f c.args.at c.args.state.now look) c.look_behind.result
    (λ look finds f is code. behind_at f c.args.state.now (subst (λ (xs : List ℕ). StandsAlone xs c.args.at c.in-Some.insn c.in-Some.len) (sym code) c.in-Some.ensures.found) look (finds f is))
    c.look_behind.ensures

pub returns-in-None : goal.returns-in-None
returns-in-None c = λ f is code. lacks_code (subst (λ (xs : List ℕ). NothingAt xs c.args.at) (sym code) c.in-None.ensures.none)
