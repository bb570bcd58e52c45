use Rattle.std.proofs.Common.{◌≡◌, ℕ, [], ◌++◌, map, sym, ◌∙◌, ap, Option, Some}
use Rattle.std.proofs.lemmas.Result.{on_ok_weaker}
use Rattle.vw_domain.specs.Abstract.{abstract_of}
use Rattle.vw_state.specs.Post.{entry_target, with_target, carry, with_state}
use Rattle.vw_state.proofs.flow_edges.append_entry.Goals as goal

pub returns-in_ok-copy-in-Some-clause-ok : goal.returns-in_ok-copy-in-Some-clause-ok
returns-in_ok-copy-in-Some-clause-ok c = λ f is.
    let st = abstract_of c.args.state.now in
    let target : Some c.in-Some.point ≡ entry_target f c.args.table c.args.i = sym c.in-Some.is ∙ c.entry_target.ensures f is in
    on_ok_weaker c.append.result (λ e. e ∙ ap (λ (to : Option ℕ). c.args.out.now ++ map with_state (carry (with_target to []) st)) target)
    (c.append.ensures.ok st (ap abstract_of c.in_ok-copy-in-Some.ensures))
