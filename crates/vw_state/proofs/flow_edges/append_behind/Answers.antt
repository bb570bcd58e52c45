use Rattle.std.proofs.Common.{◌≡◌, ℕ, ◌++◌, map, sym, subst, Option, OnOk}
use Rattle.vw_domain.specs.Abstract.{abstract_of}
use Rattle.vw_domain.specs.Statements.{finish}
use Rattle.vw_state.specs.Post.{edge_to, with_state}
use Rattle.vw_state.proofs.flow_edges.append_behind.Goals as goal

pub returns-in-Some-clause-ok : goal.returns-in-Some-clause-ok
returns-in-Some-clause-ok c =
    let at : Option ℕ → Type 0 = λ to. OnOk c.append.result (c.append.new.out ≡ c.args.out.now ++ map with_state (edge_to to (finish (abstract_of c.args.state)))) in
    subst at (sym c.in-Some.is) (c.append.ensures.ok (finish (abstract_of c.args.state)) c.finish.ensures.form)
