use Rattle.std.proofs.Common.{◌++◌, map, sym, ◌∙◌, ap, Option, Some}
use Rattle.vw_domain.specs.Abstract.{Abstract, abstract_of}
use Rattle.vw_domain.specs.Statements.{finish}
use Rattle.vw_state.specs.declared.jumps.JumpTable.{JumpTable}
use Rattle.vw_state.specs.Post.{table_targets, carry, with_state}
use Rattle.vw_state.proofs.flow_edges.append_jumps.Goals as goal

pub returns-in-Ok-clause-ok : goal.returns-in-Ok-clause-ok
returns-in-Ok-clause-ok c = λ f is.
    let out = c.args.out.now in
    c.in-Ok.ensures.ok f is
    ∙ (ap (λ (st : Abstract). out ++ map with_state (carry (table_targets f (Some c.in-Some.table)) st)) c.finish.ensures.form
    ∙ ap (λ (table : Option JumpTable). out ++ map with_state (carry (table_targets f table) (finish (abstract_of c.args.state)))) (sym c.in-Some.is))
