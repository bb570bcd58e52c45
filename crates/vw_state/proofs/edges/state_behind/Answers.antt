use Rattle.std.proofs.Common.{◌∙◌, ap}
use Rattle.vw_state.specs.Post.{form_behind}
use Rattle.vw_state.proofs.edges.state_behind.Goals as goal

pub returns-clause-form : goal.returns-clause-form
returns-clause-form c = λ f is.
    c.in_ok-go_behind.ensures.form f c.args.insn.now is (c.as_slice.ensures.items ∙ c.lift-stmts.ensures.list)
    ∙ ap (form_behind f c.args.next c.args.insn.now) c.in_ok-behind.ensures
