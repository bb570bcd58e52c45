use Rattle.std.proofs.Common.{◌∙◌, ◌+◌, ap}
use Rattle.vw_domain.specs.declared.parts.Parts.{Parts}
use Rattle.vw_domain.specs.Abstract.{abstract_of}
use Rattle.vw_domain.specs.Statements.{applies}
use Rattle.vw_state.specs.Context.{site_at}
use Rattle.vw_state.proofs.edges.post_of_insn.Goals as goal

pub returns-clause-edges : goal.returns-clause-edges
returns-clause-edges c = λ f is.
    let point = c.args.point.now in
    let next = point.at + point.len in
    c.post_behind.ensures.edges f c.args.state.now is
    (c.in_ok-change_by_stmts.ensures.form f is
    ∙ ap (λ (s : Parts). applies (site_at f next) point.stmts.now (abstract_of s)) c.in_ok-behind.ensures)
