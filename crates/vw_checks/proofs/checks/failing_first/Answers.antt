use Rattle.vw_domain.specs.Abstract.{abstract_of}
use Rattle.vw_checks.proofs.NeverFailing.{first_alone}
use Rattle.vw_checks.proofs.checks.failing_first.Goals as goal

pub returns-in-len1-up : goal.returns-in-len1-up
returns-in-len1-up c = λ f of is.
    first_alone f c.args.next (abstract_of c.args.state.now) c.args.stmts.now _ c.failing_stmt.result c.requires.behind c.in-len1-up.len_at_least (c.failing_stmt.ensures f of is)
