use Rattle.std.proofs.Common.{subst}
use Rattle.std.specs.Prelude.{IfOk}
use Rattle.vw_domain.specs.declared.parts.Parts.{Parts}
use Rattle.vw_domain.specs.Abstract.{abstract_of}
use Rattle.vw_checks.specs.Checks.{IsLowestOf, StmtsFail}
use Rattle.vw_checks.proofs.checks.failing_stmts.Goals as goal

pub returns-then-not-never_fail_behind : goal.returns-then-not-never_fail_behind
returns-then-not-never_fail_behind c = λ f of is.
    subst (λ (s : Parts). IfOk c.change_all.result (IsLowestOf (StmtsFail f c.args.next (abstract_of s) c.args.stmts.now))) c.in_ok-copy.ensures (c.change_all.ensures.lowest f of is)
