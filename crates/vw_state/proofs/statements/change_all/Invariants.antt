use Rattle.std.proofs.Common.{◌≡◌, drop}
use Rattle.std.specs.List.{AllByRecursion}
use Rattle.vw_stmt.specs.Lifted.{IsLifted}
use Rattle.vw_domain.specs.Abstract.{abstract_of}
use Rattle.vw_domain.specs.State.{Fits}
use Rattle.vw_domain.specs.Statements.{applies}
use Rattle.vw_state.specs.Context.{equation_site}
use Rattle.vw_state.proofs.statements.change_all.Given as goal

abbrev pub invariant-loop-stmt : goal.invariant-loop-stmt
invariant-loop-stmt l = record {
  form : applies (equation_site l.site l.next) (drop l.stmt-index l.stmts) (abstract_of l.state) ≡ applies (equation_site l.site l.next) l.stmts (abstract_of l.fn.state);
  lifted : AllByRecursion IsLifted (drop l.stmt-index l.stmts);
  fits : Fits l.site.bounds.now l.fn.state → Fits l.site.bounds.now l.state;
}
