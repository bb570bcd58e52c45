use Rattle.std.proofs.Common.{◌≡◌, ℕ, drop, Option}
use Rattle.vw_domain.specs.Abstract.{abstract_of}
use Rattle.vw_domain.specs.Statements.{applies}
use Rattle.vw_state.specs.Context.{Context, IsSite, site_at}
use Rattle.vw_checks.specs.Checks.{IsLowestOf, StmtsFail, lower}
use Rattle.vw_checks.specs.Functions.{IsFunctionOf}
use Rattle.vw_checks.proofs.checks.change_all.Given as goal

abbrev pub invariant-loop-stmt : goal.invariant-loop-stmt
invariant-loop-stmt l = record {
  lowest : (f : Context) → IsFunctionOf l.loaded f → IsSite f l.site → (o : Option ℕ) → IsLowestOf (StmtsFail f l.next (abstract_of l.state) (drop l.stmt-index l.stmts)) o
      → IsLowestOf (StmtsFail f l.next (abstract_of l.fn.state) l.stmts) (lower l.lowest o);
  form : (f : Context) → IsSite f l.site
      → applies (site_at f l.next) (drop l.stmt-index l.stmts) (abstract_of l.state) ≡ applies (site_at f l.next) l.stmts (abstract_of l.fn.state);
}
