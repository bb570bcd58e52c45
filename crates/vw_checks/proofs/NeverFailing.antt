-- What fails at some statements, where no check can fail behind the first of them.
use Rattle.std.proofs.Common.{◌≡◌, ◌⊎◌, inl, inr, ℕ, ◌≤◌, Bool, true, false, List, [], ◌∷◌, length, get_or, Option, Some, None, sym, arith}
use Rattle.std.proofs.lemmas.Bool.{and_parts, false≢true}
use Rattle.std.specs.List.{list_all}
use Rattle.vw_stmt.specs.declared.statement.Flow.{Flow}
use Rattle.vw_stmt.specs.declared.statement.Flow.TheVariants as flow
use Rattle.vw_stmt.specs.declared.statement.Stmt.{Stmt}
use Rattle.vw_stmt.specs.declared.statement.Stmt.TheVariants as stmt
use Rattle.vw_domain.specs.Abstract.{Abstract}
use Rattle.vw_domain.specs.Statements.{apply}
use Rattle.vw_state.specs.Context.{Context, site_at}
use Rattle.vw_checks.specs.Checks.{IsLowestOf, StmtFails, StmtsFail}
use Rattle.vw_checks.specs.Harmless.{goes_on_or_stops, never_fails, never_fail_behind}

module _ (f : Context) (next : ℕ) where
  flow_is_harmless : (st : Abstract) (to : Flow) (number : ℕ) → goes_on_or_stops to ≡ true → StmtFails f next st (stmt.Flow to) number → ⊥
  flow_is_harmless st flow.Next number e fails = elim fails [ inl leaves ↦ leaves.1 | inr transfers ↦ transfers ]
  flow_is_harmless st (flow.Jump rel) number e fails = absurd (false≢true e)
  flow_is_harmless st (flow.Branch cond rel) number e fails = absurd (false≢true e)
  flow_is_harmless st (flow.JumpReg src) number e fails = absurd (false≢true e)
  flow_is_harmless st (flow.Call rel) number e fails = absurd (false≢true e)
  flow_is_harmless st (flow.CallReg src) number e fails = absurd (false≢true e)
  flow_is_harmless st flow.Ret number e fails = absurd (false≢true e)
  flow_is_harmless st flow.Stop number e fails = elim fails [ inl leaves ↦ leaves.1 | inr transfers ↦ transfers ]

  is_harmless : (st : Abstract) (x : Stmt) (number : ℕ) → never_fails x ≡ true → StmtFails f next st x number → ⊥
  is_harmless st (stmt.Set dst c) number e fails = fails
  is_harmless st (stmt.Copy dst src) number e fails = fails
  is_harmless st (stmt.Narrow dst src from to signed) number e fails = fails
  is_harmless st (stmt.Sum dst a b minus) number e fails = fails
  is_harmless st (stmt.Lea dst mem) number e fails = fails
  is_harmless st (stmt.And dst w a b) number e fails = fails
  is_harmless st (stmt.Shl dst) number e fails = fails
  is_harmless st (stmt.Open dst w) number e fails = fails
  is_harmless st (stmt.Choose dst w a b) number e fails = fails
  is_harmless st (stmt.Load dst size to signed mem) number e fails = absurd (false≢true e)
  is_harmless st (stmt.Store mem size src) number e fails = absurd (false≢true e)
  is_harmless st (stmt.Touch mem size write) number e fails = absurd (false≢true e)
  is_harmless st (stmt.Flags fact) number e fails = fails
  is_harmless st (stmt.Flow to) number e fails = flow_is_harmless st to number e fails

  are_harmless : (st : Abstract) (stmts : List Stmt) (number : ℕ) → list_all never_fails stmts ≡ true → StmtsFail f next st stmts number → ⊥
  are_harmless st [] number e fails = fails
  are_harmless st (x ∷ stmts) number e fails =
      let both = and_parts (never_fails x) (list_all never_fails stmts) e in
      elim fails [
        | inl here ↦ is_harmless st x number both.0 here
        | inr behind ↦ are_harmless (apply (site_at f next) x st) stmts number both.1 behind
      ]

  -- what fails at the first of them is all that fails
  pub first_alone : (st : Abstract) (stmts : List Stmt) (d : Stmt) (o : Option ℕ) → never_fail_behind stmts ≡ true → 1 ≤ length stmts
      → IsLowestOf (StmtFails f next st (get_or stmts 0 d)) o → IsLowestOf (StmtsFail f next st stmts) o
  first_alone st [] d o e some lowest = absurd (omega arith)
  first_alone st (x ∷ stmts) d None e some lowest = λ number fails. elim fails [
    | inl here ↦ lowest number here
    | inr behind ↦ are_harmless (apply (site_at f next) x st) stmts number e behind
  ]
  first_alone st (x ∷ stmts) d (Some n) e some lowest = (
    inl lowest.0,
    λ number fails. elim fails [
      | inl here ↦ lowest.1 number here
      | inr behind ↦ absurd (are_harmless (apply (site_at f next) x st) stmts number e behind)
    ],
  )

  -- where there is no statement, none fails
  pub none_alone : (st : Abstract) (stmts : List Stmt) → length stmts ≤ 0 → IsLowestOf (StmtsFail f next st stmts) None
  none_alone st [] few = λ number fails. fails
  none_alone st (x ∷ stmts) few = absurd (omega arith)
