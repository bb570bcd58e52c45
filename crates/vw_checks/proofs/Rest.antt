-- What fails at some statements, one after another.
use Rattle.std.proofs.Common.{◌≡◌, ℕ, ◌+◌, ◌<◌, ◌≤◌, List, [], length, drop, get_or, Option, None, sym, ◌∙◌, ap, subst}
use Rattle.std.proofs.lemmas.List.{drop_more, drop_all}
use Rattle.vw_stmt.specs.declared.statement.Stmt.{Stmt}
use Rattle.vw_domain.specs.Abstract.{Abstract}
use Rattle.vw_domain.specs.Statements.{apply, applies}
use Rattle.vw_state.specs.Context.{Context, site_at}
use Rattle.vw_checks.specs.Checks.{IsLowestOf, StmtFails, StmtsFail, lower}
use Rattle.vw_checks.proofs.LowestLemmas.{lower_of, lower_assoc, lower_none}

module _ (f : Context) (next : ℕ) where
  abbrev Fail : Abstract → List Stmt → ℕ → Type 0
  Fail st stmts number = StmtsFail f next st stmts number

  -- what is known once some statements were asked: that the lowest number at the others is all that is missing
  abbrev pub IsSoFar : Abstract → Abstract → List Stmt → List Stmt → Option ℕ → Type 0
  IsSoFar start now stmts others so_far = (o : Option ℕ) → IsLowestOf (Fail now others) o → IsLowestOf (Fail start stmts) (lower so_far o)

  -- one more statement
  pub one_more : (start now after : Abstract) (stmts : List Stmt) (k : ℕ) (d : Stmt) (so_far a new : Option ℕ) → k < length stmts → IsLowestOf (StmtFails f next now (get_or stmts k d)) a → new ≡ lower so_far a
      → after ≡ apply (site_at f next) (get_or stmts k d) now → IsSoFar start now stmts (drop k stmts) so_far → IsSoFar start after stmts (drop (k + 1) stmts) new
  one_more start now after stmts k d so_far a new less here e moved before o later =
      let s = get_or stmts k d in
      let rest = drop (k + 1) stmts in
      let from = subst (λ (t : Abstract). IsLowestOf (Fail t rest) o) moved later in
      let both = lower_of (StmtFails f next now s) (StmtsFail f next (apply (site_at f next) s now) rest) a o here from in
      let all = subst (λ (xs : List Stmt). IsLowestOf (Fail now xs) (lower a o)) (sym (drop_more stmts k d less)) both in
      subst (λ (n : Option ℕ). IsLowestOf (Fail start stmts) n) (sym (lower_assoc so_far a o) ∙ ap (λ (n : Option ℕ). lower n o) (sym e)) (before (lower a o) all)

  -- no statement is left
  pub all_done : (start now : Abstract) (stmts : List Stmt) (k : ℕ) (so_far : Option ℕ) → length stmts ≤ k → IsSoFar start now stmts (drop k stmts) so_far → IsLowestOf (Fail start stmts) so_far
  all_done start now stmts k so_far end before =
      let none : IsLowestOf (Fail now []) None = λ number fails. fails in
      let rest = subst (λ (xs : List Stmt). IsLowestOf (Fail now xs) None) (sym (drop_all k stmts end)) none in
      subst (λ (n : Option ℕ). IsLowestOf (Fail start stmts) n) (lower_none so_far) (before None rest)

  -- one more statement is applied
  pub one_applied : (start now after : Abstract) (stmts : List Stmt) (k : ℕ) (d : Stmt) → k < length stmts → after ≡ apply (site_at f next) (get_or stmts k d) now
      → applies (site_at f next) (drop k stmts) now ≡ applies (site_at f next) stmts start → applies (site_at f next) (drop (k + 1) stmts) after ≡ applies (site_at f next) stmts start
  one_applied start now after stmts k d less moved before =
      ap (λ (st : Abstract). applies (site_at f next) (drop (k + 1) stmts) st) moved
      ∙ (ap (λ (xs : List Stmt). applies (site_at f next) xs now) (sym (drop_more stmts k d less)) ∙ before)

  -- no statement is left to be applied
  pub all_applied : (start now : Abstract) (stmts : List Stmt) (k : ℕ) → length stmts ≤ k → applies (site_at f next) (drop k stmts) now ≡ applies (site_at f next) stmts start
      → now ≡ applies (site_at f next) stmts start
  all_applied start now stmts k end before =
      ap (λ (xs : List Stmt). applies (site_at f next) xs now) (sym (drop_all k stmts end)) ∙ before
