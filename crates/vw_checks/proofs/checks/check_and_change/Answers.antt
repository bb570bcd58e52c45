use Rattle.std.proofs.Common.{◌≡◌, ◌∙◌, ◌+◌, ℕ, List, refl, subst}
use Rattle.std.specs.Prelude.{IfOk}
use Rattle.vw_stmt.specs.declared.statement.Stmt.{Stmt}
use Rattle.vw_domain.specs.Abstract.{abstract_of}
use Rattle.vw_state.specs.Code.{StandsAlone}
use Rattle.vw_state.specs.Context.{context_of, code_of}
use Rattle.vw_checks.specs.Checks.{IsLowestOf, StmtsFail, InsnFails, LowestFailing}
use Rattle.vw_state.proofs.Sites.{site_code}
use Rattle.vw_checks.proofs.Points.{as_point, ok_as}
use Rattle.vw_checks.proofs.checks.check_and_change.Goals as goal

pub returns-clause-lowest : goal.returns-clause-lowest
returns-clause-lowest c = λ g listed is.
    let f = context_of c.args.loaded.now g in
    let at = c.args.point.now.at in
    let next = at + c.args.point.now.len in
    let i = c.args.point.now.insn.now in
    let state = c.args.state.now in
    let code : c.args.code.now ≡ code_of f = c.requires.code ∙ site_code f c.args.site.now is in
    let stands = subst (λ (xs : List ℕ). StandsAlone xs at i c.args.point.now.len) code c.requires.point.stands in
    ok_as (IsLowestOf (InsnFails f next state i)) (LowestFailing f at state) (as_point f at state i c.args.point.now.len stands) c.change_all.result
    (subst (λ (xs : List Stmt). IfOk c.change_all.result (IsLowestOf (StmtsFail f next (abstract_of state) xs))) c.requires.point.lifted
    (c.change_all.ensures.lowest f (record { image = refl; functions = refl }) is))
