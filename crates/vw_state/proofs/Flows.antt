-- The last statement of a list, and what the statements before it leave.
use Rattle.std.proofs.Common.{◌≡◌, ◌-◌, ℕ, List, [], ◌∷◌, ◌++◌, length, Some, refl, ◌∙◌, ap, arith}
use Rattle.std.specs.List.{slice_get}
use Rattle.std.proofs.lemmas.List.{length-append}
use Rattle.vw_stmt.specs.declared.statement.Flow.{Flow}
use Rattle.vw_stmt.specs.declared.statement.Stmt.{Stmt}
use Rattle.vw_stmt.specs.declared.statement.Stmt.TheVariants as stmt
use Rattle.vw_domain.specs.Abstract.{Abstract}
use Rattle.vw_domain.specs.Sites.{Site}
use Rattle.vw_domain.specs.Statements.{apply, applies}

pub at_end : (before : List Stmt) (x : Stmt) → slice_get (before ++ x ∷ []) (length before) ≡ Some x
at_end [] x = refl
at_end (y ∷ before) x = at_end before x

pub last_is : (stmts before : List Stmt) (x : Stmt) → stmts ≡ before ++ x ∷ [] → slice_get stmts (length stmts - 1) ≡ Some x
last_is stmts before x e =
    let size : length stmts - 1 ≡ length before = omega (arith, ap (λ (xs : List Stmt). length xs) e, length-append before (x ∷ [])) in
    ap (λ (n : ℕ). slice_get stmts n) size ∙ (ap (λ (xs : List Stmt). slice_get xs (length before)) e ∙ at_end before x)

-- a flow behind them changes no state
pub applies_flow : (site : Site) (stmts : List Stmt) (flow : Flow) (st : Abstract) → applies site (stmts ++ stmt.Flow flow ∷ []) st ≡ applies site stmts st
applies_flow site [] flow st = refl
applies_flow site (s ∷ stmts) flow st = applies_flow site stmts flow (apply site s st)
