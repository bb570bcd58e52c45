-- The laws for the statements of an instruction.
use Rattle.std.proofs.Common.{ℕ, List, [], ◌∷◌}
use Rattle.std.specs.Prelude.{None}
use Rattle.std.specs.List.{AllByRecursion}
use Rattle.vw_stmt.specs.declared.statement.Stmt.{Stmt}
use Rattle.vw_stmt.specs.declared.operands.Var.TheVariants as var
use Rattle.vw_stmt.specs.Environment.{Environment, set_var}
use Rattle.vw_stmt.specs.Lifted.{IsLifted}
use Rattle.vw_domain.proofs.ValueLaws.{ValueLaws}
use Rattle.vw_domain.proofs.Standing.{Standing}
use Rattle.vw_domain.specs.Statements.{apply, applies, finish}
use Rattle.vw_domain.specs.Checks.{PassesAll}
use Rattle.vw_domain.proofs.Every.{stmt_mono, stmt_passes}
use Rattle.vw_domain.proofs.EveryValid.{stmt_valid}
use Rattle.vw_domain.proofs.Valid.{write_valid}
use Rattle.vw_domain.proofs.WriteLaws.{write_below, write_stands}
use Rattle.vw_domain.proofs.ChangeLaws.{no_tag}
use Rattle.vw_stack.specs.declared.offset.Offset.TheVariants as offset
use Rattle.vw_values.specs.declared.value.Value.TheVariants.{Any}
use Rattle.vw_domain.specs.Abstract.{Abstract}
use Rattle.vw_domain.specs.Sites.{Site, IsSite}
use Rattle.vw_domain.specs.Stands.{Machine}
use Rattle.vw_domain.specs.Soundness.{held_of}
use Rattle.vw_domain.specs.FormRanges.{IsForm}
use Rattle.vw_domain.proofs.Orders.{to_any, Lower}

module _ (site : Site) (laws : ValueLaws) (bounds : IsSite site) where
  pub list_valid : (stmts : List Stmt) → AllByRecursion IsLifted stmts → (s : Abstract) → IsForm site.bounds s → IsForm site.bounds (applies site stmts s)
  list_valid [] i s vs = vs
  list_valid (x ∷ xs) i s vs = list_valid xs i.1 (apply site x s) (stmt_valid site laws bounds s vs x i.0)

  pub list_mono : (stmts : List Stmt) → AllByRecursion IsLifted stmts → (s t : Abstract) → Lower s t → IsForm site.bounds s → IsForm site.bounds t → Lower (applies site stmts s) (applies site stmts t)
  list_mono [] i s t b vs vt = b
  list_mono (x ∷ xs) i s t b vs vt =
      list_mono xs i.1 (apply site x s) (apply site x t) (stmt_mono site laws bounds s t b vs vt x i.0) (stmt_valid site laws bounds s vs x i.0) (stmt_valid site laws bounds t vt x i.0)

  pub list_passes : (stmts : List Stmt) → AllByRecursion IsLifted stmts → (s t : Abstract) → Lower s t → IsForm site.bounds s → IsForm site.bounds t → PassesAll site t stmts → PassesAll site s stmts
  list_passes [] i s t b vs vt m = tt
  list_passes (x ∷ xs) i s t b vs vt m = (
    stmt_passes site laws bounds s t b vs vt x m.0,
    list_passes xs i.1 (apply site x s) (apply site x t) (stmt_mono site laws bounds s t b vs vt x i.0) (stmt_valid site laws bounds s vs x i.0) (stmt_valid site laws bounds t vt x i.0) m.1,
  )

  pub finish_valid : (s : Abstract) → IsForm site.bounds s → IsForm site.bounds (finish s)
  finish_valid s vs = write_valid site.bounds s 16 None Any offset.Unknown vs tt tt tt tt

  pub finish_mono : (s t : Abstract) → Lower s t → IsForm site.bounds s → Lower (finish s) (finish t)
  finish_mono s t b vs = write_below s t 16 None None Any Any offset.Unknown offset.Unknown b vs.itself to_any tt

-- after an instruction the state stands with any number in tmp
pub finish_stands : (top : Machine) (site : Site) (st : Abstract) (e : Environment) (compared x : ℕ)
    → Standing st top (held_of e) e.flags e.bytes compared
    → let e' = set_var e var.Tmp x in Standing (finish st) top (held_of e') e'.flags e'.bytes compared
finish_stands top site st e compared x h = write_stands top site st e compared var.Tmp None Any offset.Unknown x h tt tt (λ q g n s c. no_tag n)
