use Rattle.std.proofs.Common.{◌≡◌, List, sym, subst}
use Rattle.vw_stmt.specs.declared.statement.Stmt.{Stmt}
use Rattle.vw_lift.specs.Lifted.{lifted}
use Rattle.vw_lift.specs.Simulation.{IsRunOf}
use Rattle.vw_lift.proofs.lifting.lift.Goals as goal

pub returns-clause-effect : goal.returns-clause-effect
returns-clause-effect c =
    let list : c.add.new.self ≡ lifted c.args.insn.now = cc in
    let P : List Stmt → Type 0 = λ stmts. IsRunOf stmts c.args.insn.now in
    subst P (sym list) (c.effect_is_a_run.ensures c.args.insn.now c.requires)
