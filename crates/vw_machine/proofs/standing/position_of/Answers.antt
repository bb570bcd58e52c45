use Rattle.std.proofs.Common.{◌≡◌, ℕ, ◌+◌, ◌-◌, subst, arith}
use Rattle.vw_machine.specs.Module.{view_of}
use Rattle.vw_machine.specs.Kept.{activation_of}
use Rattle.vw_machine.specs.Found.{IsPositionOf}
use Rattle.vw_machine.proofs.standing.position_of.Goals as goal

pub returns : goal.returns
returns c =
    let at : c.args.top.now.entry + (c.args.rip - c.args.top.now.entry) ≡ c.args.rip = omega arith in
    subst (λ (r : ℕ). IsPositionOf (view_of c.args.module.now) c.args.world.now (activation_of c.args.top.now) r c.spelled_in.result) at c.spelled_in.ensures
