use Rattle.std.proofs.Common.{◌≡◌, ◌∙◌, ℤ, pos, ◌-ℤ◌, sym, subst, rules, w64, to_z, of_z}
use Rattle.vw_stack.specs.declared.offset.Offset.{Offset}
use Rattle.vw_domain.specs.Abstract.{abstract_of}
use Rattle.vw_domain.specs.Addresses.{Frame}
use Rattle.vw_checks.specs.Accesses.{PushFailsAt, WriteFails}
use Rattle.vw_checks.specs.Checks.{IsLowestOf}
use Rattle.vw_checks.proofs.accesses.failing_push.Goals as goal

pub returns-in-Known : goal.returns-in-Known
returns-in-Known c =
    let st = abstract_of c.args.state.now in
    let held : to_z w64 (of_z w64 c.in-Known.c) ≡ c.in-Known.c = search rules in
    let down : to_z w64 (of_z w64 (to_z w64 (of_z w64 c.in-Known.c) -ℤ pos 8)) ≡ c.in-Known.c -ℤ pos 8 = search rules in
    let writes = subst (λ (x : ℤ). IsLowestOf (WriteFails st (Frame x) 8) c.failing_write.result) down c.failing_write.ensures in
    subst (λ (o : Offset). IsLowestOf (PushFailsAt st o) c.failing_write.result) (sym c.in-Known.is ∙ c.register.ensures.offset) writes
