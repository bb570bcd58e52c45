use Rattle.std.proofs.Common.{arith, ◌≡◌, ℕ, refl, subst, sym, ◌∙◌}
use Rattle.vw_domain.specs.Registers.{IsRegister}
use Rattle.vw_domain.proofs.PartChecks.{IsFront, front_step, front_row, no_front}
use Rattle.vw_domain.proofs.part_checks.row_of.Goals as goal

pub returns-then-not-is_register : goal.returns-then-not-is_register
returns-then-not-is_register c = no_front c.args.offsets.now c.args.values.now c.loop-i.i c.register_of-register.result (omega arith) (λ is. let no = c.if-not-is_register.ensures.1 is in absurd (cc)) c.register_of-register.ensures

pub loop-i-preserved : goal.loop-i-preserved
loop-i-preserved c = front_step c.args.offsets.now c.args.values.now c.loop-i.i c.loop-i.row c.of-cell.result (omega arith) c.loop-i.invariant (subst IsRegister (sym c.of-cell.ensures) (c.if-not-is_register.ensures.0 refl)) (c.of-cell.ensures ∙ c.register_of-register.ensures)

pub returns : goal.returns
returns c =
    let end : c.loop-i.i ≡ 16 = omega arith in
    front_row c.args.offsets.now c.args.values.now c.loop-i.row (omega arith) (omega arith) (subst (λ (n : ℕ). IsFront c.args.offsets.now c.args.values.now n c.loop-i.row) end c.loop-i.invariant)
