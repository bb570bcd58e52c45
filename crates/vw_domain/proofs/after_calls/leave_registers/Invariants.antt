use Rattle.std.specs.Prelude.{nat_lt, ◌&&◌}
use Rattle.vw_domain.specs.Writes.{is_gone}
use Rattle.vw_domain.specs.Stores.{LeavesAll}
use Rattle.vw_domain.proofs.after_calls.leave_registers.Given as goal

abbrev pub invariant-loop-i : goal.invariant-loop-i
invariant-loop-i l = LeavesAll (λ a. nat_lt a l.i && is_gone l.gone a) l.initial.classes l.classes
