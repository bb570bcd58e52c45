use Rattle.std.proofs.Common.{◌≤◌, ◌+◌, ◌^◌, arith}
use Rattle.vw_machine.specs.Kept.{state_of}
use Rattle.vw_machine.proofs.CodeLemmas.{Laws}
use Rattle.vw_machine.proofs.DoingLemmas.{code_ends}
use Rattle.vw_machine.proofs.doing.next_address.Goals as goal

pub overflow_add-result : goal.overflow_add-result
overflow_add-result c =
    let machine = c.args.machine.now in
    let laws : Laws = record { code = c.functions_are_code.ensures; bounded = c.segments_are_bounded.ensures } in
    let ends : machine.rip + c.args.len ≤ 2 ^ 47 =
    code_ends laws c.args.module.now c.requires.whole c.segments.ensures.whole c.args.world.now c.requires.placed machine.rip (state_of machine).active c.args.insn.now c.args.len c.requires.stands in
    omega arith
