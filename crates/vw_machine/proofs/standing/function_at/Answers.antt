use Rattle.std.proofs.Common.{arith, ◌≡◌, ◌+◌}
use Rattle.std.specs.Prelude.{Contains}
use Rattle.vw_layout.specs.declared.functions.Function.{Function}
use Rattle.vw_machine.proofs.Lists.{if_none}
use Rattle.vw_machine.proofs.standing.function_at.Goals as goal

pub returns-in-Some-clause-none : goal.returns-in-Some-clause-none
returns-in-Some-clause-none c =
    if_none c.function_with_entry.result
    (λ none. λ (f : Function) (listed : Contains c.args.module.now.functions f) (e : c.args.address ≡ c.args.world.now.load + f.entry). none f listed (omega arith))
    c.function_with_entry.ensures.none
