use Rattle.std.proofs.Common.{◌==◌}
use Rattle.vw_layout.specs.declared.functions.Function.{Function}
use Rattle.vw_machine.proofs.Lists.{is_some-position}
use Rattle.vw_machine.proofs.standing.goes_to_code.Goals as goal

pub returns-in-Inside : goal.returns-in-Inside
returns-in-Inside c = rw (c.in-Inside.is, c.is_some.ensures, c.function_at.ensures) (is_some-position (λ (f : Function). f.entry == c.in-Inside.entry) c.args.module.now.functions)
