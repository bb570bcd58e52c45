use Rattle.std.proofs.Common.{ℕ, Option, ap, arith, unwrap_or}
use Rattle.vw_machine.proofs.Spans.{outside_of}
use Rattle.vw_machine.proofs.memory.put_below.Goals as goal

pub returns-clause-others : goal.returns-clause-others
returns-clause-others c = λ q outside. ap (λ (o : Option ℕ). unwrap_or o 0) (c.loop-q.invariant.others q (outside_of c.args.from c.args.to c.loop-q.q q (omega arith) (omega arith) c.loop-q.invariant.empty outside))
