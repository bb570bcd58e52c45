use Rattle.std.proofs.Common.{inl, inr, arith}
use Rattle.vw_machine.proofs.judging.is_callee.Goals as goal

pub returns-in-None : goal.returns-in-None
returns-in-None c = (
  (λ t. let stub = c.is_stub.ensures.0 t in (stub.0, stub.2, inr (stub.1, stub.3))),
  (λ is. elim is.2 [
    | inl f ↦ let at = is.1 in let e = f.2 in absurd (c.in-None.ensures.none f.0 f.1 (omega arith))
    | inr stub ↦ c.is_stub.ensures.1 (is.0, stub.0, is.1, stub.1)
  ]),
)
