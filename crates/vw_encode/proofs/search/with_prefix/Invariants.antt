use Rattle.std.proofs.Common.{◌≡◌, ◌<◌, IfSome}
use Rattle.vw_encode.specs.search.Normal.{Without}
use Rattle.vw_encode.proofs.search.with_prefix.Given as goal

abbrev pub invariant-loop-bits : goal.invariant-loop-bits
invariant-loop-bits l = Without l.row l.insn (λ p. (p.prefix ≡ l.prefix) × IfSome p.rex (λ b. b < l.bits))
