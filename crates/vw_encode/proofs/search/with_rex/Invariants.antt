use Rattle.std.proofs.Common.{◌≡◌, ◌<◌, IfSome}
use Rattle.vw_encode.specs.Order.{scale_of}
use Rattle.vw_encode.specs.search.Normal.{Without}
use Rattle.vw_encode.proofs.search.with_rex.Given as goal

abbrev pub invariant-loop-scale : goal.invariant-loop-scale
invariant-loop-scale l = Without l.row l.insn (λ p. (p.prefix ≡ l.register.prefix) × (p.rex ≡ l.register.rex) × IfSome (scale_of p.modrm) (λ s. s < l.scale))
