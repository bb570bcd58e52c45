use Rattle.std.proofs.Common.{◌≡◌, ◌<◌}
use Rattle.vw_encode.specs.Order.{mode_of, scale_of}
use Rattle.vw_encode.specs.search.Normal.{Without}
use Rattle.vw_encode.proofs.search.in_memory.Given as goal

abbrev pub invariant-loop-mode : goal.invariant-loop-mode
invariant-loop-mode l = Without l.row l.insn (λ p. (p.prefix ≡ l.choice.prefix) × (p.rex ≡ l.choice.rex) × (scale_of p.modrm ≡ l.choice.scale) × (mode_of p.modrm < l.mode))
