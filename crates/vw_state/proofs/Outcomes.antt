-- What comparisons leave.
use Rattle.std.proofs.Common.{◌≡◌, ℕ, None, refl}
use Rattle.vw_insn.specs.declared.registers.Width.{Width}
use Rattle.vw_values.specs.declared.value.Value.{Value}
use Rattle.vw_values.specs.declared.value.Value.TheVariants.{Const}
use Rattle.vw_domain.specs.declared.parts.Fact.TheVariants as fact
use Rattle.vw_domain.specs.Abstract.{Abstract}
use Rattle.vw_domain.specs.Changes.{set_flags}
use Rattle.vw_domain.specs.Statements.{compared_with}

-- a comparison with what is no known number tells nothing
pub compared_none : (st : Abstract) (w : Width) (a : ℕ) (v : Value) → ((x : ℕ) → v ≡ Const x → ⊥) → set_flags st None fact.Unknown ≡ compared_with st w a v
compared_none st w a (Const x) n = absurd (n x refl)
compared_none st w a v n = refl
