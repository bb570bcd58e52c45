-- What an edge of a branch tells, as the program holds it.
use Rattle.std.specs.Prelude.{◌≡◌, ◌^◌, Option, Some, None}
use Rattle.vw_insn.specs.declared.registers.Width.{Width}
use Rattle.vw_insn.specs.declared.registers.Width.TheVariants.{W64}
use Rattle.vw_domain.specs.declared.refines.Comparison.{Comparison}
use Rattle.vw_domain.specs.Branches.{Rule, IsLess}
use Rattle.vw_domain.specs.Refines.{rule_told}

-- The comparison is the rule of an edge. There is none where the edge has no rule, and where it says of a word that it is
-- below 2^64.
abbrev pub Tells : Option Comparison → Option (Width × Rule) → Type 0
Tells (Some c) rule = rule ≡ Some (rule_told c)
Tells None None = Unit {0}
Tells None (Some r) = r ≡ (W64, IsLess (2 ^ 64))
