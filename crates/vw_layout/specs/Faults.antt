-- What an error of the reader says of the rules.
use Rattle.std.specs.Prelude.{ℕ, Option, Some, None}
use Rattle.vw_bits.specs.Rules.{NamesBroken, TellsBroken}
use Rattle.vw_layout.specs.declared.faults.ModuleError.{ModuleError}
use Rattle.vw_layout.specs.declared.faults.ModuleError.TheVariants.{Malformed, Memory}

-- the rule and the offset that an error tells
abbrev pub fault_in : ModuleError → Option (ℕ × ℕ)
fault_in (Malformed rule offset) = Some (rule, offset)
fault_in (Memory _) = None

-- A fault is the first broken rule, with its offset. Want of memory says nothing.
abbrev pub Names : Option (ℕ × ℕ) → ModuleError → Type 0
Names broken e = NamesBroken broken (fault_in e)

-- the fault is of this rule, broken at its offset
abbrev pub Tells : ℕ → Option ℕ → ModuleError → Type 0
Tells number broken e = TellsBroken number broken (fault_in e)
