-- The conditions under which an instruction jumps, moves or sets (SDM volume 1, appendix B, "EFLAGS Condition
-- Codes"; volume 2, "Jcc").
use Rattle.std.specs.Prelude.{◌||◌, not, Bool, if◌then◌else◌}
use Rattle.vw_insn.specs.declared.operations.Cond.{Cond}
use Rattle.vw_insn.specs.declared.operations.Cond.TheVariants.{O, No, B, Ae, E, Ne, Be, A, S, Ns, P, Np, L, Ge, Le, G}
use Rattle.vw_insn.specs.Words.{Flags}

-- less, of signed numbers that were compared: SF differs from OF
abbrev pub is_less : Flags → Bool
is_less f = if f.sign then not f.overflow else f.overflow

-- whether a condition holds under the flags
abbrev pub holds : Cond → Flags → Bool
holds O f = f.overflow
holds No f = not f.overflow
holds B f = f.carry
holds Ae f = not f.carry
holds E f = f.is_zero
holds Ne f = not f.is_zero
holds Be f = f.carry || f.is_zero
holds A f = not (f.carry || f.is_zero)
holds S f = f.sign
holds Ns f = not f.sign
holds P f = f.parity
holds Np f = not f.parity
holds L f = is_less f
holds Ge f = not (is_less f)
holds Le f = f.is_zero || is_less f
holds G f = not (f.is_zero || is_less f)
