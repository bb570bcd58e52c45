-- Numbers of a width as signed numbers, and the contrary of a condition.
use Rattle.std.specs.Prelude.{ℕ, ◌&&◌, Bool, ℤ, pos, ◌-ℤ◌, int_lt, int_le, if◌then◌else◌}
use Rattle.vw_insn.specs.declared.registers.Width.{Width}
use Rattle.vw_insn.specs.declared.operations.Cond.{Cond}
use Rattle.vw_insn.specs.declared.operations.Cond.TheVariants.{O, No, B, Ae, E, Ne, Be, A, S, Ns, P, Np, L, Ge, Le, G}
use Rattle.vw_insn.specs.Arithmetic.{modulus, top_bit, has_top_bit}

-- the signed number that a number of a width is in two's complement (SDM volume 1, 4.2.1.2)
abbrev pub signed : Width → ℕ → ℤ
signed w x = if has_top_bit w x then pos x -ℤ pos (modulus w) else pos x

-- whether a signed number has room in a width
abbrev pub has_room : Width → ℤ → Bool
has_room w z = int_le (pos 0 -ℤ pos (top_bit w)) z && int_lt z (pos (top_bit w))

-- the condition that holds where this one does not (SDM volume 1, appendix B, "EFLAGS Condition Codes")
abbrev pub contrary : Cond → Cond
contrary O = No
contrary No = O
contrary B = Ae
contrary Ae = B
contrary E = Ne
contrary Ne = E
contrary Be = A
contrary A = Be
contrary S = Ns
contrary Ns = S
contrary P = Np
contrary Np = P
contrary L = Ge
contrary Ge = L
contrary Le = G
contrary G = Le
