use Rattle.std.proofs.Common.{◌≡◌, ℕ, ◌*◌, ◌/◌, ◌%◌, ◌^◌, ◌<◌, ◌≤◌, ap, sym, subst, arith}
use Rattle.std.proofs.Math.Pow.{pow_mono}
use Rattle.std.proofs.Math.Nat.{div-eq_of_lt}
use Rattle.vw_machine.proofs.Numbers.{power}
use Rattle.vw_machine.proofs.memory.byte_of.Goals as goal

pub returns-then-k-lt16 : goal.returns-then-k-lt16
returns-then-k-lt16 c = ap (λ (d : ℕ). c.args.value / d % 256) (sym (power c.args.k))

-- a number of 128 bits has no byte from the sixteenth on
none_above : (value k : ℕ) → value < 2 ^ 128 → 16 ≤ k → value / 256 ^ k % 256 ≡ 0
none_above value k fits above =
    let far : 128 ≤ 8 * k = omega arith in
    let long : 2 ^ 128 ≤ 2 ^ (8 * k) = pow_mono far in
    let more : value < 2 ^ (8 * k) = omega (arith, long, fits) in
    let none : value / 256 ^ k ≡ 0 = div-eq_of_lt (subst (λ (x : ℕ). value < x) (sym (power k)) more) in
    ap (λ (x : ℕ). x % 256) none

pub returns-else-k-lt16 : goal.returns-else-k-lt16
returns-else-k-lt16 c = sym (none_above c.args.value c.args.k c.ranges.value.fits c.if-k-lt16.false)
