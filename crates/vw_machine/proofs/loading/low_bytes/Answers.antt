use Rattle.std.proofs.Common.{◌≡◌, ℕ, ◌*◌, ◌<◌, ◌≤◌, ◌%◌, ◌^◌, sym, ◌∙◌, ap, arith}
use Rattle.std.proofs.Math.Pow.{pow_mono}
use Rattle.std.proofs.Math.Nat.{mod-eq_of_lt}
use Rattle.vw_machine.proofs.Numbers.{power}
use Rattle.vw_machine.proofs.loading.low_bytes.Goals as goal

pub returns-then-size-lt8 : goal.returns-then-size-lt8
returns-then-size-lt8 c =
    let size = c.args.size in
    let low : 2 ^ (8 * size) ≤ 2 ^ 56 = pow_mono {i = 8 * size} {j = 56} (omega arith) in
    let whole : 1 * 2 ^ (8 * size) % 18446744073709551616 ≡ 2 ^ (8 * size) = omega arith in
    ap (λ (d : ℕ). c.args.number % d) (whole ∙ sym (power size))

pub returns-else-size-lt8 : goal.returns-else-size-lt8
returns-else-size-lt8 c =
    let size = c.args.size in
    let high : 2 ^ 64 ≤ 2 ^ (8 * size) = pow_mono {i = 64} {j = 8 * size} (omega arith) in
    let e = power size in
    let fits : c.args.number < 256 ^ size = omega arith in
    sym (mod-eq_of_lt fits)
