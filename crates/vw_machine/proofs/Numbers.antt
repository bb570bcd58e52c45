-- Powers of 256.
use Rattle.std.proofs.Common.{◌≡◌, ℕ, zero, suc, ◌+◌, ◌*◌, ◌^◌, refl, sym, ap, ◌∙◌, arith}
use Rattle.std.proofs.lemmas.Nat.{pow-add}

-- byte k begins at bit 8 k
pub power : (n : ℕ) → 256 ^ n ≡ 2 ^ (8 * n)
power zero = refl
power (suc n) =
    let e : 8 * suc n ≡ 8 + 8 * n = omega arith in
    let left : 256 ^ suc n ≡ 256 * 256 ^ n = grind arith in
    let right : 2 ^ (8 + 8 * n) ≡ 2 ^ 8 * 2 ^ (8 * n) = pow-add 2 8 (8 * n) in
    left ∙ ap (λ (x : ℕ). 256 * x) (power n) ∙ sym (ap (λ (x : ℕ). 2 ^ x) e ∙ right)
