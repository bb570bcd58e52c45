-- Addresses at a distance.
use Rattle.std.proofs.Common.{◌≡◌, ℕ, suc, ◌+◌, ◌-◌, ◌%◌, ◌^◌, ◌<◌, ◌≤◌, arith}
use Rattle.std.specs.Prelude.{ℤ, pos, negsuc, ◌+ℤ◌, ◌≤ℤ◌}
use Rattle.std.proofs.lemmas.Int.{ints}
use Rattle.vw_insn.specs.Words.{word_of}

pub at_word : (base a : ℕ) (z : ℤ) → pos a ≡ pos base +ℤ z → a < 2 ^ 64 → base < 2 ^ 64 → (base + word_of z) % 2 ^ 64 ≡ a
at_word base a (pos n) e ha hr = let s : a ≡ base + n = omega (arith, ints) in let small : n % 2 ^ 64 ≡ n = omega arith in omega arith
at_word base a (negsuc n) e ha hr = let s : a + (n + 1) ≡ base = omega (arith, ints) in let small : n % 2 ^ 64 ≡ n = omega arith in omega arith

pub whole_address : (rsp0 : ℕ) (c : ℤ) → pos 0 ≤ℤ (pos rsp0 +ℤ c) → (a : ℕ) × (pos a ≡ pos rsp0 +ℤ c)
whole_address rsp0 (pos n) h = (rsp0 + n, omega (arith, ints))
whole_address rsp0 (negsuc n) h = (rsp0 - suc n, omega (arith, ints))
