-- Offsets and addresses, modulo 2^64.
use Rattle.std.proofs.Common.{◌≡◌, ℕ, ◌+◌, ◌-◌, ◌*◌, ◌/◌, ◌%◌, ◌^◌, ◌≤◌, arith, ◌∙◌}
use Rattle.std.specs.Prelude.{ℤ, pos, negsuc, ◌+ℤ◌, ◌-ℤ◌, nat_lt, Bool, true, false, if◌then◌else◌}
use Rattle.std.proofs.lemmas.Int.{ints}
use Rattle.std.proofs.Math.Nat.{div-add-mod}
use Rattle.vw_insn.specs.Words.{word_of}
use Rattle.vw_domain.specs.Addresses.{signed}

-- a word and an integer are one number modulo 2^64
abbrev pub IsMod : ℕ → ℤ → Type 0
IsMod x z = (m : ℕ) × (n : ℕ) × ((pos x +ℤ pos (2 ^ 64 * m)) ≡ (z +ℤ pos (2 ^ 64 * n)))

pub word_mod : (z : ℤ) → IsMod (word_of z) z
word_mod (pos k) = (k / 2 ^ 64, 0, omega (arith, ints, div-add-mod k (2 ^ 64)))
word_mod (negsuc k) = (0, k / 2 ^ 64 + 1, omega (arith, ints, div-add-mod k (2 ^ 64)))

sum_mod : (h p q wz m1 n1 m2 n2 m3 n3 : ℕ) (d z0 z : ℤ) → z ≡ z0 +ℤ d → (pos p +ℤ pos (2 ^ 64 * m3)) ≡ (z0 +ℤ pos (2 ^ 64 * n3)) → (pos q +ℤ pos (2 ^ 64 * m1)) ≡ (d +ℤ pos (2 ^ 64 * n1))
    → (pos wz +ℤ pos (2 ^ 64 * m2)) ≡ (z +ℤ pos (2 ^ 64 * n2)) → (h + p + q) % 2 ^ 64 ≡ (h + wz) % 2 ^ 64
sum_mod h p q wz m1 n1 m2 n2 m3 n3 d z0 z e a b c = omega (arith, ints)

-- the word of a sum, where z is the sum
pub sum_any : (h p q : ℕ) (z0 d z : ℤ) → z ≡ z0 +ℤ d → IsMod p z0 → IsMod q d → (h + p + q) % 2 ^ 64 ≡ (h + word_of z) % 2 ^ 64
sum_any h p q z0 d z e k l = let b = word_mod z in sum_mod h p q (word_of z) l.0 l.1 b.0 b.1 k.0 k.1 d z0 z e k.2 l.2 b.2

pub sum_words : (h p : ℕ) (d z0 : ℤ) → IsMod p z0 → (h + p + word_of d) % 2 ^ 64 ≡ (h + word_of (z0 +ℤ d)) % 2 ^ 64
sum_words h p d z0 k = let e : (z0 +ℤ d) ≡ (z0 +ℤ d) = omega (arith, ints) in sum_any h p (word_of d) z0 d (z0 +ℤ d) e k (word_mod d)

pub signed_mod : (d : ℕ) → IsMod d (signed d)
signed_mod d = by_test (nat_lt d (2 ^ 63))
  where
    by_test : (t : Bool) → IsMod d (if t then pos d else (pos d -ℤ pos (2 ^ 64)))
    by_test true = (0, 0, omega (arith, ints))
    by_test false = (0, 1, omega (arith, ints))

-- what is subtracted
pub less_mod : (b : ℕ) (z : ℤ) → b ≤ 2 ^ 64 → IsMod b z → IsMod (2 ^ 64 - b) (pos 0 -ℤ z)
less_mod b z h k = (k.1, k.0 + 1, omega (arith, ints, k.2))

-- an address at an offset, and a number further
pub offset_sum : (x rsp0 q : ℕ) (c d z : ℤ) → z ≡ c +ℤ d → x ≡ (rsp0 + word_of c) % 2 ^ 64 → IsMod q d → (x + q) % 2 ^ 64 ≡ (rsp0 + word_of z) % 2 ^ 64
offset_sum x rsp0 q c d z e k l = open_sum (rsp0 + word_of c) x q k ∙ sum_any rsp0 (word_of c) q c d z e (word_mod c) l
  where
    open_sum : (s x q : ℕ) → x ≡ s % 2 ^ 64 → (x + q) % 2 ^ 64 ≡ (s + q) % 2 ^ 64
    open_sum s x q e = omega arith
