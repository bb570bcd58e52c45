-- A number read at the front of what is left of a byte string is the field there.
use Rattle.std.proofs.Common.{◌≡◌, ℕ, suc, zero, ◌+◌, List, drop, refl, arith, slice_index}
use Rattle.std.proofs.lemmas.List.{get_or-drop}
use Rattle.byteorder.specs.Endian.{little_from, little_number}
use Rattle.vw_bits.specs.Fields.{load, field}

load_drop : (xs : List ℕ) (at i j n : ℕ) → j ≡ at + i → little_from i n (drop at xs) ≡ load (slice_index xs) j n
load_drop xs at i j zero e = refl
load_drop xs at i j (suc n) e =
    let next : j + 1 ≡ at + suc i = omega arith in
    rw (load_drop xs at (suc i) (j + 1) n next, get_or-drop at xs i 0, e) refl

pub field_at : (xs : List ℕ) (at n : ℕ) → little_number n (drop at xs) ≡ field xs at n
unfolding field
field_at xs at n = load_drop xs at 0 at n (omega arith)
