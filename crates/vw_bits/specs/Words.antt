-- Words of 64 bits.
use Rattle.std.specs.Prelude.{ℕ, ◌+◌, ◌-◌, ◌*◌, ◌/◌, ◌%◌, ◌^◌, nat_lt, if◌then◌else◌}

-- the word whose low `bytes` bytes are those of v and whose other bits equal the highest of these
-- (Intel SDM, volume 1, "Sign extension")
abbrev pub sign_extended : ℕ → ℕ → ℕ
sign_extended v bytes =
    let low = v % 256 ^ bytes in
    if nat_lt low (256 ^ bytes / 2) then low else low + (2 ^ 64 - 256 ^ bytes)

-- the number that a linear congruential generator modulo 2^64 has after x, with the multiplier of MMIX (Knuth, The Art of
-- Computer Programming, volume 2, 3.3.4)
abbrev pub next_draw : ℕ → ℕ
next_draw x = (x * 6364136223846793005 + 1442695040888963407) % 2 ^ 64
