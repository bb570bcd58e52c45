-- Spans of addresses that a loop goes over.
use Rattle.std.proofs.Common.{◌≡◌, inl, inr, ℕ, ◌<◌, ◌≤◌, false, arith}
use Rattle.std.specs.Prelude.{◌&&◌, nat_le, nat_lt}
use Rattle.std.proofs.lemmas.Bool.{cases_lt}
use Rattle.std.proofs.lemmas.Bool.Decides.{nat_tests}

-- what is outside a span is outside what a loop over it has come to
pub outside_of : (from to at q : ℕ) → from ≤ at → (from ≤ to → at ≤ to) → (to < from → at ≡ from) → (nat_le from q && nat_lt q to) ≡ false → (nat_le from q && nat_lt q at) ≡ false
outside_of from to at q above below empty outside =
    elim (cases_lt to from) [
      | inl none ↦ let e = empty none in grind (arith, nat_tests)
      | inr some ↦ let b = below some in grind (arith, nat_tests)
    ]
