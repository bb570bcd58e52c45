use Rattle.std.proofs.Common.{◌≡◌, ◌∙◌, ◌-◌, ◌++◌, ℕ, List, length, replicate, false}
use Rattle.std.specs.Fmt.{digits}
use Rattle.vw_bits.specs.Numerals.{hex_text}
use Rattle.vw_bits.proofs.text.padded_hex.Goals as goal

joined : (all front numeral : List ℕ) (v width missing : ℕ) → all ≡ front ++ numeral → front ≡ replicate missing 48 → missing ≡ width - length numeral → numeral ≡ digits 16 false v → all ≡ hex_text v width
unfolding hex_text
joined all front numeral v width missing whole padding count is = rw (whole, padding, count, is)

pub returns : goal.returns
returns c =
    joined _ c.in_ok-padded.padded.items c.as_bytes-digits.result.now c.args.v c.args.width c.saturating_sub-missing.result
    c.in_ok-extend_from_slice.ensures.items (c.in_ok-padded.ensures.items_if_clones_equal (λ y same. same)) (c.saturating_sub-missing.ensures) (c.as_bytes-digits.ensures.value ∙ c.in_ok-numeral.ensures)
