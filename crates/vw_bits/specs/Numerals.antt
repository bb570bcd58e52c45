-- Numbers as ASCII text.
use Rattle.std.specs.Prelude.{ℕ, ◌-◌, List, ◌++◌, length, replicate, false}
use Rattle.std.specs.Fmt.{digits}

-- the hexadecimal digits of v in lower case, with zeros in front up to a length of at least `width`
unfoldable pub hex_text : ℕ → ℕ → List ℕ
hex_text v width =
    let numeral = digits 16 false v in
    replicate (width - length numeral) 48 ++ numeral
