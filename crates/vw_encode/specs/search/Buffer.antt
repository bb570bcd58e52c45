-- Bytes in a buffer of 15.
use Rattle.std.specs.Prelude.{◌≡◌, ℕ, ◌+◌, ◌≤◌, List, ◌++◌, length, take, get_or, Option, MatchOption}
use Rattle.vw_rows.specs.Numbers.{IsBytes}
use Rattle.vw_encode.specs.declared.buffer.Spelled.{Spelled}

-- the bytes of the buffer are these, and 0 behind them
pub record Holds (s : Spelled) (bytes : List ℕ) : Type 0 where
  pub taken : take s.len s.bytes ≡ bytes
  pub fits : s.len ≤ 15
  pub are_bytes : IsBytes s.bytes
  pub zeros : (i : ℕ) → s.len ≤ i → get_or s.bytes i 0 ≡ 0

-- more bytes behind those that were there, or no room for them
abbrev pub Pushed : List ℕ → List ℕ → Option Spelled → Type 0
Pushed front more result = MatchOption result (16 ≤ length front + length more) (λ s. Holds s (front ++ more))
