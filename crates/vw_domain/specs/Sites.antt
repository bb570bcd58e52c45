-- What the equations of a function read of its module.
use Rattle.std.specs.Prelude.{◌≡◌, ℕ, ◌+◌, ◌^◌, ◌<◌, ◌≤◌, Bool, true, List, length}
use Rattle.vw_values.specs.Bounds.{IsBounds}

-- what a word of the image holds in every instance: a number, the load address plus a number, or something else
pub data Word : Type 0 where
  Plain : (x : ℕ) → Word
  Based : (a : ℕ) → Word
  Other : Word

-- Addresses count from the load address.
pub record Site : Type 0 where
  -- the next instruction's address
  pub next : ℕ
  -- the bounds that values of the function's states name
  pub bounds : List ℕ
  -- the address and the number of entries of each table
  pub tables : List (ℕ × ℕ)
  -- the word of so many bytes at an address
  pub word_at : ℕ → ℕ → Word
  -- whether the byte at an address may be read: it is in a segment that is loaded to be read, or in a table
  pub is_readable : ℕ → Bool

-- the ranges of what a site tells
pub record IsSite (site : Site) : Type 0 where
  pub bounds : IsBounds site.bounds
  pub few : length site.tables ≤ 64
  pub half : (a x : ℕ) → site.word_at a 4 ≡ Plain x → x < 2 ^ 32
  pub whole : (a x : ℕ) → site.word_at a 8 ≡ Plain x → x < 2 ^ 64
  pub based : (a b : ℕ) → site.word_at a 8 ≡ Based b → b < 2 ^ 64

-- each of n bytes from there may be read
abbrev pub AreReadable : Site → ℕ → ℕ → Type 0
AreReadable site a n = (i : ℕ) → i < n → site.is_readable (a + i) ≡ true
