-- What the equations of a function read of its module: the words of the image after relocation, what may be read, and
-- its tables.
use Rattle.std.specs.Prelude.{ℕ, ◌*◌, ◌%◌, ◌^◌, ◌==◌, ◌||◌, if◌then◌else◌, List, Bool}
use Rattle.std.specs.List.{list_any}
use Rattle.vw_bits.specs.Places.{is_among}
use Rattle.vw_image.specs.declared.word.Word.{Word}
use Rattle.vw_image.specs.declared.word.Word.TheVariants as word
use Rattle.vw_image.specs.Image.{Contents}
use Rattle.vw_image.specs.Words.{word_at, readable}
use Rattle.vw_domain.specs.Sites.{Site, Word as SiteWord, Plain, Based, Other}

-- what a word of the image holds in every instance; that of an import is another one in each
abbrev pub word_in : Word → SiteWord
word_in (word.Plain number) = Plain number
word_in (word.Based address) = Based (address % 2 ^ 64)
word_in (word.Bound number) = Other
word_in word.Mixed = Other
word_in word.Outside = Other

-- words have four or eight bytes
abbrev pub site_word : Contents → ℕ → ℕ → SiteWord
site_word image a n = if (n == 4) || (n == 8) then word_in (word_at image a n) else Other

-- a table begins at an address, with entries of 16 bytes, and the byte is one of theirs
abbrev pub is_in_entries : ℕ → ℕ × ℕ → Bool
is_in_entries a table = is_among table.0 (16 * table.1) a 1

-- the byte at an address may be read by instructions: it is readable and never an import's, or in a table
abbrev pub may_be_read : Contents → List (ℕ × ℕ) → ℕ → Bool
may_be_read image tables a = readable image a 1 || list_any (is_in_entries a) tables

-- The site of an instruction behind which the next one has this address, in a function whose values have these bounds.
-- The tables are given by address and number of entries.
abbrev pub site_of : Contents → List (ℕ × ℕ) → List ℕ → ℕ → Site
site_of image tables bounds next = record {
  next = next;
  bounds = bounds;
  tables = tables;
  word_at = site_word image;
  is_readable = may_be_read image tables;
}
