-- Tables of jumps, as compilers write them for switches: entries of 32 bits that hold signed distances from the address of
-- the table itself.
use Rattle.std.specs.Prelude.{ℕ, ◌+◌, ◌-◌, ◌*◌, ◌^◌, ℤ, pos, negsuc, ◌+ℤ◌, ◌-ℤ◌, nat_lt, if◌then◌else◌, Option, Some, None}
use Rattle.vw_bits.specs.Places.{is_among}
use Rattle.vw_image.specs.declared.word.Word.{Word}
use Rattle.vw_image.specs.declared.word.Word.TheVariants as word
use Rattle.vw_image.specs.Image.{Contents}
use Rattle.vw_image.specs.Words.{word_at}

-- a number below 2^32 as the signed one with the same 32 bits (SDM volume 1, "Signed Integers")
abbrev pub signed : ℕ → ℤ
signed n = if nat_lt n (2 ^ 31) then pos n else (pos n -ℤ pos (2 ^ 32))

-- the offset of an address in a function, by the function's entry and size; None: it is that of none of its bytes
abbrev pub offset_in : ℕ → ℕ → ℤ → Option ℕ
offset_in entry size (pos a) = if is_among entry size a 1 then Some (a - entry) else None
offset_in entry size (negsuc _) = None

-- where an entry leads that holds this word, of a table at `base`
abbrev pub leads_to : ℕ → ℕ → ℕ → Word → Option ℕ
leads_to base entry size (word.Plain n) = offset_in entry size (pos base +ℤ signed n)
leads_to base entry size (word.Based a) = None
leads_to base entry size (word.Bound n) = None
leads_to base entry size word.Mixed = None
leads_to base entry size word.Outside = None

-- The offset in a function, by its entry and size, to which entry i of the table at `base` leads: `base` and the signed
-- word that the image holds there after relocation. Sums are exact. None: the word is not a plain one, as that of an
-- import, or it leads out of the function.
unfoldable pub target : Contents → ℕ → ℕ → ℕ → ℕ → Option ℕ
target image base i entry size = leads_to base entry size (word_at image (base + 4 * i) 4)
