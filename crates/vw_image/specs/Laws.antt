-- What words say of the image after relocation.
use Rattle.std.specs.Prelude.{◌≡◌, ℕ, ◌+◌, ◌%◌, ◌^◌, ◌<◌, ◌⊎◌}
use Rattle.vw_bits.specs.Fields.{load}
use Rattle.vw_image.specs.declared.word.Word.{Word}
use Rattle.vw_image.specs.declared.word.Word.TheVariants.{Plain, Based, Bound, Mixed, Outside}
use Rattle.vw_image.specs.Image.{Contents, image_byte}

-- the sizes of a word, in bytes
abbrev pub IsSize : ℕ → Type 0
IsSize size = (size ≡ 1) ⊎ (size ≡ 2) ⊎ (size ≡ 4) ⊎ (size ≡ 8)

-- a number is one that a word gives, where the image is loaded at `base`, and each import is at the address
-- that `hosts` has at its number
abbrev pub Gives : ℕ → (ℕ → ℕ) → Word → ℕ → Type 0
Gives base hosts (Plain number) n = n ≡ number
Gives base hosts (Based addend) n = n ≡ (base + addend) % 2 ^ 64
Gives base hosts (Bound number) n = n ≡ hosts number
Gives base hosts Mixed n = Unit {0}
Gives base hosts Outside n = Unit {0}

-- the number that `size` bytes from an address spell after relocation
abbrev pub image_word : Contents → ℕ → (ℕ → ℕ) → ℕ → ℕ → ℕ
image_word image base hosts a size = load (image_byte image base hosts) a size

-- the number of an import that a word names is below `count`
abbrev pub IsNumbered : ℕ → Word → Type 0
IsNumbered count (Plain number) = Unit {0}
IsNumbered count (Based addend) = Unit {0}
IsNumbered count (Bound number) = number < count
IsNumbered count Mixed = Unit {0}
IsNumbered count Outside = Unit {0}
