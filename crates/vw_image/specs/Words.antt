-- What a range of an image holds.
use Rattle.std.specs.Prelude.{ℕ, Bool, not, ◌&&◌, ◌==◌, List, take, drop, Option, None, option_map, if◌then◌else◌}
use Rattle.std.specs.List.{list_any}
use Rattle.std.specs.Option.{option_map_or}
use Rattle.vw_bits.specs.Fields.{load}
use Rattle.vw_bits.specs.Headers.{is_readable}
use Rattle.vw_bits.specs.Places.{in_memory, file_offset}
use Rattle.vw_bits.specs.declared.records.Segment.{Segment}
use Rattle.vw_dynamic.specs.declared.dynamic.RelKind.{RelKind}
use Rattle.vw_dynamic.specs.declared.dynamic.RelKind.TheVariants.{Based as BasedKind, Bound as BoundKind}
use Rattle.vw_image.specs.declared.word.Word.{Word}
use Rattle.vw_image.specs.declared.word.Word.TheVariants.{Plain, Based, Bound, Mixed, Outside}
use Rattle.vw_image.specs.Image.{Contents, memory_byte, touches}
use Rattle.vw_image.specs.Index.{kind_at, bound_ones}

-- a range is in the memory of one segment with the right to read
abbrev pub in_readable : List Segment → ℕ → ℕ → Bool
in_readable segments a n = list_any (λ s. is_readable s && in_memory a n s) segments

-- the word that a relocation of a kind makes of its eight bytes
abbrev pub word_of_kind : RelKind → Word
word_of_kind (BasedKind addend) = Based addend
word_of_kind (BoundKind number) = Bound number

-- a range that no relocation of just its bytes changes
abbrev pub unrelocated_word : Contents → ℕ → ℕ → Word
unrelocated_word image a size =
    if list_any (touches a size) image.relocations then Mixed
    else (if in_readable image.segments a size then Plain (load (memory_byte image.bytes image.segments) a size) else Outside)

-- The word of `size` bytes at an address: that of the relocation that stands exactly there, where the size is
-- 8; Mixed, where a relocation changes some of its bytes otherwise; Outside, where it is not in the memory of
-- one segment with the right to read; and else the number that its bytes spell.
unfoldable pub word_at : Contents → ℕ → ℕ → Word
word_at image a size =
    option_map_or word_of_kind (if size == 8 then kind_at image.relocations a else None) (unrelocated_word image a size)

-- a range in the memory of one segment with the right to read, which no relocation changes that binds an import
unfoldable pub readable : Contents → ℕ → ℕ → Bool
readable image a n = in_readable image.segments a n && not (list_any (touches a n) (bound_ones image.relocations))

-- the bytes of the file for a range that is in the file part of one segment
unfoldable pub bytes_at : Contents → ℕ → ℕ → Option (List ℕ)
bytes_at image a n = option_map (λ at. take n (drop at image.bytes)) (file_offset image.segments a n)
