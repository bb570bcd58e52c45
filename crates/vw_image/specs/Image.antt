-- The image of a file: its bytes in memory, before and after relocation (System V gABI, "Program Header",
-- "Program Loading", "Relocation"; x86-64 psABI, "Relocation Types").
use Rattle.std.specs.Prelude.{◌≡◌, ℕ, ◌+◌, ◌-◌, ◌/◌, ◌%◌, ◌^◌, Bool, ◌&&◌, nat_lt, List, None, slice_index, if◌then◌else◌}
use Rattle.std.specs.List.{find}
use Rattle.std.specs.Option.{option_map_or}
use Rattle.vw_bits.specs.Headers.{segments_of}
use Rattle.vw_bits.specs.HeaderRules.{header_fault}
use Rattle.vw_bits.specs.Places.{in_memory}
use Rattle.vw_bits.specs.declared.records.Segment.{Segment}
use Rattle.vw_dynamic.specs.Dynamic.{dynamic_fault, file_relocations, file_imports}
use Rattle.vw_dynamic.specs.declared.dynamic.Relocation.{Relocation}
use Rattle.vw_dynamic.specs.declared.dynamic.RelKind.{RelKind}
use Rattle.vw_dynamic.specs.declared.dynamic.RelKind.TheVariants.{Based, Bound}

-- what an image is made of. Its addresses count from the load address.
pub record Contents : Type 0 where
  -- the bytes of the file
  pub bytes : List ℕ
  -- its loadable segments, in the order of their program headers
  pub segments : List Segment
  -- its relocations, in their order
  pub relocations : List Relocation
  -- the names of its imports, by number
  pub imports : List (List ℕ)

-- the image of a file
unfoldable pub image_of : List ℕ → Contents
image_of bytes = record {
  bytes = bytes;
  segments = segments_of bytes;
  relocations = file_relocations bytes;
  imports = file_imports bytes;
}

-- An image of a file: rules 1 to 26 hold of its bytes, and the rest is what these give.
pub record IsImage (image : Contents) : Type 0 where
  pub headers : header_fault image.bytes ≡ None
  pub dynamic : dynamic_fault image.bytes ≡ None
  pub whole : image ≡ image_of image.bytes

-- the byte at an address of a segment: of the file, and zero past the first p_filesz
abbrev pub segment_byte : List ℕ → Segment → ℕ → ℕ
segment_byte bytes s a =
    if nat_lt (a - s.vaddr) s.filesz then slice_index bytes (s.offset + (a - s.vaddr)) else 0

-- the byte at an address before relocation: of the segment in whose memory it is, and zero where it is in
-- that of none
unfoldable pub memory_byte : List ℕ → List Segment → ℕ → ℕ
memory_byte bytes segments a = option_map_or (λ s. segment_byte bytes s a) (find (in_memory a 1) segments) 0

-- eight bytes from a place on and n bytes from address a have one in common
abbrev pub shares : ℕ → ℕ → ℕ → Bool
shares a n place = nat_lt 0 n && nat_lt a (place + 8) && nat_lt place (a + n)

-- a relocation changes one of n bytes from address a. It changes eight bytes from its place on.
abbrev pub touches : ℕ → ℕ → Relocation → Bool
touches a n r = shares a n r.place

-- the word that a relocation gives, where the image is loaded at `base`, and each import is at the address
-- that `hosts` has at its number
abbrev pub relocated_word : ℕ → (ℕ → ℕ) → RelKind → ℕ
relocated_word base hosts (Based addend) = (base + addend) % 2 ^ 64
relocated_word base hosts (Bound number) = hosts number

-- byte k of a word, the least significant first (gABI, "Data Encoding", ELFDATA2LSB)
abbrev pub byte_of : ℕ → ℕ → ℕ
byte_of word k = word / 256 ^ k % 256

-- The byte at address `base` + a after relocation: of the word that the relocation gives which changes it,
-- and else the byte before relocation, which is zero outside all segments.
unfoldable pub image_byte : Contents → ℕ → (ℕ → ℕ) → ℕ → ℕ
image_byte image base hosts a =
    option_map_or (λ r. byte_of (relocated_word base hosts r.kind) (a - r.place))
    (find (touches a 1) image.relocations)
    (memory_byte image.bytes image.segments a)
