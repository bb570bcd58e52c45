-- Stubs: FF /4 with mod 0 and base 5 is JMP [rip + disp32], F2 in front makes it a bound-checked one, and
-- F3 0F 1E FA is ENDBR64 (Intel SDM, volume 2, "JMP", "ENDBR64", and 2.2.1.6, "RIP-Relative Addressing";
-- volume 1, 16.5.3.2, the BND prefix).
use Rattle.std.specs.Prelude.{ℕ, ◌+◌, ◌%◌, ◌^◌, ◌<◌, Bool, true, ◌&&◌, ◌==◌, List, [], ◌∷◌, length, Option, Some, None, option_map, option_and_then}
use Rattle.std.specs.List.{find, list_any}
use Rattle.vw_bits.specs.Fields.{load}
use Rattle.vw_bits.specs.Words.{sign_extended}
use Rattle.vw_bits.specs.Headers.{is_executable}
use Rattle.vw_bits.specs.Places.{in_memory}
use Rattle.vw_bits.specs.declared.records.Segment.{Segment}
use Rattle.vw_image.specs.declared.word.Word.{Word}
use Rattle.vw_image.specs.declared.word.Word.TheVariants.{Plain, Based, Bound, Mixed, Outside}
use Rattle.vw_image.specs.declared.stub.Stub.{Stub}
use Rattle.vw_image.specs.declared.stub.StubTo.{StubTo}
use Rattle.vw_image.specs.declared.stub.StubTo.TheVariants.{Import, Inside}
use Rattle.vw_image.specs.Image.{Contents, memory_byte}
use Rattle.vw_image.specs.Words.{word_at}

-- what stands before the displacement: the jump; ENDBR64 and the jump; ENDBR64 and the bound-checked jump
abbrev pub opcodes : List (List ℕ)
opcodes =
    (0xFF ∷ 0x25 ∷ [])
    ∷ (0xF3 ∷ 0x0F ∷ 0x1E ∷ 0xFA ∷ 0xFF ∷ 0x25 ∷ [])
    ∷ (0xF3 ∷ 0x0F ∷ 0x1E ∷ 0xFA ∷ 0xF2 ∷ 0xFF ∷ 0x25 ∷ [])
    ∷ []

-- the bytes from an address on are these
abbrev pub spells : (ℕ → ℕ) → ℕ → List ℕ → Bool
spells memory a [] = true
spells memory a (b ∷ more) = memory a == b && spells memory (a + 1) more

-- a range is in the memory of one segment with the right to execute
abbrev pub in_executable : List Segment → ℕ → ℕ → Bool
in_executable segments a n = list_any (λ s. is_executable s && in_memory a n s) segments

-- an opcode and the four bytes of its displacement are in executable memory
unfoldable pub stands_at : List ℕ → List Segment → ℕ → List ℕ → Bool
stands_at bytes segments a opcode =
    in_executable segments a (length opcode + 4) && spells (memory_byte bytes segments) a opcode

-- The address of the word through which such bytes jump: the displacement, signed, counts from the next
-- instruction, modulo 2^64.
unfoldable pub slot_behind : List ℕ → List Segment → ℕ → List ℕ → ℕ
slot_behind bytes segments a opcode =
    let next = a + length opcode + 4 in
    (next + sign_extended (load (memory_byte bytes segments) (a + length opcode) 4) 4) % 2 ^ 64

-- the address of the word through which the bytes of a stub at an address jump; `None` where no such bytes
-- stand there
unfoldable pub slot_at : List ℕ → List Segment → ℕ → Option ℕ
slot_at bytes segments a = option_map (slot_behind bytes segments a) (find (stands_at bytes segments a) opcodes)

-- The stub whose slot holds this word. There is none where the word is neither an import's address nor one that
-- counts from the load address.
abbrev pub stub_to : ℕ → Word → Option Stub
stub_to slot (Plain number) = None
stub_to slot (Based address) = Some (record { slot = slot; to = Inside address })
stub_to slot (Bound number) = Some (record { slot = slot; to = Import number })
stub_to slot Mixed = None
stub_to slot Outside = None

-- the stub at an address
unfoldable pub stub_at : Contents → ℕ → Option Stub
stub_at image a = option_and_then (λ slot. stub_to slot (word_at image slot 8)) (slot_at image.bytes image.segments a)

-- the number of an import to which a stub goes is below `count`
abbrev pub IsBound : ℕ → StubTo → Type 0
IsBound count (Import number) = number < count
IsBound count (Inside address) = Unit {0}
