-- Stubs and the words in their slots.
use Rattle.std.proofs.Common.{◌≡◌, ℕ, zero, suc, ◌^◌, ◌<◌, Bool, true, false, List, [], ◌∷◌, slice_index, Option, Some, None, refl, sym, ◌∙◌, ap, arith, lit<}
use Rattle.std.specs.Prelude.{option_and_then, if◌then◌else◌}
use Rattle.std.specs.List.{AllByRecursion}
use Rattle.vw_image.specs.declared.word.Word.{Word}
use Rattle.vw_image.specs.declared.word.Word.TheVariants.{Plain, Based, Bound, Mixed, Outside}
use Rattle.vw_image.specs.declared.stub.Stub.{Stub}
use Rattle.vw_image.specs.declared.stub.StubTo.{StubTo}
use Rattle.vw_image.specs.declared.stub.StubTo.TheVariants.{Import, Inside}
use Rattle.vw_image.specs.Image.{Contents}
use Rattle.vw_image.specs.Words.{word_at}
use Rattle.vw_image.specs.Stubs.{stub_at, stub_to, slot_at}
use Rattle.vw_layout.specs.declared.functions.Function.{Function}
use Rattle.vw_layout.specs.Calls.{is_destination, module_stub}
use Rattle.vw_machine.specs.declared.world.World.{World}
use Rattle.vw_machine.specs.World.{Range, IsHostAddress}

-- the word in the slot of a stub that goes there
abbrev pub word_to : StubTo → Word
word_to (Import number) = Bound number
word_to (Inside place) = Based place

by_word : (slot : ℕ) (word : Word) (stub : Stub) → stub_to slot word ≡ Some stub → (stub.slot ≡ slot) × (word ≡ word_to stub.to)
by_word slot (Plain number) stub is = absurd (let none : ◌≡◌ {A = Option Stub} None (Some stub) = is in cc)
by_word slot (Based address) stub is =
    let one : record { slot = slot; to = Inside address } ≡ stub = cc in
    (sym (ap (λ (s : Stub). s.slot) one), ap (λ (s : Stub). word_to s.to) one)
by_word slot (Bound number) stub is =
    let one : record { slot = slot; to = Import number } ≡ stub = cc in
    (sym (ap (λ (s : Stub). s.slot) one), ap (λ (s : Stub). word_to s.to) one)
by_word slot Mixed stub is = absurd (let none : ◌≡◌ {A = Option Stub} None (Some stub) = is in cc)
by_word slot Outside stub is = absurd (let none : ◌≡◌ {A = Option Stub} None (Some stub) = is in cc)

by_slot : (image : Contents) (slot : Option ℕ) (stub : Stub) → option_and_then (λ s. stub_to s (word_at image s 8)) slot ≡ Some stub → word_at image stub.slot 8 ≡ word_to stub.to
by_slot image None stub is = absurd (let none : ◌≡◌ {A = Option Stub} None (Some stub) = is in cc)
by_slot image (Some slot) stub is =
    let found = by_word slot (word_at image slot 8) stub is in
    ap (λ (s : ℕ). word_at image s 8) found.0 ∙ found.1

in_image : (image : Contents) (place : ℕ) (stub : Stub) → stub_at image place ≡ Some stub → word_at image stub.slot 8 ≡ word_to stub.to
unfolding stub_at
in_image image place stub is = by_slot image (slot_at image.bytes image.segments place) stub is

kept : (functions : List Function) (found stub : Stub) (goes : Bool) → is_destination functions found.to ≡ goes → (if is_destination functions found.to then Some found else None) ≡ Some stub → found ≡ stub
kept functions found stub true goes is = let same : Some found ≡ Some stub = rw goes at is in cc
kept functions found stub false goes is = absurd (let none : ◌≡◌ {A = Option Stub} None (Some stub) = rw goes at is in cc)

by_stub : (image : Contents) (place : ℕ) (functions : List Function) (found : Option Stub) (stub : Stub) → stub_at image place ≡ found → option_and_then (λ s. if is_destination functions s.to then Some s else None) found ≡ Some stub → word_at image stub.slot 8 ≡ word_to stub.to
by_stub image place functions None stub at is = absurd (let none : ◌≡◌ {A = Option Stub} None (Some stub) = is in cc)
by_stub image place functions (Some found) stub at is =
    in_image image place stub (at ∙ ap Some (kept functions found stub (is_destination functions found.to) refl is))

-- the word in the slot of a stub of the module
pub word_in_slot : (image : Contents) (place : ℕ) (functions : List Function) (stub : Stub) → module_stub image functions place ≡ Some stub → word_at image stub.slot 8 ≡ word_to stub.to
unfolding module_stub
word_in_slot image place functions stub is = by_stub image place functions (stub_at image place) stub refl is

-- the host's addresses are words
pub hosts_fit : (w : World) (image : List Range) (hosts : List ℕ) → AllByRecursion (IsHostAddress w image) hosts → (number : ℕ) → slice_index hosts number < 2 ^ 64
hosts_fit w image [] all number = lit< tt
hosts_fit w image (host ∷ hosts) all zero = let low = all.0.0 in omega arith
hosts_fit w image (host ∷ hosts) all (suc number) = hosts_fit w image hosts all.1 number
