-- What is permitted, as the tests of the code tell it.
use Rattle.std.proofs.Common.{◌≡◌, ℕ, ◌+◌, ◌-◌, ◌<◌, ◌≤◌, ◌||◌, not, Bool, true, false, refl, sym, ap, subst, arith}
use Rattle.std.specs.List.{list_any}
use Rattle.std.proofs.lemmas.Bool.{false≢true}
use Rattle.std.proofs.lemmas.Bool.Decides.{nat_tests}
use Rattle.vw_bits.specs.Places.{in_memory}
use Rattle.vw_bits.specs.declared.records.Segment.{Segment}
use Rattle.vw_image.specs.Words.{readable}
use Rattle.vw_layout.specs.Tables.{is_empty_tag}
use Rattle.vw_layout.specs.declared.layout.Module.{Module as Declared}
use Rattle.vw_machine.specs.declared.world.World.{World}
use Rattle.vw_machine.specs.World.{Range}
use Rattle.vw_machine.specs.Module.{view_of, segment_range, is_in_table}
use Rattle.vw_machine.specs.Permitted.{IsReadableAt, IsTabled, is_pointer}
use Rattle.vw_machine.specs.Found.{is_open, is_entry_to, has_entry_to}
use Rattle.vw_machine.proofs.Lists.{and_parts, and_both, any_of, one_of, Contains-map, one_mapped}

-- an address is its place from the load address on
pub is_readable : (m : Declared) (w : World) (address place : ℕ) → address ≡ w.load + place → is_open m place ≡ true → IsReadableAt (view_of m) w address
is_readable m w address place at open_byte =
    let parts = and_parts (list_any (in_memory place 1) m.image.segments) (readable m.image place 1 || list_any (is_in_table place) m.tables) open_byte in
    let found = one_of (in_memory place 1) m.image.segments parts.0 in
    let back : address - w.load ≡ place = omega arith in
    let inside = found.2 in
    let low : found.0.vaddr ≤ place = grind (arith, nat_tests, inside) in
    let high : place < found.0.vaddr + found.0.memsz = grind (arith, nat_tests, inside) in
    record {
      part = segment_range found.0;
      of_image = Contains-map segment_range m.image.segments found.0 found.1;
      inside = (omega arith, omega arith);
      may_read = subst (λ (p : ℕ). (readable m.image p 1 || list_any (is_in_table p) m.tables) ≡ true) (sym back) parts.1;
    }

in_segment : (s : Segment) (place : ℕ) → s.vaddr ≤ place → place < s.vaddr + s.memsz → in_memory place 1 s ≡ true
in_segment s place low high = grind (arith, nat_tests)

pub is_open_there : (m : Declared) (w : World) (address place : ℕ) → address ≡ w.load + place → IsReadableAt (view_of m) w address → is_open m place ≡ true
is_open_there m w address place at r =
    let found = one_mapped segment_range m.image.segments r.part r.of_image in
    let back : address - w.load ≡ place = omega arith in
    let from : found.0.vaddr ≡ r.part.from = ap (λ (p : Range). p.from) found.2 in
    let to : found.0.vaddr + found.0.memsz ≡ r.part.to = ap (λ (p : Range). p.to) found.2 in
    let low = r.inside.0 in
    let high = r.inside.1 in
    let inside : in_memory place 1 found.0 ≡ true = in_segment found.0 place (omega arith) (omega arith) in
    and_both (list_any (in_memory place 1) m.image.segments) (readable m.image place 1 || list_any (is_in_table place) m.tables)
    (any_of (in_memory place 1) m.image.segments found.0 found.1 inside)
    (subst (λ (p : ℕ). (readable m.image p 1 || list_any (is_in_table p) m.tables) ≡ true) back r.may_read)

-- below the load address is no byte of the image
pub not_below : (m : Declared) (w : World) (address : ℕ) → address < w.load → IsReadableAt (view_of m) w address → ⊥
not_below m w address below r = let low = r.inside.0 in omega arith

not_true : (b : Bool) → not b ≡ true → b ≡ false
not_true true h = absurd (false≢true h)
not_true false h = refl

true_not : (b : Bool) → b ≡ false → not b ≡ true
true_not true h = absurd (false≢true (sym h))
true_not false h = refl

pub is_tabled : (m : Declared) (w : World) (to : ℕ) → list_any (has_entry_to w to) m.tables ≡ true → IsTabled (view_of m) w to
is_tabled m w to some =
    let table = one_of (has_entry_to w to) m.tables some in
    let entry = one_of (is_entry_to w to) table.0.entries table.2 in
    let parts = and_parts (not (is_empty_tag entry.0.tag)) (is_pointer w entry.0.pointer to) entry.2 in
    record {
      table = table.0;
      declared = table.1;
      entry = entry.0;
      of_table = entry.1;
      not_empty = not_true (is_empty_tag entry.0.tag) parts.0;
      pointer = parts.1;
    }

pub tabled_there : (m : Declared) (w : World) (to : ℕ) → IsTabled (view_of m) w to → list_any (has_entry_to w to) m.tables ≡ true
tabled_there m w to is =
    any_of (has_entry_to w to) m.tables is.table is.declared
    (any_of (is_entry_to w to) is.table.entries is.entry is.of_table
    (and_both (not (is_empty_tag is.entry.tag)) (is_pointer w is.entry.pointer to) (true_not (is_empty_tag is.entry.tag) is.not_empty) is.pointer))
