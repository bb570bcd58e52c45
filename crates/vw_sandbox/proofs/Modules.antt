-- From the rules of a module to the code that its functions hold in every instance.
use Rattle.std.proofs.Common.{◌≡◌, ℕ, zero, suc, ◌+◌, ◌-◌, ◌^◌, ◌≤◌, ◌<◌, ◌&&◌, true, List, [], ◌∷◌, length, get_or, take, drop, Option, Some, None, slice_index, refl, sym, ◌∙◌, arith, lit<}
use Rattle.std.specs.Prelude.{Contains}
use Rattle.std.specs.Option.{option_or}
use Rattle.std.proofs.lemmas.Bool.Decides.{nat_tests}
use Rattle.std.proofs.lemmas.List.{drop_more}
use Rattle.vw_bits.specs.Headers.{segments_of, is_executable}
use Rattle.vw_bits.specs.HeaderRules.{header_fault}
use Rattle.vw_bits.specs.Places.{is_among, in_file_part, in_memory, file_offset}
use Rattle.vw_bits.specs.declared.records.Segment.{Segment}
use Rattle.vw_dynamic.specs.Dynamic.{dynamic_fault}
use Rattle.vw_image.specs.Image.{Contents, IsImage, image_of, memory_byte, image_byte}
use Rattle.vw_image.specs.Words.{bytes_at}
use Rattle.vw_image.specs.Stubs.{in_executable}
use Rattle.vw_bits.specs.Bounds.{IsBounded, AreBounded}
use Rattle.vw_rows.specs.Numbers.{IsBytes}
use Rattle.vw_layout.specs.declared.functions.Function.{Function}
use Rattle.vw_layout.specs.Layout.{module_fault, layout_fault, IsModule, declared_functions}
use Rattle.vw_layout.specs.Laws.{IsCode}
use Rattle.vw_state.specs.Code.{code_at}
use Rattle.vw_machine.specs.declared.world.World.{World}
use Rattle.vw_machine.specs.World.{Range}
use Rattle.vw_machine.specs.Module.{ModuleView, module_of, bytes_from, segment_range}
use Rattle.vw_machine.proofs.CodeLemmas.{IsFound, found_of}
use Rattle.vw_machine.proofs.Lists.{any_of, and_both, Contains-map}
use Rattle.vw_sandbox.specs.Gathered.{FileLaws}
use Rattle.vw_machine.proofs.Regions.{all_of}

both_none : {A : Type 0} (a b : Option A) → option_or a b ≡ None → (a ≡ None) × (b ≡ None)
both_none None b none = (refl, none)
both_none (Some x) b none = cc

pub headers_hold : (file : List ℕ) → IsModule file → (header_fault file ≡ None) × (dynamic_fault file ≡ None)
unfolding module_fault
headers_hold file is =
    let first = both_none (header_fault file) (option_or (dynamic_fault file) (layout_fault file)) is in
    (first.0, (both_none (dynamic_fault file) (layout_fault file) first.1).0)

pub is_image : (file : List ℕ) → IsModule file → IsImage (image_of file)
unfolding image_of
is_image file is = record { headers = (headers_hold file is).0; dynamic = (headers_hold file is).1; whole = refl }

among : (start size a n : ℕ) → is_among start size a n ≡ true → (start ≤ a) × (a < start + size) × (a + n ≤ start + size)
among start size a n h = (grind (arith, nat_tests, h), grind (arith, nat_tests, h), grind (arith, nat_tests, h))

among_is : (start size a n : ℕ) → start ≤ a → a < start + size → a + n ≤ start + size → is_among start size a n ≡ true
among_is start size a n one two three = grind (arith, nat_tests)

pub IsBytes-drop : (n : ℕ) (bytes : List ℕ) → IsBytes bytes → IsBytes (drop n bytes)
IsBytes-drop zero bytes are i = are i
IsBytes-drop (suc n) [] are i = are i
IsBytes-drop (suc n) (b ∷ bytes) are i = IsBytes-drop n bytes (λ k. are (suc k)) i

IsBytes-take : (n : ℕ) (bytes : List ℕ) → IsBytes bytes → IsBytes (take n bytes)
IsBytes-take zero bytes are i = lit< tt
IsBytes-take (suc n) [] are i = are i
IsBytes-take (suc n) (b ∷ bytes) are zero = are 0
IsBytes-take (suc n) (b ∷ bytes) are (suc i) = IsBytes-take n bytes (λ k. are (suc k)) i

-- The bytes of a function in every instance are this code, and it lies in a part of the image.
pub record HoldsCode (m : ModuleView) (f : Function) (code : List ℕ) : Type 0 where
  pub listed : Contains m.functions f
  pub sized : f.size ≡ length code
  pub some : 1 ≤ length code
  pub part : Range
  pub of_image : Contains m.image part
  pub part_low : part.from ≤ f.entry
  pub part_high : f.entry + f.size ≤ part.to
  pub byte : (w : World) (k : ℕ) → k < length code → m.byte w (f.entry + k) ≡ get_or code k 0

-- bytes of the image are those of the code
pub code_bytes : {m : ModuleView} {f : Function} {code : List ℕ} (held : HoldsCode m f code) (w : World) (point len : ℕ) → point + len ≤ length code → bytes_from (m.byte w) (f.entry + point) len ≡ take len (drop point code)
code_bytes held w point zero inside = refl
code_bytes {m} {f} {code} held w point (suc len) inside =
    let here : point < length code = omega arith in
    let next : (f.entry + point) + 1 ≡ f.entry + (point + 1) = omega arith in
    rw (drop_more code point 0 here, held.byte w point here, next, code_bytes held w (point + 1) len (omega arith)) refl

module _ (laws : FileLaws) (file : List ℕ) (is : IsModule file) (f : Function) (listed : Contains (declared_functions file) f) where
  code : IsCode file f
  code = laws.code file f is listed

  bounds : (s : Segment) → Contains (segments_of file) s → IsBounded (length file) s
  bounds s of_file = all_of (IsBounded (length file)) (segments_of file) (laws.bounded file (headers_hold file is).0) s of_file

  -- the segment in whose file part the code is found
  found : IsFound (in_file_part f.entry f.size) (segments_of file)
  found = found_of (in_file_part f.entry f.size) (segments_of file) code.segment code.listed code.inside

  place : ℕ
  place = found.0.offset + (f.entry - found.0.vaddr)

  placed : file_offset (segments_of file) f.entry f.size ≡ Some place
  unfolding file_offset place
  placed = rw found.3 refl

  lent_code : bytes_at (image_of file) f.entry f.size ≡ Some (code_at (image_of file) f.entry f.size)
  unfolding image_of bytes_at code_at
  lent_code = rw placed refl

  length-code : length (code_at (image_of file) f.entry f.size) ≡ f.size
  length-code = laws.sized file f is listed

  pub are_bytes : IsBytes file → IsBytes (code_at (image_of file) f.entry f.size)
  unfolding image_of bytes_at code_at
  are_bytes bytes = rw placed (IsBytes-take f.size (drop place file) (IsBytes-drop place file bytes))

  -- the code lies in the memory of its segment
  in_part : in_memory f.entry f.size code.segment ≡ true
  in_part =
      let s = code.segment in
      let part = among s.vaddr s.filesz f.entry f.size code.inside in
      let bound = bounds s code.listed in
      let one = part.0 in
      let two = part.1 in
      let three = part.2 in
      let longer = bound.part in
      among_is s.vaddr s.memsz f.entry f.size one (omega arith) (omega arith)

  -- and this ends at or before 2^31
  pub ends_low : f.entry + f.size ≤ 2 ^ 31
  ends_low =
      let part = among code.segment.vaddr code.segment.memsz f.entry f.size in_part in
      let high = part.2 in
      let below = (bounds code.segment code.listed).below in
      omega (arith, high, below)

  executable : in_executable (segments_of file) f.entry f.size ≡ true
  executable = any_of (λ s. is_executable s && in_memory f.entry f.size s) (segments_of file) code.segment code.listed (and_both (is_executable code.segment) (in_memory f.entry f.size code.segment) code.is_executed in_part)

  byte_of_code : (w : World) (k : ℕ) → k < length (code_at (image_of file) f.entry f.size) → (module_of file).byte w (f.entry + k) ≡ get_or (code_at (image_of file) f.entry f.size) k 0
  unfolding module_of image_of
  byte_of_code w k inside =
      let few : k < f.size = omega (arith, inside, length-code) in
      laws.settled (image_of file) (is_image file is) f.entry f.size executable w.load (slice_index w.hosts) (f.entry + k) (omega arith) (omega arith)
      ∙ sym (laws.lent (image_of file) (is_image file is) f.entry f.size (code_at (image_of file) f.entry f.size) lent_code k few)

  pub holds_code : HoldsCode (module_of file) f (code_at (image_of file) f.entry f.size)
  unfolding module_of image_of
  holds_code =
      let s = code.segment in
      let part = among s.vaddr s.memsz f.entry f.size in_part in
      record {
        listed = listed;
        sized = sym length-code;
        some = omega (arith, length-code, code.some);
        part = segment_range s;
        of_image = Contains-map segment_range (segments_of file) s code.listed;
        part_low = part.0;
        part_high = part.2;
        byte = byte_of_code;
      }
