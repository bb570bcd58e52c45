-- The code of a module's functions in an instance.
use Rattle.std.proofs.Common.{◌≡◌, ℕ, zero, suc, ◌+◌, ◌-◌, ◌^◌, ◌≤◌, ◌<◌, ◌&&◌, Bool, true, false, List, [], ◌∷◌, length, take, drop, slice_index, Option, Some, None, refl, sym, ◌∙◌, ap, subst, arith}
use Rattle.std.specs.Prelude.{Contains}
use Rattle.std.specs.List.{find}
use Rattle.std.proofs.lemmas.Bool.{false≢true}
use Rattle.std.proofs.lemmas.Bool.Decides.{nat_tests}
use Rattle.std.proofs.lemmas.List.{length-drop, length-take-le}
use Rattle.vw_bits.specs.Headers.{segments_of, is_executable}
use Rattle.vw_bits.specs.HeaderRules.{header_fault}
use Rattle.vw_bits.specs.Places.{is_among, in_file_part, in_memory, file_offset}
use Rattle.vw_bits.specs.declared.records.Segment.{Segment}
use Rattle.vw_image.specs.Image.{Contents, IsImage, image_of, memory_byte, image_byte}
use Rattle.vw_image.specs.Words.{bytes_at}
use Rattle.vw_image.specs.Stubs.{in_executable}
use Rattle.vw_bits.specs.Bounds.{IsBounded, AreBounded}
use Rattle.vw_layout.specs.declared.functions.Function.{Function}
use Rattle.vw_layout.specs.declared.layout.Module.{Module as Declared}
use Rattle.vw_layout.specs.Layout.{IsModule, IsWhole, declared_functions}
use Rattle.vw_layout.specs.Laws.{IsCode}
use Rattle.vw_machine.specs.declared.world.World.{World}
use Rattle.vw_machine.specs.World.{IsLaidOut}
use Rattle.vw_machine.specs.Module.{view_of, segment_range, bytes_from}
use Rattle.vw_machine.proofs.Lists.{any_of, and_both, Contains-map}
use Rattle.vw_machine.proofs.Regions.{all_of, image_low}

-- what the crates below say of files
pub record Laws : Type 0 where
  pub code : (file : List ℕ) (f : Function) → IsModule file → Contains (declared_functions file) f → IsCode file f
  pub bounded : (bytes : List ℕ) → header_fault bytes ≡ None → AreBounded (length bytes) (segments_of bytes)

-- and of their bytes
pub record ByteLaws : Type 0 where
  pub settled : (image : Contents) → IsImage image → (a n : ℕ) → in_executable image.segments a n ≡ true → (base : ℕ) (hosts : ℕ → ℕ) (b : ℕ) → a ≤ b → b < a + n → image_byte image base hosts b ≡ memory_byte image.bytes image.segments b
  pub lent : (image : Contents) → IsImage image → (a n : ℕ) (bytes : List ℕ) → bytes_at image a n ≡ Some bytes → (k : ℕ) → k < n → slice_index bytes k ≡ memory_byte image.bytes image.segments (a + k)

-- where one passes, one is found that passes
abbrev pub IsFound : {X : Type 0} → (X → Bool) → List X → Type 0
IsFound {X} p xs = (y : X) × Contains xs y × (p y ≡ true) × (find p xs ≡ Some y)

found_first : {X : Type 0} (p : X → Bool) (y : X) (xs : List X) (passes : Bool) → p y ≡ passes → (passes ≡ false → IsFound p xs) → IsFound p (y ∷ xs)
found_first p y xs true is later = (y, (0, omega arith, refl), is, rw is refl)
found_first p y xs false is later =
    let found = later refl in (found.0, (suc found.1.0, omega (arith, found.1.1), found.1.2), found.2, rw is found.3)

pub found_of : {X : Type 0} (p : X → Bool) (xs : List X) (x : X) → Contains xs x → p x ≡ true → IsFound p xs
found_of p [] x (k, inside, is) passes = absurd (omega arith)
found_of p (y ∷ xs) x (zero, inside, is) passes = found_first p y xs true (ap p is ∙ passes) (λ e. absurd (false≢true (sym e)))
found_of p (y ∷ xs) x (suc k, inside, is) passes = found_first p y xs (p y) refl (λ e. found_of p xs x (k, omega arith, is) passes)

among : (start size a n : ℕ) → is_among start size a n ≡ true → (start ≤ a) × (a < start + size) × (a + n ≤ start + size)
among start size a n h = (grind (arith, nat_tests, h), grind (arith, nat_tests, h), grind (arith, nat_tests, h))

among_is : (start size a n : ℕ) → start ≤ a → a < start + size → a + n ≤ start + size → is_among start size a n ≡ true
among_is start size a n one two three = grind (arith, nat_tests)

-- bytes that are those of a list
pub bytes_of_list : (f : ℕ → ℕ) (a : ℕ) (code : List ℕ) (len : ℕ) → len ≤ length code → ((k : ℕ) → k < len → f (a + k) ≡ slice_index code k) → bytes_from f a len ≡ take len code
bytes_of_list f a code zero fits same = refl
bytes_of_list f a [] (suc len) fits same = absurd (omega arith)
bytes_of_list f a (b ∷ code) (suc len) fits same =
    let start : a + 0 ≡ a = omega arith in
    let first : f a ≡ b = ap f (sym start) ∙ same 0 (omega arith) in
    let rest : bytes_from f (a + 1) len ≡ take len code =
    bytes_of_list f (a + 1) code len (omega arith) (λ k inside. let at : a + 1 + k ≡ a + suc k = omega arith in ap f at ∙ same (suc k) (omega arith)) in
    rw (first, rest) refl

segments_are : (m : Declared) → IsWhole m → m.image.segments ≡ segments_of m.image.bytes
unfolding image_of
segments_are m whole = ap (λ (i : Contents). i.segments) whole.image

module _ (laws : Laws) (m : Declared) (whole : IsWhole m) (image : IsImage m.image) (f : Function) (listed : Contains m.functions f) where
  pub code_of : IsCode m.image.bytes f
  code_of = laws.code m.image.bytes f whole.rules (subst (λ (fs : List Function). Contains fs f) whole.functions listed)

  of_image : Contains m.image.segments code_of.segment
  of_image = subst (λ (s : List Segment). Contains s code_of.segment) (sym (segments_are m whole)) code_of.listed

  bounds : (s : Segment) → Contains m.image.segments s → IsBounded (length m.image.bytes) s
  bounds s inside =
      let all = laws.bounded m.image.bytes image.headers in
      all_of (IsBounded (length m.image.bytes)) (segments_of m.image.bytes) all s (subst (λ (t : List Segment). Contains t s) (segments_are m whole) inside)

  in_part : (code_of.segment.vaddr ≤ f.entry) × (f.entry + f.size ≤ code_of.segment.vaddr + code_of.segment.memsz)
  in_part =
      let s = code_of.segment in
      let part = among s.vaddr s.filesz f.entry f.size code_of.inside in
      let longer = (bounds s of_image).part in
      let high = part.2 in
      (part.0, omega arith)

  -- its end lies below the top of the address space
  pub function_ends : (w : World) → IsLaidOut (view_of m).image (view_of m).imports w → w.load + f.entry + f.size ≤ 2 ^ 47
  function_ends w laid =
      let s = code_of.segment in
      let low = in_part.0 in
      let high = in_part.1 in
      let some = code_of.some in
      let last : w.load + f.entry + f.size - 1 < 2 ^ 47 =
      image_low laid (segment_range s) (Contains-map segment_range m.image.segments s of_image) (w.load + f.entry + f.size - 1) (omega arith, omega arith) in
      omega arith

  module _ (bytes : ByteLaws) (w : World) (point : ℕ) (inside : point < f.size) where
    abbrev start : ℕ
    start = f.entry + point

    abbrev rest : ℕ
    rest = f.size - point

    -- the segment in whose file part the rest of the code is found
    found : IsFound (in_file_part start rest) m.image.segments
    found =
        let s = code_of.segment in
        let part = among s.vaddr s.filesz f.entry f.size code_of.inside in
        let one = part.0 in
        let two = part.1 in
        let three = part.2 in
        found_of (in_file_part start rest) m.image.segments s of_image (among_is s.vaddr s.filesz start rest (omega arith) (omega arith) (omega arith))

    abbrev place : ℕ
    place = found.0.offset + (start - found.0.vaddr)

    lent : bytes_at m.image start rest ≡ Some (take rest (drop place m.image.bytes))
    unfolding bytes_at file_offset
    lent = rw found.3 refl

    length-lent : length (take rest (drop place m.image.bytes)) ≡ rest
    length-lent =
        let part = among found.0.vaddr found.0.filesz start rest found.2 in
        let bound = bounds found.0 found.1 in
        let low = part.0 in
        let high = part.2 in
        let fits_file = bound.inside in
        let dropped = length-drop place m.image.bytes in
        let fits : rest ≤ length (drop place m.image.bytes) = omega (arith, dropped, low, high, fits_file) in
        length-take-le rest (drop place m.image.bytes) fits

    executable : in_executable m.image.segments start rest ≡ true
    executable =
        let s = code_of.segment in
        let low = in_part.0 in
        let high = in_part.1 in
        any_of (λ s. is_executable s && in_memory start rest s) m.image.segments s of_image
        (and_both (is_executable s) (in_memory start rest s) code_of.is_executed (among_is s.vaddr s.memsz start rest (omega arith) (omega arith) (omega arith)))

    -- no code is missing
    pub is_lent : bytes_at m.image start rest ≡ None → ⊥
    is_lent none = let some : ◌≡◌ {A = Option (List ℕ)} (Some (take rest (drop place m.image.bytes))) None = sym lent ∙ none in cc

    -- the bytes that are lent are those in memory
    pub code_holds : (code : List ℕ) → bytes_at m.image start rest ≡ Some code → (length code ≡ rest) × ((len : ℕ) → len ≤ rest → bytes_from ((view_of m).byte w) start len ≡ take len code)
    code_holds code is =
        let same : take rest (drop place m.image.bytes) ≡ code = let both : Some (take rest (drop place m.image.bytes)) ≡ Some code = sym lent ∙ is in cc in
        let long : length code ≡ rest = ap length (sym same) ∙ length-lent in (
          long,
          (λ len fits. bytes_of_list ((view_of m).byte w) start code len (omega arith) (λ k few.
              bytes.settled m.image image start rest executable w.load (slice_index w.hosts) (start + k) (omega arith) (omega arith)
              ∙ sym (bytes.lent m.image image start rest code is k (omega arith)))),
        )
