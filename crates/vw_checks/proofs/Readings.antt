-- What may be read of an image.
use Rattle.std.proofs.Common.{◌≡◌, ◌↔◌, ℕ, ◌+◌, ◌-◌, ◌*◌, ◌^◌, ◌<◌, ◌≤◌, Bool, true, false, not, ◌&&◌, ◌||◌, List, [], ◌∷◌, length, None, refl, sym, ◌∙◌, ap, subst, arith}
use Rattle.std.specs.List.{list_any}
use Rattle.std.specs.Prelude.{nat_lt}
use Rattle.std.proofs.lemmas.Bool.Decides.{nat_tests}
use Rattle.vw_bits.specs.HeaderRules.{header_fault}
use Rattle.vw_bits.specs.Headers.{is_readable, segments_of}
use Rattle.vw_bits.specs.Places.{is_among, in_memory}
use Rattle.vw_bits.specs.declared.records.Segment.{Segment}
use Rattle.vw_dynamic.specs.declared.dynamic.Relocation.{Relocation}
use Rattle.vw_bits.specs.Bounds.{AreBounded}
use Rattle.vw_image.specs.Image.{Contents, image_of, IsImage, shares, touches}
use Rattle.vw_image.specs.Index.{bound_ones}
use Rattle.vw_image.specs.Words.{in_readable, readable}
use Rattle.vw_domain.specs.Addresses.{Address, Frame, Heap, Globals, Image, Range, Entry, Unknown}
use Rattle.vw_domain.specs.Checks.{ReadsInside}
use Rattle.vw_domain.specs.Sites.{Site, AreReadable}
use Rattle.vw_state.specs.Context.{Context, site_at}
use Rattle.vw_state.specs.Sites.{site_of}

-- ---- tests

or_step : (x y x' y' : Bool) → (x ≡ true → x' ≡ true) → (y ≡ true → y' ≡ true) → (x || y) ≡ true → (x' || y') ≡ true
or_step true y x' y' first second is = rw (first refl) refl
or_step false y true y' first second is = refl
or_step false y false y' first second is = second is

and_step : (x y x' y' : Bool) → (x ≡ true → x' ≡ true) → (y ≡ true → y' ≡ true) → (x && y) ≡ true → (x' && y') ≡ true
and_step true y x' y' first second is = rw (first refl) (second is)
and_step false y x' y' first second is = absurd cc

not_step : (x y : Bool) → (y ≡ true → x ≡ true) → not x ≡ true → not y ≡ true
not_step x true back is = let same : x ≡ true = back refl in absurd cc
not_step x false back is = refl

-- ---- parts of a range

among_part : (start size a n b : ℕ) → a ≤ b → b < a + n → is_among start size a n ≡ true → is_among start size b 1 ≡ true
among_part start size a n b low high is = grind (arith, nat_tests)

shares_part : (place a n b : ℕ) → a ≤ b → b < a + n → shares b 1 place ≡ true → shares a n place ≡ true
shares_part place a n b low high is = grind (arith, nat_tests)

in_part : (a n b : ℕ) → a ≤ b → b < a + n → (segments : List Segment) → in_readable segments a n ≡ true → in_readable segments b 1 ≡ true
in_part a n b low high [] is = is
in_part a n b low high (s ∷ rest) is =
    or_step (is_readable s && in_memory a n s) (in_readable rest a n) (is_readable s && in_memory b 1 s) (in_readable rest b 1)
    (and_step (is_readable s) (in_memory a n s) (is_readable s) (in_memory b 1 s) (λ e. e) (among_part s.vaddr s.memsz a n b low high)) (in_part a n b low high rest) is

touched_part : (a n b : ℕ) → a ≤ b → b < a + n → (relocations : List Relocation) → list_any (touches b 1) relocations ≡ true → list_any (touches a n) relocations ≡ true
touched_part a n b low high [] is = is
touched_part a n b low high (r ∷ rest) is =
    or_step (touches b 1 r) (list_any (touches b 1) rest) (touches a n r) (list_any (touches a n) rest) (shares_part r.place a n b low high) (touched_part a n b low high rest) is

-- each byte of a readable range is readable
pub part_readable : (image : Contents) (a n b : ℕ) → a ≤ b → b < a + n → readable image a n ≡ true → readable image b 1 ≡ true
unfolding readable
part_readable image a n b low high is =
    and_step (in_readable image.segments a n) (not (list_any (touches a n) (bound_ones image.relocations))) (in_readable image.segments b 1) (not (list_any (touches b 1) (bound_ones image.relocations)))
    (in_part a n b low high image.segments)
    (not_step (list_any (touches a n) (bound_ones image.relocations)) (list_any (touches b 1) (bound_ones image.relocations)) (touched_part a n b low high (bound_ones image.relocations))) is

-- ---- no memory is at 2^64 or above

far_off : (start size a n : ℕ) → start + size < a + n → is_among start size a n ≡ false
far_off start size a n far = grind (arith, nat_tests)

and_false : (x y : Bool) → y ≡ false → (x && y) ≡ false
and_false true y is = is
and_false false y is = refl

none_holds : (len a n : ℕ) → 2 ^ 64 ≤ a + n → (segments : List Segment) → AreBounded len segments → in_readable segments a n ≡ false
none_holds len a n far [] all = refl
none_holds len a n far (s ∷ rest) all =
    let low : s.vaddr + s.memsz ≤ 2 ^ 31 = all.0.below in
    let away : (is_readable s && in_memory a n s) ≡ false = and_false (is_readable s) (in_memory a n s) (far_off s.vaddr s.memsz a n (omega (arith, low, far))) in
    rw away (none_holds len a n far rest all.1)

of_file : (bytes : List ℕ) → (image_of bytes).segments ≡ segments_of bytes
unfolding image_of
of_file bytes = refl

false_and : (x y : Bool) → x ≡ false → false ≡ (x && y)
false_and true y is = absurd cc
false_and false y is = refl

pub nothing_beyond : (image : Contents) → IsImage image → ((bytes : List ℕ) → header_fault bytes ≡ None → AreBounded (length bytes) (segments_of bytes)) → (a n : ℕ) → 2 ^ 64 ≤ a + n → false ≡ readable image a n
unfolding readable
nothing_beyond image is bounded a n far =
    let segments : image.segments ≡ segments_of image.bytes = ap (λ (i : Contents). i.segments) is.whole ∙ of_file image.bytes in
    let all : AreBounded (length image.bytes) image.segments = subst (λ (ss : List Segment). AreBounded (length image.bytes) ss) (sym segments) (bounded image.bytes is.headers) in
    false_and (in_readable image.segments a n) (not (list_any (touches a n) (bound_ones image.relocations))) (none_holds (length image.bytes) a n far image.segments all)

-- ---- ranges of addresses

pub halves : (at s h k : ℕ) → h ≤ k → at + s * h + s * (k - h) ≡ at + s * k
halves at s h k few =
    let e : h + (k - h) ≡ k = omega (arith, few) in
    let out : at + s * h + s * (k - h) ≡ at + s * (h + (k - h)) = omega arith in
    out ∙ ap (λ (x : ℕ). at + s * x) e

module _ (site : Site) (size s : ℕ) where
  abbrev pub AllRead : ℕ → ℕ → Type 0
  AllRead at k = (i : ℕ) → i < k → AreReadable site (at + s * i) size

  pub none_read : (at : ℕ) → AllRead at 0
  none_read at i less = absurd (omega (arith, less))

  pub one_read : (at : ℕ) → AreReadable site at size → AllRead at 1
  one_read at read i less = let same : at ≡ at + s * i = by i (omega (arith, less)) in subst (λ (a : ℕ). AreReadable site a size) same read
    where
      by : (i : ℕ) → i ≡ 0 → at ≡ at + s * i
      by i e = rw e (omega arith)

  pub read_one : (at : ℕ) → AllRead at 1 → AreReadable site at size
  read_one at all = let same : at + s * 0 ≡ at = omega arith in subst (λ (a : ℕ). AreReadable site a size) same (all 0 (omega arith))

  pub lower_read : (at h k : ℕ) → h ≤ k → AllRead at k → AllRead at h
  lower_read at h k few all i less = all i (omega (arith, few, less))

  pub upper_read : (at h k : ℕ) → h ≤ k → AllRead at k → AllRead (at + s * h) (k - h)
  upper_read at h k few all i less =
      let same : at + s * (h + i) ≡ at + s * h + s * i = omega arith in
      subst (λ (a : ℕ). AreReadable site a size) same (all (h + i) (omega (arith, few, less)))

  pub both_read : (at h k : ℕ) → AllRead at h → AllRead (at + s * h) (k - h) → AllRead at k
  both_read at h k first second i less = by (nat_lt i h) refl
    where
      beyond : h ≤ i → AreReadable site (at + s * i) size
      beyond over =
          let d : ℕ = i - h in
          let e : h + d ≡ i = omega (arith, over) in
          let same : at + s * h + s * d ≡ at + s * (h + d) = omega arith in
          let moved : at + s * (h + d) ≡ at + s * i = ap (λ (x : ℕ). at + s * x) e in
          subst (λ (a : ℕ). AreReadable site a size) (same ∙ moved) (second d (omega (arith, over, less)))

      by : (t : Bool) → nat_lt i h ≡ t → AreReadable site (at + s * i) size
      by true e = first i (grind (arith, nat_tests))
      by false e = beyond (grind (arith, nat_tests))

-- all bytes from the first to the last may be read
pub whole_read : (image : Contents) (tables : List (ℕ × ℕ)) (size s at k : ℕ) → readable image at (s * k + size) ≡ true → AllRead (site_of image tables [] 0) size s at (k + 1)
whole_read image tables size s at k is i less j few =
    let first : readable image (at + s * i + j) 1 ≡ true = part_readable image at (s * k + size) (at + s * i + j) (omega arith) (inside (k - i) (omega (arith, less))) is in
    rw first refl
  where
    inside : (d : ℕ) → i + d ≡ k → at + s * i + j < at + (s * k + size)
    inside d e =
        let more : s * (i + d) ≡ s * k = ap (λ (x : ℕ). s * x) e in
        let out : s * (i + d) ≡ s * i + s * d = omega arith in
        omega (arith, more, out, few)

-- ---- what may be read is a matter of the image and the tables

to_site : (image : Contents) (tables : List (ℕ × ℕ)) (bounds : List ℕ) (next n : ℕ) (a : Address) → ReadsInside (site_of image tables [] 0) a n ↔ ReadsInside (site_of image tables bounds next) a n
to_site image tables bounds next n (Frame c) = (λ h. h, λ h. h)
to_site image tables bounds next n (Heap l h) = (λ h. h, λ h. h)
to_site image tables bounds next n (Globals l h) = (λ h. h, λ h. h)
to_site image tables bounds next n (Image a) = (λ h. h, λ h. h)
to_site image tables bounds next n (Range a s k) = (λ h. h, λ h. h)
to_site image tables bounds next n (Entry t tag d via) = (λ h. h, λ h. h)
to_site image tables bounds next n Unknown = (λ h. h, λ h. h)

module _ (b : Bool) (f : Context) (next n : ℕ) (a : Address) where
  pub at_site : (image : Contents) (tables : List (ℕ × ℕ)) → f.image ≡ image → f.tables ≡ tables → (b ≡ true ↔ ReadsInside (site_of image tables [] 0) a n) → b ≡ true ↔ ReadsInside (site_at f next) a n
  at_site image tables same_image same_tables tells =
      let by_image = subst (λ (i : Contents). b ≡ true ↔ ReadsInside (site_of i tables [] 0) a n) (sym same_image) tells in
      let by_tables = subst (λ (t : List (ℕ × ℕ)). b ≡ true ↔ ReadsInside (site_of f.image t [] 0) a n) (sym same_tables) by_image in
      let moved = to_site f.image f.tables f.bounds (f.entry + next) n a in
      (λ e. moved.0 (by_tables.0 e), λ h. by_tables.1 (moved.1 h))
