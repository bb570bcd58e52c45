-- What words say of the image after relocation.
use Rattle.std.proofs.Common.{◌≡◌, ℕ, ◌+◌, ◌-◌, ◌%◌, ◌^◌, ◌<◌, ◌≤◌, ◌==◌, ◌&&◌, nat_lt, Bool, true, false, not, cond, List, length, take, drop, get_or, slice_index, Option, Some, None, is_some, option_map, refl, sym, ap, ◌∙◌, subst, arith}
use Rattle.std.specs.List.{find, list_any}
use Rattle.std.specs.Option.{option_map_or}
use Rattle.std.proofs.lemmas.Bool.{false≢true}
use Rattle.std.proofs.lemmas.Bool.Decides.{nat_tests}
use Rattle.std.proofs.lemmas.List.{get_or-take, get_or-drop}
use Rattle.vw_bits.specs.Fields.{load}
use Rattle.vw_bits.specs.Headers.{is_executable}
use Rattle.vw_bits.specs.Places.{in_memory, in_file_part, file_offset}
use Rattle.vw_bits.specs.declared.records.Segment.{Segment}
use Rattle.vw_dynamic.specs.Relas.{is_data}
use Rattle.vw_dynamic.specs.declared.dynamic.Relocation.{Relocation}
use Rattle.vw_dynamic.specs.declared.dynamic.RelKind.{RelKind}
use Rattle.vw_dynamic.specs.declared.dynamic.RelKind.TheVariants.{Based as BasedKind, Bound as BoundKind}
use Rattle.vw_image.specs.Image.{Contents, IsImage, segment_byte, memory_byte, shares, touches, relocated_word, byte_of, image_byte}
use Rattle.vw_image.specs.Index.{kind_at, is_bound_kind, bound_ones}
use Rattle.vw_bits.specs.Bounds.{IsBounded}
use Rattle.vw_image.specs.Bounds.{AreSeparate}
use Rattle.vw_image.specs.Words.{in_readable, word_of_kind, unrelocated_word, word_at, readable, bytes_at}
use Rattle.vw_image.specs.Stubs.{in_executable}
use Rattle.vw_image.specs.declared.word.Word.TheVariants.{Plain, Mixed, Outside}
use Rattle.vw_image.specs.Laws.{Gives, image_word}
use Rattle.vw_bits.proofs.ListLemmas.{not_true, and_left, and_right, find-passes, find-holds, find-none, find-ruled_out, find-any, any-from_find}
use Rattle.vw_image.proofs.Lists.{find-unique, any-filter}
use Rattle.vw_image.proofs.Numbers.{load-same, load-bytes}
use Rattle.vw_bits.proofs.BoundLemmas.{among, among_is}
use Rattle.vw_image.proofs.Segments.{find-segment, memory_byte-in, in_memory-one}
use Rattle.vw_image.proofs.Rules.{image-bounded, image-apart, image-separate, image-placed}
use Rattle.vw_image.proofs.Words.{exact, relocation_at}

shared : (a n place : ℕ) → shares a n place ≡ true → (0 < n) × (a < place + 8) × (place < a + n)
shared a n place is = grind (arith, nat_tests)

shares_is : (a n place : ℕ) → 0 < n → a < place + 8 → place < a + n → shares a n place ≡ true
shares_is a n place some low high = grind (arith, nat_tests)

one_byte : (a n k : ℕ) (r : Relocation) → k < n → touches (a + k) 1 r ≡ true → touches a n r ≡ true
one_byte a n k r inside is =
    let p = shared (a + k) 1 r.place is in
    shares_is a n r.place (omega arith) (omega arith) (omega arith)

module _ (image : Contents) (base : ℕ) (hosts : ℕ → ℕ) where
  untouched_byte : (b : ℕ) → find (touches b 1) image.relocations ≡ None → image_byte image base hosts b ≡ memory_byte image.bytes image.segments b
  unfolding image_byte
  untouched_byte b none = rw none refl

  relocated_byte : (b : ℕ) (r : Relocation) → find (touches b 1) image.relocations ≡ Some r → image_byte image base hosts b ≡ byte_of (relocated_word base hosts r.kind) (b - r.place)
  unfolding image_byte
  relocated_byte b r found = rw found refl

  -- the bytes of the relocation that stands at an address
  exact_byte : IsImage image → (a k : ℕ) (r : Relocation) → find (λ s. s.place == a) image.relocations ≡ Some r → k < 8 → image_byte image base hosts (a + k) ≡ byte_of (relocated_word base hosts r.kind) k
  exact_byte is a k r found inside =
      let here : (r.place == a) ≡ true = find-passes (λ s. s.place == a) image.relocations r found in
      let place : r.place ≡ a = grind (arith, nat_tests, here) in
      let distance : (a + k) - r.place ≡ k = omega arith in
      let touched : touches (a + k) 1 r ≡ true = shares_is (a + k) 1 r.place (omega arith) (omega arith) (omega arith) in
      let only : find (touches (a + k) 1) image.relocations ≡ Some r =
      find-unique AreSeparate (λ s. s.place == a) (touches (a + k) 1) image.relocations r (image-separate image is)
      (λ s apart. not_true (touches (a + k) 1 s) (λ there.
      let p = shared (a + k) 1 s.place there in
      false≢true (sym apart ∙ shares_is s.place 8 r.place (omega arith) (omega arith) (omega arith))))
      found touched in
      relocated_byte (a + k) r only ∙ ap (λ (x : ℕ). byte_of (relocated_word base hosts r.kind) x) distance

  word_fits : ((number : ℕ) → hosts number < 2 ^ 64) → (kind : RelKind) → relocated_word base hosts kind < 2 ^ 64
  word_fits small (BasedKind addend) = omega arith
  word_fits small (BoundKind number) = small number

  exact_word : IsImage image → ((number : ℕ) → hosts number < 2 ^ 64) → (a : ℕ) (kind : RelKind) → kind_at image.relocations a ≡ Some kind → image_word image base hosts a 8 ≡ relocated_word base hosts kind
  exact_word is small a kind found =
      let r = relocation_at image.relocations a kind found in
      let w = relocated_word base hosts r.0.kind in
      let spelled : load (image_byte image base hosts) a 8 ≡ w % 256 ^ 8 = load-bytes (image_byte image base hosts) a 8 w (λ k inside. exact_byte is a k r.0 r.1 inside) in
      let fits : w < 2 ^ 64 = word_fits small r.0.kind in
      let whole : w % 256 ^ 8 ≡ w = omega arith in
      spelled ∙ whole ∙ ap (relocated_word base hosts) r.2

  gives_kind : (n : ℕ) (kind : RelKind) → n ≡ relocated_word base hosts kind → Gives base hosts (word_of_kind kind) n
  gives_kind n (BasedKind addend) is = is
  gives_kind n (BoundKind number) is = is

  plain_word : (a size : ℕ) → list_any (touches a size) image.relocations ≡ false → image_word image base hosts a size ≡ load (memory_byte image.bytes image.segments) a size
  plain_word a size none =
      load-same (image_byte image base hosts) (memory_byte image.bytes image.segments) a a size
      (λ k inside. untouched_byte (a + k) (find-none (touches (a + k) 1) (touches a size) image.relocations (λ r there. one_byte a size k r inside there) none))

  unrelocated : (a size : ℕ) (touched inside : Bool) → list_any (touches a size) image.relocations ≡ touched
      → Gives base hosts (cond touched Mixed (cond inside (Plain (load (memory_byte image.bytes image.segments) a size)) Outside)) (image_word image base hosts a size)
  unrelocated a size true inside is = tt
  unrelocated a size false true is = plain_word a size is
  unrelocated a size false false is = tt

  sized : (test : Bool) (found : Option RelKind) (kind : RelKind) → cond test found None ≡ Some kind → (test ≡ true) × (found ≡ Some kind)
  sized true found kind is = (refl, is)
  sized false found kind is = cc

  spelled_by : IsImage image → ((number : ℕ) → hosts number < 2 ^ 64) → (a size : ℕ) (found : Option RelKind) → exact image a size ≡ found
      → Gives base hosts (option_map_or word_of_kind found (unrelocated_word image a size)) (image_word image base hosts a size)
  spelled_by is small a size None at = unrelocated a size (list_any (touches a size) image.relocations) (in_readable image.segments a size) refl
  spelled_by is small a size (Some kind) at =
      let both = sized (size == 8) (kind_at image.relocations a) kind at in
      let test : (size == 8) ≡ true = both.0 in
      let eight : size ≡ 8 = grind (arith, nat_tests, test) in
      let P : ℕ → Type 0 = λ n. Gives base hosts (word_of_kind kind) (image_word image base hosts a n) in
      subst P (sym eight) (gives_kind (image_word image base hosts a 8) kind (exact_word is small a kind both.1))

pub spelled : (image : Contents) → IsImage image → (a size : ℕ) → (base : ℕ) (hosts : ℕ → ℕ) → ((number : ℕ) → hosts number < 2 ^ 64) → Gives base hosts (word_at image a size) (image_word image base hosts a size)
unfolding word_at
spelled image is a size base hosts small = spelled_by image base hosts is small a size (exact image a size) refl

same_word : (base : ℕ) (hosts other : ℕ → ℕ) (kind : RelKind) → is_bound_kind kind ≡ false → relocated_word base hosts kind ≡ relocated_word base other kind
same_word base hosts other (BasedKind addend) based = refl
same_word base hosts other (BoundKind number) based = cc

negated : (b : Bool) → not b ≡ true → b ≡ false
negated true is = cc
negated false is = refl

settled_by : (image : Contents) (a n : ℕ) → list_any (touches a n) (bound_ones image.relocations) ≡ false → (base : ℕ) (hosts other : ℕ → ℕ) (b : ℕ) → a ≤ b → b < a + n
    → (found : Option Relocation) → find (touches b 1) image.relocations ≡ found → image_byte image base hosts b ≡ image_byte image base other b
settled_by image a n none base hosts other b low high None found = untouched_byte image base hosts b found ∙ sym (untouched_byte image base other b found)
settled_by image a n none base hosts other b low high (Some r) found =
    let based : is_bound_kind r.kind ≡ false =
    not_true (is_bound_kind r.kind) (λ bound.
    let at : a + (b - a) ≡ b = omega arith in
    let here : touches (a + (b - a)) 1 r ≡ true = ap (λ (x : ℕ). touches x 1 r) at ∙ find-passes (touches b 1) image.relocations r found in
    let wide : touches a n r ≡ true = one_byte a n (b - a) r (omega arith) here in
    let both : (is_bound_kind r.kind && touches a n r) ≡ true = rw (bound, wide) refl in
    let any : list_any (λ s. is_bound_kind s.kind && touches a n s) image.relocations ≡ true = any-from_find (touches b 1) (λ s. is_bound_kind s.kind && touches a n s) image.relocations r found both in
    false≢true (sym none ∙ any-filter (touches a n) (λ s. is_bound_kind s.kind) image.relocations ∙ any)) in
    relocated_byte image base hosts b r found
    ∙ ap (λ (w : ℕ). byte_of w (b - r.place)) (same_word base hosts other r.kind based)
    ∙ sym (relocated_byte image base other b r found)

pub settled : (image : Contents) (a n : ℕ) → readable image a n ≡ true → (base : ℕ) (hosts other : ℕ → ℕ) (b : ℕ) → a ≤ b → b < a + n → image_byte image base hosts b ≡ image_byte image base other b
unfolding readable
settled image a n is base hosts other b low high =
    settled_by image a n (negated _ (and_right (in_readable image.segments a n) (not (list_any (touches a n) (bound_ones image.relocations))) is)) base hosts other b low high (find (touches b 1) image.relocations) refl

found_some : {X : Type 0} (found : Option X) → is_some found ≡ true → (x : X) × (found ≡ Some x)
found_some None some = cc
found_some (Some x) some = (x, refl)

some_passes : {X : Type 0} (p : X → Bool) (xs : List X) → list_any p xs ≡ true → (x : X) × (find p xs ≡ Some x)
some_passes p xs any = found_some (find p xs) (find-any p xs ∙ any)

same_found : {X : Type 0} (found : Option X) (x y : X) → found ≡ Some x → found ≡ Some y → x ≡ y
same_found found x y one other = cc

byte_of_range : (a n b : ℕ) (s : Segment) → a ≤ b → b < a + n → in_memory a n s ≡ true → in_memory b 1 s ≡ true
byte_of_range a n b s low high held =
    let at : a + (b - a) ≡ b = omega arith in
    ap (λ (x : ℕ). in_memory x 1 s) (sym at) ∙ in_memory-one a n (b - a) s (omega arith) held

pub code_settled : (image : Contents) → IsImage image → (a n : ℕ) → in_executable image.segments a n ≡ true → (base : ℕ) (hosts : ℕ → ℕ) (b : ℕ) → a ≤ b → b < a + n → image_byte image base hosts b ≡ memory_byte image.bytes image.segments b
code_settled image is a n inside base hosts b low high =
    let holds : Segment → Bool = λ s. is_executable s && in_memory a n s in
    let s = some_passes holds image.segments inside in
    let both : holds s.0 ≡ true = find-passes holds image.segments s.0 s.1 in
    let code : is_executable s.0 ≡ true = and_left (is_executable s.0) (in_memory a n s.0) both in
    let held : in_memory b 1 s.0 ≡ true = byte_of_range a n b s.0 low high (and_right (is_executable s.0) (in_memory a n s.0) both) in
    let first : find (in_memory b 1) image.segments ≡ Some s.0 = find-segment holds image.segments s.0 b (image-apart image is) s.1 held in
    untouched_byte image base hosts b
    (find-ruled_out (λ r. list_any (λ t. is_data t r.place) image.segments ≡ true) (touches b 1) image.relocations (image-placed image is)
    (λ r placed. not_true (touches b 1 r) (λ there.
    let p = shared b 1 r.place there in
    let data_at : Segment → Bool = λ t. is_data t r.place in
    let t = some_passes data_at image.segments placed in
    let fits : (in_memory r.place 8 t.0 && not (is_executable t.0)) ≡ true = find-passes data_at image.segments t.0 t.1 in
    let in_data : in_memory b 1 t.0 ≡ true = byte_of_range r.place 8 b t.0 (omega arith) (omega arith) (and_left (in_memory r.place 8 t.0) (not (is_executable t.0)) fits) in
    let second : find (in_memory b 1) image.segments ≡ Some t.0 = find-segment data_at image.segments t.0 b (image-apart image is) t.1 in_data in
    let same : s.0 ≡ t.0 = same_found (find (in_memory b 1) image.segments) s.0 t.0 first second in
    let not_code : is_executable t.0 ≡ false = negated (is_executable t.0) (and_right (in_memory r.place 8 t.0) (not (is_executable t.0)) fits) in
    false≢true (sym not_code ∙ ap (λ (x : Segment). is_executable x) (sym same) ∙ code))))

part_of : (found : Option Segment) (image_bytes : List ℕ) (a n : ℕ) (bytes : List ℕ) → option_map (λ at. take n (drop at image_bytes)) (option_map (λ s. s.offset + (a - s.vaddr)) found) ≡ Some bytes
    → (s : Segment) × (found ≡ Some s) × (take n (drop (s.offset + (a - s.vaddr)) image_bytes) ≡ bytes)
part_of None image_bytes a n bytes is = cc
part_of (Some s) image_bytes a n bytes is = (s, refl, cc)

file_byte : (bytes : List ℕ) (s : Segment) (a n k : ℕ) → s.vaddr ≤ a → a + n ≤ s.vaddr + s.filesz → k < n → get_or (take n (drop (s.offset + (a - s.vaddr)) bytes)) k 0 ≡ segment_byte bytes s (a + k)
file_byte bytes s a n k low high inside =
    let test : nat_lt ((a + k) - s.vaddr) s.filesz ≡ true = grind (arith, nat_tests) in
    let index : s.offset + (a - s.vaddr) + k ≡ s.offset + ((a + k) - s.vaddr) = omega arith in
    get_or-take n (drop (s.offset + (a - s.vaddr)) bytes) k 0 inside
    ∙ get_or-drop (s.offset + (a - s.vaddr)) bytes k 0
    ∙ rw (test, index) refl

pub lent : (image : Contents) → IsImage image → (a n : ℕ) (bytes : List ℕ) → bytes_at image a n ≡ Some bytes → (k : ℕ) → k < n → slice_index bytes k ≡ memory_byte image.bytes image.segments (a + k)
unfolding bytes_at file_offset
lent image is a n bytes at k inside =
    let s = part_of (find (in_file_part a n) image.segments) image.bytes a n bytes at in
    let held = among s.0.vaddr s.0.filesz a n (find-passes (in_file_part a n) image.segments s.0 s.1) in
    let bound : IsBounded (length image.bytes) s.0 = find-holds (IsBounded (length image.bytes)) (in_file_part a n) image.segments s.0 (image-bounded image is) s.1 in
    let part : s.0.filesz ≤ s.0.memsz = bound.part in
    let in_it : in_memory (a + k) 1 s.0 ≡ true = among_is s.0.vaddr s.0.memsz (a + k) 1 (omega arith) (omega arith) (omega arith) in
    ap (λ (xs : List ℕ). get_or xs k 0) (sym s.2)
    ∙ file_byte image.bytes s.0 a n k held.0 held.2 inside
    ∙ sym (memory_byte-in image.bytes (in_file_part a n) image.segments s.0 (a + k) (image-apart image is) s.1 in_it)
