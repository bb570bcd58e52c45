-- The bytes of an image in an instance.
use Rattle.std.proofs.Common.{◌≡◌, ℕ, zero, suc, ◌+◌, ◌-◌, ◌*◌, ◌/◌, ◌%◌, ◌^◌, ◌<◌, ◌≤◌, ◌&&◌, ◌||◌, Bool, true, false, List, [], ◌∷◌, map, Option, Some, None, refl, sym, ◌∙◌, ap, subst, arith, cond}
use Rattle.std.specs.Prelude.{Contains, ◌==◌, nat_lt, option_map, if◌then◌else◌}
use Rattle.std.specs.List.{find, list_any}
use Rattle.std.specs.Option.{option_map_or}
use Rattle.std.proofs.Math.Nat.{div-div-eq-div-mul}
use Rattle.std.proofs.lemmas.Bool.{false≢true}
use Rattle.std.proofs.lemmas.Bool.Decides.{nat_tests}
use Rattle.vw_bits.specs.Fields.{load}
use Rattle.vw_bits.specs.Places.{in_memory, in_file_part, file_offset}
use Rattle.vw_bits.specs.declared.records.Segment.{Segment}
use Rattle.vw_dynamic.specs.declared.dynamic.Relocation.{Relocation}
use Rattle.vw_dynamic.specs.declared.dynamic.RelKind.{RelKind}
use Rattle.vw_dynamic.specs.declared.dynamic.RelKind.TheVariants.{Based as BasedKind, Bound as BoundKind}
use Rattle.vw_image.specs.declared.word.Word.TheVariants.{Plain, Mixed, Outside}
use Rattle.vw_image.specs.Image.{Contents, image_byte, memory_byte, segment_byte, touches}
use Rattle.vw_image.specs.Index.{kind_at}
use Rattle.vw_image.specs.Words.{word_at, word_of_kind, unrelocated_word, bytes_at}
use Rattle.vw_image.specs.Laws.{image_word}
use Rattle.vw_machine.specs.declared.world.World.{World}
use Rattle.vw_machine.specs.World.{Range, IsLaidOut, is_within, loaded_range}
use Rattle.vw_machine.specs.Module.{ModuleView, segment_range}
use Rattle.vw_machine.specs.Step.{is_in_image}
use Rattle.vw_machine.specs.Found.{IsRelocated, is_image_byte}
use Rattle.vw_machine.proofs.Lists.{one_of, and_parts}
use Rattle.vw_machine.proofs.CodeLemmas.{found_of}
use Rattle.vw_machine.proofs.Regions.{image_low}

higher : (w k : ℕ) → w / 256 ^ suc k ≡ w / 256 / 256 ^ k
higher w k =
    let e : 256 ^ suc k ≡ 256 * 256 ^ k = grind arith in
    ap (λ (x : ℕ). w / x) e ∙ sym (div-div-eq-div-mul w 256 (256 ^ k))

low_digit : (b rest : ℕ) → b < 256 → (b + 256 * rest) % 256 ≡ b
low_digit b rest small = omega arith

high_digits : (b rest : ℕ) → b < 256 → (b + 256 * rest) / 256 ≡ rest
high_digits b rest small = omega arith

-- a byte of the number that bytes spell
digit : (f : ℕ → ℕ) (a n k : ℕ) → ((j : ℕ) → j < n → f (a + j) < 256) → k < n → load f a n / 256 ^ k % 256 ≡ f (a + k)
digit f a zero k small inside = absurd (omega arith)
digit f a (suc n) zero small inside =
    let start : a + 0 ≡ a = omega arith in
    let first : f a < 256 = subst (λ (x : ℕ). f x < 256) start (small 0 (omega arith)) in
    let one : (f a + 256 * load f (a + 1) n) / 256 ^ 0 ≡ f a + 256 * load f (a + 1) n = omega arith in
    ap (λ (x : ℕ). x % 256) one ∙ low_digit (f a) (load f (a + 1) n) first ∙ ap f (sym start)
digit f a (suc n) (suc k) small inside =
    let start : a + 0 ≡ a = omega arith in
    let first : f a < 256 = subst (λ (x : ℕ). f x < 256) start (small 0 (omega arith)) in
    let at : a + 1 + k ≡ a + suc k = omega arith in
    let rest : load f (a + 1) n / 256 ^ k % 256 ≡ f (a + 1 + k) =
    digit f (a + 1) n k (λ j below. let here : a + 1 + j ≡ a + suc j = omega arith in subst (λ (x : ℕ). f x < 256) (sym here) (small (suc j) (omega arith))) (omega arith) in
    ap (λ (x : ℕ). x % 256) (higher (f a + 256 * load f (a + 1) n) k)
    ∙ ap (λ (x : ℕ). x / 256 ^ k % 256) (high_digits (f a) (load f (a + 1) n) first)
    ∙ rest ∙ ap f at

first_is : {X : Type 0} (p : X → Bool) (x : X) (xs : List X) (y : X) (b : Bool) → p x ≡ b → cond b (Some x) (find p xs) ≡ Some y
    → (find p xs ≡ Some y → Contains xs y × (p y ≡ true)) → Contains (x ∷ xs) y × (p y ≡ true)
first_is p x xs y true e is later = let same : x ≡ y = cc in ((0, omega arith, same), ap p (sym same) ∙ e)
first_is p x xs y false e is later = let one = later is in ((suc one.0.0, omega (arith, one.0.1), one.0.2), one.1)

found_is : {X : Type 0} (p : X → Bool) (xs : List X) (y : X) → find p xs ≡ Some y → Contains xs y × (p y ≡ true)
found_is {X = X} p [] y is = absurd (let none : ◌≡◌ {A = Option X} None (Some y) = is in cc)
found_is p (x ∷ xs) y is = first_is p x xs y (p x) refl is (λ e. found_is p xs y e)

first_none : {X : Type 0} (p : X → Bool) (x : X) (xs : List X) (b : Bool) → p x ≡ b → (b || list_any p xs) ≡ false → (list_any p xs ≡ false → find p xs ≡ None) → cond b (Some x) (find p xs) ≡ None
first_none p x xs true e none later = absurd (false≢true (sym none))
first_none p x xs false e none later = later none

none_found : {X : Type 0} (p : X → Bool) (xs : List X) → list_any p xs ≡ false → find p xs ≡ None
none_found p [] none = refl
none_found p (x ∷ xs) none = first_none p x xs (p x) refl none (λ e. none_found p xs e)

-- a byte that a relocation changes is one
small : (image : Contents) (base : ℕ) (hosts : ℕ → ℕ) (a : ℕ) (r : Relocation) → Contains image.relocations r → touches a 1 r ≡ true → image_byte image base hosts a < 256
unfolding image_byte
small image base hosts a r listed there =
    let found = found_of (touches a 1) image.relocations r listed there in
    rw found.3 (omega arith)

unrelocated : (t u : Bool) (n : ℕ) → IsRelocated (if t then Mixed else (if u then Plain n else Outside)) → ⊥
unrelocated true u n h = h
unrelocated false true n h = h
unrelocated false false n h = h

of_kind : (k : RelKind) → IsRelocated (word_of_kind k)
of_kind (BasedKind to) = tt
of_kind (BoundKind number) = tt

some_found : (image : Contents) (b : ℕ) (o : Option Relocation) → IsRelocated (option_map_or word_of_kind (option_map (λ r. r.kind) o) (unrelocated_word image b 8)) → (r : Relocation) × (o ≡ Some r)
some_found image b None h = absurd (unrelocated _ _ _ h)
some_found image b (Some r) h = (r, refl)

-- a relocation stands where one gives the word
stands : (image : Contents) (b : ℕ) → IsRelocated (word_at image b 8) → (r : Relocation) × Contains image.relocations r × (r.place ≡ b)
unfolding word_at kind_at
stands image b h =
    let found = some_found image b (find (λ r. r.place == b) image.relocations) h in
    let is = found_is (λ (r : Relocation). r.place == b) image.relocations found.0 found.1 in
    (found.0, is.0, grind (arith, nat_tests, is.1))

touches_there : (r : Relocation) (a : ℕ) → r.place ≤ a → a < r.place + 8 → touches a 1 r ≡ true
touches_there r a low high = grind (arith, nat_tests)

touched_there : (r : Relocation) (a : ℕ) → touches a 1 r ≡ true → (r.place ≤ a) × (a < r.place + 8)
touched_there r a there = (grind (arith, nat_tests, there), grind (arith, nat_tests, there))

-- the byte at a place is that of the word
pub byte_of_relocated : (image : Contents) (base : ℕ) (hosts : ℕ → ℕ) (place k : ℕ) → k < 8 → k ≤ place → IsRelocated (word_at image (place - k) 8)
    → image_word image base hosts (place - k) 8 / 256 ^ k % 256 ≡ image_byte image base hosts place
byte_of_relocated image base hosts place k few low h =
    let r = stands image (place - k) h in
    let e = r.2 in
    let back : place - k + k ≡ place = omega arith in
    digit (image_byte image base hosts) (place - k) 8 k (λ j below. small image base hosts (place - k + j) r.0 r.1 (touches_there r.0 (place - k + j) (omega arith) (omega arith))) few
    ∙ ap (image_byte image base hosts) back

relocated : (image : Contents) (r : Relocation) → Contains image.relocations r → IsRelocated (word_at image r.place 8)
unfolding word_at kind_at
relocated image r listed =
    let same : (r.place == r.place) ≡ true = grind (arith, nat_tests) in
    let found = found_of (λ (s : Relocation). s.place == r.place) image.relocations r listed same in
    rw found.3 (of_kind found.0.kind)

-- a relocation that changes a byte stands at most seven bytes before it
pub is_found : (image : Contents) (place : ℕ) → list_any (touches place 1) image.relocations ≡ true → ((j : ℕ) → j < 8 → j ≤ place → IsRelocated (word_at image (place - j) 8) → ⊥) → ⊥
is_found image place some none =
    let one = one_of (touches place 1) image.relocations some in
    let r = one.0 in
    let there = touched_there r place one.2 in
    let low = there.0 in
    let high = there.1 in
    let back : place - (place - r.place) ≡ r.place = omega arith in
    none (place - r.place) (omega arith) (omega arith) (subst (λ (b : ℕ). IsRelocated (word_at image b 8)) (sym back) (relocated image r one.1))

by_tests : (t u : Bool) (n : ℕ) → (if t then Mixed else (if u then Plain n else Outside)) ≡ Mixed → t ≡ true
by_tests true u n is = refl
by_tests false true n is = absurd (cc)
by_tests false false n is = absurd (cc)

not_mixed : (t u : Bool) (n : ℕ) → ((if t then Mixed else (if u then Plain n else Outside)) ≡ Mixed → ⊥) → t ≡ false
not_mixed true u n is = absurd (is refl)
not_mixed false u n is = refl

pub is_touched : (image : Contents) (place : ℕ) → word_at image place 1 ≡ Mixed → list_any (touches place 1) image.relocations ≡ true
unfolding word_at
is_touched image place is = by_tests (list_any (touches place 1) image.relocations) _ _ is

pub is_memory : (image : Contents) (base : ℕ) (hosts : ℕ → ℕ) (place : ℕ) → (word_at image place 1 ≡ Mixed → ⊥) → memory_byte image.bytes image.segments place ≡ image_byte image base hosts place
unfolding word_at image_byte
is_memory image base hosts place is =
    let none = none_found (touches place 1) image.relocations (not_mixed (list_any (touches place 1) image.relocations) _ _ is) in
    rw none refl

past_segment : (s : Segment) (a : ℕ) (bytes : List ℕ) → in_memory a 1 s ≡ true → in_file_part a 1 s ≡ false → segment_byte bytes s a ≡ 0
past_segment s a bytes inside past =
    let e : nat_lt (a - s.vaddr) s.filesz ≡ false = grind (arith, nat_tests, inside, past) in
    rw e refl

first_past : (s : Segment) (more : List Segment) (a : ℕ) (bytes : List ℕ) (f g : Bool) → in_file_part a 1 s ≡ f → in_memory a 1 s ≡ g → cond f (Some s) (find (in_file_part a 1) more) ≡ None
    → (find (in_file_part a 1) more ≡ None → option_map_or (λ t. segment_byte bytes t a) (find (in_memory a 1) more) 0 ≡ 0)
    → option_map_or (λ t. segment_byte bytes t a) (cond g (Some s) (find (in_memory a 1) more)) 0 ≡ 0
first_past s more a bytes true g one two none later = absurd (cc)
first_past s more a bytes false true one two none later = past_segment s a bytes two one
first_past s more a bytes false false one two none later = later none

past_segments : (segments : List Segment) (a : ℕ) (bytes : List ℕ) → find (in_file_part a 1) segments ≡ None → option_map_or (λ t. segment_byte bytes t a) (find (in_memory a 1) segments) 0 ≡ 0
past_segments [] a bytes none = refl
past_segments (s ∷ more) a bytes none = first_past s more a bytes (in_file_part a 1 s) (in_memory a 1 s) refl refl none (λ e. past_segments more a bytes e)

option_none : {X Y : Type 0} (f : X → Y) (o : Option X) → option_map f o ≡ None → o ≡ None
option_none f None none = refl
option_none f (Some x) none = absurd (cc)

-- a byte that the file does not hold is zero
pub past_file : (image : Contents) (a : ℕ) → bytes_at image a 1 ≡ None → 0 ≡ memory_byte image.bytes image.segments a
unfolding bytes_at file_offset memory_byte
past_file image a none = sym (past_segments image.segments a image.bytes (option_none _ _ (option_none _ _ none)))

one_part : (w : World) (s : Segment) (a place : ℕ) → a ≡ w.load + place → in_memory place 1 s ≡ is_within a 1 (loaded_range w (segment_range s))
one_part w s a place at = grind (arith, nat_tests)

below_part : (w : World) (s : Segment) (a : ℕ) → a < w.load → false ≡ is_within a 1 (loaded_range w (segment_range s))
below_part w s a low = grind (arith, nat_tests)

pub in_parts : (w : World) (segments : List Segment) (a place : ℕ) → a ≡ w.load + place → list_any (in_memory place 1) segments ≡ list_any (λ part. is_within a 1 (loaded_range w part)) (map segment_range segments)
in_parts w [] a place at = refl
in_parts w (s ∷ more) a place at = let one = one_part w s a place at in let rest = in_parts w more a place at in rw (one, rest) refl

pub below_parts : (w : World) (segments : List Segment) (a : ℕ) → a < w.load → false ≡ list_any (λ part. is_within a 1 (loaded_range w part)) (map segment_range segments)
below_parts w [] a low = refl
below_parts w (s ∷ more) a low = let one = below_part w s a low in let rest = below_parts w more a low in rw (← one) rest

module _ (m : ModuleView) (w : World) (laid : IsLaidOut m.image m.imports w) where
  -- the addresses of the image are those of the processor
  pub byte_inside : (a : ℕ) → is_image_byte m w a ≡ true → (w.load ≤ a) × (a < 2 ^ 47)
  byte_inside a is =
      let one = one_of (λ (part : Range). is_within a 1 (loaded_range w part)) m.image is in
      let part = one.0 in
      let low : w.load + part.from ≤ a = grind (arith, nat_tests, one.2) in
      let high : a + 1 ≤ w.load + part.to = grind (arith, nat_tests, one.2) in
      (omega arith, image_low laid part one.1 a (low, omega arith))

  pub bytes_inside : (a n : ℕ) → is_in_image m w a n ≡ true → (k : ℕ) → k < n → (w.load ≤ a + k) × (a + k < 2 ^ 47)
  bytes_inside a zero is k few = absurd (omega arith)
  bytes_inside a (suc n) is zero few =
      let here : a + 0 ≡ a = omega arith in
      subst (λ (x : ℕ). (w.load ≤ x) × (x < 2 ^ 47)) (sym here) (byte_inside a (and_parts (is_image_byte m w a) (is_in_image m w (a + 1) n) is).0)
  bytes_inside a (suc n) is (suc k) few =
      let here : a + 1 + k ≡ a + suc k = omega arith in
      subst (λ (x : ℕ). (w.load ≤ x) × (x < 2 ^ 47)) here (bytes_inside (a + 1) n (and_parts (is_image_byte m w a) (is_in_image m w (a + 1) n) is).1 k (omega arith))

  one_more : (a n : ℕ) (b : Bool) → is_image_byte m w a ≡ b → is_in_image m w a (suc n) ≡ (b && is_in_image m w (a + 1) n)
  one_more a n b is = rw is refl

  -- bytes that begin with one of the image
  pub first_inside : (a n k : ℕ) → k < n → is_image_byte m w (a + k) ≡ true → is_in_image m w (a + k) (n - k) ≡ is_in_image m w (a + (k + 1)) (n - (k + 1))
  first_inside a n k few is =
      let count : n - k ≡ suc (n - (k + 1)) = omega arith in
      let at : a + k + 1 ≡ a + (k + 1) = omega arith in
      ap (is_in_image m w (a + k)) count ∙ one_more (a + k) (n - (k + 1)) true is ∙ ap (λ (x : ℕ). is_in_image m w x (n - (k + 1))) at

  pub first_outside : (a n k : ℕ) → k < n → is_image_byte m w (a + k) ≡ false → is_in_image m w (a + k) (n - k) ≡ false
  first_outside a n k few is =
      let count : n - k ≡ suc (n - (k + 1)) = omega arith in
      ap (is_in_image m w (a + k)) count ∙ one_more (a + k) (n - (k + 1)) false is

  -- no byte past the top of the address space is one of the image
  pub byte_past : (a : ℕ) → 2 ^ 64 ≤ a → is_image_byte m w a ≡ false
  byte_past a past = by (is_image_byte m w a) refl
    where
      by : (b : Bool) → is_image_byte m w a ≡ b → b ≡ false
      by true is = let low = (byte_inside a is).1 in absurd (omega arith)
      by false is = refl
