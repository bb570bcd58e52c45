-- In an instance that is laid out well, the module is what the equations take it for.
use Rattle.std.proofs.Common.{◌≡◌, ◌≢◌, ℕ, zero, suc, ◌+◌, ◌-◌, ◌*◌, ◌/◌, ◌%◌, ◌^◌, ◌<◌, ◌≤◌, ◌⊎◌, inl, inr, ⊎_elim, ◌==◌, ◌&&◌, ◌||◌, Bool, true, false, if◌then◌else◌, List, [], ◌∷◌, length, map, slice_index, Option, Some, None, refl, sym, ap, ◌∙◌, subst, arith, lit<}
use Rattle.std.specs.Prelude.{Contains, slice_get, option_map, nat_le, nat_lt}
use Rattle.std.specs.List.{AllByRecursion, find, list_any}
use Rattle.std.specs.Option.{option_map_or}
use Rattle.std.proofs.lemmas.Bool.{false≢true, cases_lt, eqb-true}
use Rattle.std.proofs.lemmas.Bool.Decides.{nat_tests}
use Rattle.std.proofs.lemmas.List.{length-map}
use Rattle.std.proofs.Math.Nat.{mod-lt, mod-eq_of_lt}
use Rattle.vw_bits.specs.Fields.{load}
use Rattle.vw_bits.specs.Headers.{segments_of}
use Rattle.vw_bits.specs.HeaderRules.{header_fault}
use Rattle.vw_bits.specs.Places.{is_among}
use Rattle.vw_bits.specs.Words.{sign_extended}
use Rattle.vw_bits.specs.declared.records.Segment.{Segment}
use Rattle.vw_dynamic.specs.Relas.{is_data}
use Rattle.vw_dynamic.specs.declared.dynamic.Relocation.{Relocation}
use Rattle.vw_dynamic.specs.declared.dynamic.RelKind.{RelKind}
use Rattle.vw_insn.specs.declared.registers.Width.TheVariants.{W32, W64}
use Rattle.vw_insn.specs.Words.{Registers, low}
use Rattle.vw_insn.specs.Arithmetic.{extended}
use Rattle.vw_values.specs.Bounds.{IsBounds}
use Rattle.vw_values.specs.Stands.{TableEntry as Slot, FunctionTable, Instance, AtEntry, HasTag, IsFunction, offset_at}
use Rattle.vw_domain.specs.Sites.{Word as SiteWord, Plain, Based, Other, IsSite, AreReadable}
use Rattle.vw_domain.specs.Soundness.{IsPlaced, IsMemory, HasTables, HasImage}
use Rattle.vw_domain.specs.Stands.{Machine}
use Rattle.vw_image.specs.declared.word.Word.{Word}
use Rattle.vw_image.specs.declared.word.Word.TheVariants as word
use Rattle.vw_bits.specs.Bounds.{IsBounded, AreBounded}
use Rattle.vw_image.specs.Image.{Contents, IsImage, image_of, image_byte, memory_byte, touches}
use Rattle.vw_image.specs.Index.{kind_at}
use Rattle.vw_image.specs.Laws.{IsSize, Gives, image_word}
use Rattle.vw_image.specs.Words.{in_readable, word_of_kind, unrelocated_word, word_at, readable}
use Rattle.vw_image.proofs.Rules.{image-placed}
use Rattle.vw_layout.specs.declared.tables.TableInfo.{TableInfo}
use Rattle.vw_layout.specs.declared.tables.TableEntry.{TableEntry}
use Rattle.vw_layout.specs.declared.layout.Module.{Module as Declared}
use Rattle.vw_layout.specs.Laws.{IsData}
use Rattle.vw_layout.specs.Tables.{is_pointer}
use Rattle.vw_machine.specs.Permitted.{is_pointer as is_address}
use Rattle.vw_layout.specs.Layout.{IsModule, declared_functions, declared_tables}
use Rattle.vw_state.specs.Context.{extent_of}
use Rattle.vw_state.specs.Sites.{word_in, site_word, is_in_entries, may_be_read, site_of}
use Rattle.vw_machine.specs.declared.world.World.{World}
use Rattle.vw_machine.specs.declared.choice.Choice.{Choice}
use Rattle.vw_machine.specs.World.{Range, IsIn, AreApart, IsLaidOut, is_within, stack_range, loaded_range, instance_ranges}
use Rattle.vw_machine.specs.Choices.{number_of}
use Rattle.vw_machine.specs.Module.{ModuleView, declared_module, view_of, segment_range, is_in_table}
use Rattle.vw_machine.specs.State.{Bytes, Activation}
use Rattle.vw_machine.specs.Step.{is_in_image, image_number, loads}
use Rattle.vw_sandbox.specs.Assertions.{Moment}
use Rattle.vw_machine.proofs.Regions.{all_of, heap_ends, stack_ends}
use Rattle.vw_sandbox.proofs.Instances.{heap_or_stack, image_low}
use Rattle.vw_sandbox.proofs.Stating.{load_fits, image_fits}

-- ---- the instance that values speak of

-- the entries of a table at an address, each with the eight bytes of its pointer
abbrev pub entries_in : (ℕ → ℕ) → ℕ → List TableEntry → List Slot
entries_in byte a [] = []
entries_in byte a (e ∷ es) = record { tag = e.tag; pointer = load byte (a + 8) 8 } ∷ entries_in byte (a + 16) es

abbrev pub table_in : ModuleView → World → TableInfo → FunctionTable
table_in m w t = record { address = t.address; entries = entries_in (m.byte w) t.address t.entries }

abbrev pub instance_of : ModuleView → World → Registers → Instance
instance_of m w entered =
    record { load = w.load; heap = w.heap; globals = w.globals; tables = map (table_in m w) m.tables; byte = m.byte w; entered = entered }

-- the machine's state in an activation, with this number in the register that lives within one instruction
abbrev pub machine_of : ModuleView → World → Registers → Activation → Moment → ℕ → Machine
machine_of m w entered top now tmp = record {
  instance = instance_of m w entered;
  stack_start = w.stack_low;
  stack_end = w.stack_high;
  entry_rsp = top.rsp0;
  is_written = top.written;
  registers = λ q. if q == 16 then tmp else now.registers q;
  flags = now.flags;
  byte = now.bytes;
}

-- ---- what the crates below say

pub record SiteLaws : Type 0 where
  pub images : (file : List ℕ) → IsModule file → IsImage (image_of file)
  pub spelled : (image : Contents) → IsImage image → (a size : ℕ) → IsSize size → (base : ℕ) (hosts : ℕ → ℕ) → ((number : ℕ) → hosts number < 2 ^ 64) → Gives base hosts (word_at image a size) (image_word image base hosts a size)
  pub bounded : (bytes : List ℕ) → header_fault bytes ≡ None → AreBounded (length bytes) (segments_of bytes)
  pub few : (file : List ℕ) → IsModule file → length (declared_tables file) ≤ 64
  pub data_of : (file : List ℕ) (t : TableInfo) → IsModule file → Contains (declared_tables file) t → IsData file t
  pub tags : (file : List ℕ) (t : TableInfo) (k : ℕ) (e : TableEntry) → IsModule file → Contains (declared_tables file) t → slice_get t.entries k ≡ Some e → word_at (image_of file) (t.address + 16 * k) 8 ≡ word.Plain e.tag
  pub pointers : (file : List ℕ) (t : TableInfo) (k : ℕ) (e : TableEntry) → IsModule file → Contains (declared_tables file) t → slice_get t.entries k ≡ Some e → word_at (image_of file) (t.address + 16 * k + 8) 8 ≡ e.pointer
  pub ranges : (file : List ℕ) (t : TableInfo) (e : TableEntry) → IsModule file → Contains (declared_tables file) t → Contains t.entries e → (e.tag < 4294967295) ⊎ (e.tag ≡ 18446744073709551615)
  pub called : (file : List ℕ) (t : TableInfo) (e : TableEntry) → IsModule file → Contains (declared_tables file) t → Contains t.entries e → e.tag ≢ 18446744073709551615 → is_pointer (image_of file) (declared_functions file) e.pointer ≡ true

-- ---- lists

some_is : {A : Type 0} {a b : A} → Some a ≡ Some b → a ≡ b
some_is e = cc

none_some : {A : Type 0} {x : A} → ◌≡◌ {A = Option A} None (Some x) → ⊥
none_some e = cc

pub contains_got : {A : Type 0} (xs : List A) (k : ℕ) (x : A) → slice_get xs k ≡ Some x → Contains xs x
contains_got {A} [] k x is = absurd (let none : ◌≡◌ {A = Option A} None (Some x) = is in cc)
contains_got (y ∷ ys) zero x is = (0, omega arith, (let same : Some y ≡ Some x = is in cc))
contains_got (y ∷ ys) (suc k) x is = let later = contains_got ys k x is in (suc later.0, omega (arith, later.1), later.2)

pub got_mapped : {A B : Type 0} (f : A → B) (xs : List A) (k : ℕ) (y : B) → slice_get (map f xs) k ≡ Some y → (x : A) × (slice_get xs k ≡ Some x) × (y ≡ f x)
got_mapped {A} {B} f [] k y is = absurd (let none : ◌≡◌ {A = Option B} None (Some y) = is in cc)
got_mapped f (x ∷ xs) zero y is = (x, refl, sym (some_is is))
got_mapped f (x ∷ xs) (suc k) y is = got_mapped f xs k y is

pub got_entry : (byte : ℕ → ℕ) (a : ℕ) (es : List TableEntry) (k : ℕ) (s : Slot) → slice_get (entries_in byte a es) k ≡ Some s
    → (e : TableEntry) × (slice_get es k ≡ Some e) × (s.tag ≡ e.tag) × (s.pointer ≡ load byte (a + 16 * k + 8) 8)
got_entry byte a [] k s is = absurd (let none : ◌≡◌ {A = Option Slot} None (Some s) = is in cc)
got_entry byte a (e ∷ es) zero s is =
    let same : record { tag = e.tag; pointer = load byte (a + 8) 8 } ≡ s = some_is is in
    (e, refl, sym (ap (λ (x : Slot). x.tag) same), sym (ap (λ (x : Slot). x.pointer) same) ∙ ap (λ b. load byte b 8) (omega arith))
got_entry byte a (e ∷ es) (suc k) s is =
    let rest = got_entry byte (a + 16) es k s is in
    (rest.0, rest.1, rest.2, rest.3 ∙ ap (λ b. load byte b 8) (omega arith))

entry_count : (byte : ℕ → ℕ) (a : ℕ) (es : List TableEntry) → length (entries_in byte a es) ≡ length es
entry_count byte a [] = refl
entry_count byte a (e ∷ es) = ap suc (entry_count byte (a + 16) es)

got_within : {A : Type 0} (xs : List A) (k : ℕ) (x : A) → slice_get xs k ≡ Some x → k < length xs
got_within {A} [] k x is = absurd (let none : ◌≡◌ {A = Option A} None (Some x) = is in cc)
got_within (y ∷ ys) zero x is = omega arith
got_within (y ∷ ys) (suc k) x is = let later = got_within ys k x is in omega arith

extents_are : (m : ModuleView) (w : World) (ts : List TableInfo) → map (λ (t : FunctionTable). (t.address, length t.entries)) (map (table_in m w) ts) ≡ map extent_of ts
extents_are m w [] = refl
extents_are m w (t ∷ ts) =
    ap (λ n. (t.address, n) ∷ map (λ (t : FunctionTable). (t.address, length t.entries)) (map (table_in m w) ts)) (entry_count (m.byte w) t.address t.entries)
    ∙ ap (λ (l : List (ℕ × ℕ)). extent_of t ∷ l) (extents_are m w ts)

-- a byte is one of some tables exactly where it is one of their entries
pub any_extent : (b : ℕ) (ts : List TableInfo) → list_any (is_in_entries b) (map extent_of ts) ≡ list_any (is_in_table b) ts
any_extent b [] = refl
any_extent b (t ∷ ts) = ap (λ x. is_in_table b t || x) (any_extent b ts)

any_cases : (a b : Bool) → (a || b) ≡ true → (a ≡ true) ⊎ (b ≡ true)
any_cases true b e = inl refl
any_cases false b e = inr e

any_first : (a b : Bool) → a ≡ true → (a || b) ≡ true
any_first a b e = ap (λ t. t || b) e

any_second : (a b : Bool) → b ≡ true → (a || b) ≡ true
any_second true b e = refl
any_second false b e = e

any_found : {X : Type 0} (p : X → Bool) (xs : List X) → list_any p xs ≡ true → (x : X) × Contains xs x × (p x ≡ true)
any_found p [] is = absurd (false≢true is)
any_found {X} p (y ∷ xs) is = by_cases (any_cases (p y) (list_any p xs) is) (any_found p xs)
  where
    by_cases : (p y ≡ true) ⊎ (list_any p xs ≡ true) → (list_any p xs ≡ true → (x : X) × Contains xs x × (p x ≡ true)) → (x : X) × Contains (y ∷ xs) x × (p x ≡ true)
    by_cases (inl here) later = (y, (0, omega arith, refl), here)
    by_cases (inr there) later = let found = later there in (found.0, (suc found.1.0, omega (arith, found.1.1), found.1.2), found.2)

any_holds : {X : Type 0} (p : X → Bool) (xs : List X) (x : X) → Contains xs x → p x ≡ true → list_any p xs ≡ true
any_holds p [] x (k, inside, is) passes = absurd (omega arith)
any_holds p (y ∷ xs) x (zero, inside, is) passes = any_first (p y) (list_any p xs) (ap p is ∙ passes)
any_holds p (y ∷ xs) x (suc k, inside, is) passes = any_second (p y) (list_any p xs) (any_holds p xs x (k, omega arith, is) passes)

found_passes : {X : Type 0} (p : X → Bool) (xs : List X) (x : X) → find p xs ≡ Some x → Contains xs x × (p x ≡ true)
found_passes p [] x is = absurd (none_some is)
found_passes {X} p (y ∷ xs) x is = by_first (p y) refl (found_passes p xs x) is
  where
    by_first : (b : Bool) → p y ≡ b → (find p xs ≡ Some x → Contains xs x × (p x ≡ true)) → (if b then Some y else find p xs) ≡ Some x → Contains (y ∷ xs) x × (p x ≡ true)
    by_first true e later f = ((0, omega arith, some_is f), subst (λ z. p z ≡ true) (some_is f) e)
    by_first false e later f = let rest = later f in ((suc rest.0.0, omega (arith, rest.0.1), rest.0.2), rest.1)

map_contains : {X Y : Type 0} (f : X → Y) (xs : List X) (x : X) → Contains xs x → Contains (map f xs) (f x)
map_contains f [] x (k, inside, is) = absurd (omega arith)
map_contains f (y ∷ xs) x (zero, inside, is) = (0, omega arith, ap f is)
map_contains f (y ∷ xs) x (suc k, inside, is) = let later = map_contains f xs x (k, omega arith, is) in (suc later.0, omega (arith, later.1), later.2)

both_is : (a b : Bool) → (a && b) ≡ true → (a ≡ true) × (b ≡ true)
both_is true b e = (refl, e)
both_is false b e = absurd (false≢true e)

among_is : (start size a n : ℕ) → is_among start size a n ≡ true → (start ≤ a) × (a + n ≤ start + size)
among_is start size a n h = (grind (arith, nat_tests, h), grind (arith, nat_tests, h))

among_begins : (start size a n : ℕ) → is_among start size a n ≡ true → a < start + size
among_begins start size a n h = grind (arith, nat_tests, h)

differs : (x y : ℕ) → x ≢ y → (x == y) ≡ false
differs x y ne = grind (arith, nat_tests)

-- ---- where words and readable bytes are

-- n bytes at an address are in the memory of a segment
abbrev IsInSegment : Contents → ℕ → ℕ → Type 0
IsInSegment image a n = (s : Segment) × Contains image.segments s × (s.vaddr ≤ a) × (a + n ≤ s.vaddr + s.memsz)

module _ (image : Contents) (is : IsImage image) where
  of_readable : (a n : ℕ) → in_readable image.segments a n ≡ true → IsInSegment image a n
  of_readable a n e =
      let found = any_found _ image.segments e in
      let inside = among_is found.0.vaddr found.0.memsz a n (both_is _ _ found.2).1 in
      (found.0, found.1, inside.0, inside.1)

  relocated : (a : ℕ) (kind : RelKind) → kind_at image.relocations a ≡ Some kind → IsInSegment image a 8
  unfolding kind_at
  relocated a kind e = by_found (find (λ (r : Relocation). r.place == a) image.relocations) refl e
    where
      by_found : (o : Option Relocation) → find (λ (r : Relocation). r.place == a) image.relocations ≡ o → option_map (λ (r : Relocation). r.kind) o ≡ Some kind → IsInSegment image a 8
      by_found None f e = absurd (none_some e)
      by_found (Some r) f e =
          let there = found_passes (λ (r : Relocation). r.place == a) image.relocations r f in
          let at : r.place ≡ a = eqb-true r.place a there.1 in
          let placed = all_of (λ (r : Relocation). list_any (λ s. is_data s r.place) image.segments ≡ true) image.relocations (image-placed image is) r there.0 in
          let found = any_found _ image.segments placed in
          let inside = among_is found.0.vaddr found.0.memsz r.place 8 (both_is _ _ found.2).0 in
          (found.0, found.1, omega (arith, inside.0, at), omega (arith, inside.1, at))

  -- a word that is Plain or Based lies in the image
  abbrev IsSettled : Word → Type 0
  IsSettled (word.Plain x) = Unit {0}
  IsSettled (word.Based b) = Unit {0}
  IsSettled (word.Bound k) = ⊥
  IsSettled word.Mixed = ⊥
  IsSettled word.Outside = ⊥

  unrelocated : (a n : ℕ) → IsSettled (unrelocated_word image a n) → IsInSegment image a n
  unrelocated a n h = by_touched (list_any (touches a n) image.relocations) (in_readable image.segments a n) (load (memory_byte image.bytes image.segments) a n) refl h
    where
      by_touched : (t r : Bool) (x : ℕ) → in_readable image.segments a n ≡ r → IsSettled (if t then word.Mixed else (if r then word.Plain x else word.Outside)) → IsInSegment image a n
      by_touched true r x e h = absurd h
      by_touched false true x e h = of_readable a n e
      by_touched false false x e h = absurd h

  settled : (a n : ℕ) → IsSettled (word_at image a n) → IsInSegment image a n
  unfolding word_at
  settled a n h = by_size (n == 8) refl h
    where
      by_kind : n ≡ 8 → (o : Option RelKind) → kind_at image.relocations a ≡ o → IsSettled (option_map_or word_of_kind o (unrelocated_word image a n)) → IsInSegment image a n
      by_kind eight None e h = unrelocated a n h
      by_kind eight (Some kind) e h = subst (IsInSegment image a) (sym eight) (relocated a kind e)

      by_size : (b : Bool) → (n == 8) ≡ b → IsSettled (option_map_or word_of_kind (if b then kind_at image.relocations a else None) (unrelocated_word image a n)) → IsInSegment image a n
      by_size true e h = by_kind (eqb-true n 8 e) (kind_at image.relocations a) refl h
      by_size false e h = unrelocated a n h

-- a site's word is the image's, of four or eight bytes
site_word_is : (image : Contents) (a n : ℕ) (q : SiteWord) → (q ≡ Other → ⊥) → site_word image a n ≡ q → ((n ≡ 4) ⊎ (n ≡ 8)) × (word_in (word_at image a n) ≡ q)
site_word_is image a n q some e = by_size (n == 4) (n == 8) refl refl e
  where
    by_size : (b c : Bool) → (n == 4) ≡ b → (n == 8) ≡ c → (if b || c then word_in (word_at image a n) else Other) ≡ q → ((n ≡ 4) ⊎ (n ≡ 8)) × (word_in (word_at image a n) ≡ q)
    by_size true c e f h = (inl (eqb-true n 4 e), h)
    by_size false true e f h = (inr (eqb-true n 8 f), h)
    by_size false false e f h = absurd (some (sym h))

plain_other : (x : ℕ) → Plain x ≡ Other → ⊥
plain_other x e = cc

based_other : (x : ℕ) → Based x ≡ Other → ⊥
based_other x e = cc

plain_is : (x y : ℕ) → Plain x ≡ Plain y → x ≡ y
plain_is x y e = cc

based_is : (x y : ℕ) → Based x ≡ Based y → x ≡ y
based_is x y e = cc

sizes_are : (n : ℕ) → (n ≡ 4) ⊎ (n ≡ 8) → IsSize n × (0 < n)
sizes_are n (inl e) = (inr (inr (inl e)), omega arith)
sizes_are n (inr e) = (inr (inr (inr e)), omega arith)

-- the number of four bytes, extended by its sign
extended_is : (x : ℕ) → x < 2 ^ 32 → extended true W32 W64 (low W32 x) ≡ sign_extended x 4
extended_is x small = by_top (cases_lt x (2 ^ 31))
  where
    by_top : (x < 2 ^ 31) ⊎ (2 ^ 31 ≤ x) → extended true W32 W64 (low W32 x) ≡ sign_extended x 4
    by_top (inl l) =
        let top : nat_le (2 ^ 31) (x % 2 ^ 32) ≡ false = grind (arith, nat_tests) in
        let half : nat_lt (x % 256 ^ 4) (256 ^ 4 / 2) ≡ true = grind (arith, nat_tests) in
        rw (top, half) omega arith
    by_top (inr l) =
        let top : nat_le (2 ^ 31) (x % 2 ^ 32) ≡ true = grind (arith, nat_tests) in
        let half : nat_lt (x % 256 ^ 4) (256 ^ 4 / 2) ≡ false = grind (arith, nat_tests) in
        rw (top, half) omega arith

-- ---- the module of a file, in an instance

byte_at : (byte : ℕ → ℕ) (base a n : ℕ) → load (λ q. byte (q - base)) (base + a) n ≡ load byte a n
byte_at byte base a zero = refl
byte_at byte base a (suc n) =
    ap (λ k. byte k + 256 * load (λ q. byte (q - base)) (base + a + 1) n) (omega arith)
    ∙ ap (λ k. byte a + 256 * load (λ q. byte (q - base)) k n) (omega arith)
    ∙ ap (λ k. byte a + 256 * k) (byte_at byte base (a + 1) n)

module _ (laws : SiteLaws) (file : List ℕ) (is : IsModule file) (headers : header_fault file ≡ None) (bytes_are : (a : ℕ) → slice_index (image_of file).bytes a < 256) where
  abbrev image : Contents
  image = image_of file

  abbrev declared : Declared
  declared = declared_module file

  abbrev m : ModuleView
  m = view_of declared

  -- the address and the number of entries of each table
  abbrev extents : List (ℕ × ℕ)
  extents = map extent_of (declared_tables file)

  abbrev Tabled : TableInfo → Type 0
  Tabled t = Contains (declared_tables file) t

  -- a table lies in the memory of a segment
  table_placed : (t : TableInfo) → Tabled t → IsInSegment image t.address (16 * length t.entries)
  unfolding image_of
  table_placed t listed =
      let d = laws.data_of file t is listed in
      let inside = among_is d.segment.vaddr d.segment.filesz t.address (16 * length t.entries) d.inside in
      let bounded = all_of (IsBounded (length file)) (segments_of file) (laws.bounded file headers) d.segment d.listed in
      (d.segment, d.listed, inside.0, omega (arith, inside.1, bounded.part))

  readable_place : (b : ℕ) → may_be_read image extents b ≡ true → IsInSegment image b 1
  unfolding readable
  readable_place b e = ⊎_elim
      (λ (r : readable image b 1 ≡ true). of_readable image (laws.images file is) b 1 (both_is _ _ r).0)
      (λ (r : list_any (is_in_entries b) extents ≡ true).
      let found = any_found (is_in_table b) (declared_tables file) (sym (any_extent b (declared_tables file)) ∙ r) in
      let inside = among_is found.0.address (16 * length found.0.entries) b 1 found.2 in
      let placed = table_placed found.0 found.1 in
      (placed.0, placed.1, omega (arith, placed.2, inside.0), omega (arith, placed.3, inside.1)))
      (any_cases _ _ e)

  -- the ranges of what the site tells
  pub is_site : (bounds : List ℕ) → IsBounds bounds → (next : ℕ) → IsSite (site_of image extents bounds next)
  is_site bounds are next = record {
    bounds = are;
    few = let few = laws.few file is in omega (arith, few, length-map (declared_tables file) extent_of);
    half = λ a x e. let h = plain_word a 4 x e in omega (arith, h);
    whole = λ a x e. let h = plain_word a 8 x e in omega (arith, h);
    based = λ a b e. based_word a b e;
  }
    where
      spells : (a n x : ℕ) → IsSize n → word_at image a n ≡ word.Plain x → x < 256 ^ n
      spells a n x size e =
          let given = laws.spelled image (laws.images file is) a n size 0 (λ number. 0) (λ number. lit< tt) in
          let same : load (image_byte image 0 (λ number. 0)) a n ≡ x = subst (λ (q : Word). Gives 0 (λ number. 0) q (image_word image 0 (λ number. 0) a n)) e given in
          subst (λ k. k < 256 ^ n) same (load_fits (image_byte image 0 (λ number. 0)) a n (λ b. image_fits image bytes_are 0 (λ number. 0) b))

      of_word : (q : Word) (x : ℕ) → word_in q ≡ Plain x → q ≡ word.Plain x
      of_word (word.Plain y) x e = ap word.Plain (plain_is y x e)
      of_word (word.Based y) x e = absurd (let never : Based (y % 2 ^ 64) ≡ Plain x = e in cc)
      of_word (word.Bound y) x e = absurd (let never : Other ≡ Plain x = e in cc)
      of_word word.Mixed x e = absurd (let never : Other ≡ Plain x = e in cc)
      of_word word.Outside x e = absurd (let never : Other ≡ Plain x = e in cc)

      plain_word : (a n x : ℕ) → site_word image a n ≡ Plain x → x < 256 ^ n
      plain_word a n x e =
          let w = site_word_is image a n (Plain x) (plain_other x) e in
          spells a n x (sizes_are n w.0).0 (of_word (word_at image a n) x w.1)

      of_based : (q : Word) (b : ℕ) → word_in q ≡ Based b → b < 2 ^ 64
      of_based (word.Plain y) b e = absurd (let never : Plain y ≡ Based b = e in cc)
      of_based (word.Based y) b e = subst (λ k. k < 2 ^ 64) (based_is (y % 2 ^ 64) b e) (mod-lt y (lit< tt))
      of_based (word.Bound y) b e = absurd (let never : Other ≡ Based b = e in cc)
      of_based word.Mixed b e = absurd (let never : Other ≡ Based b = e in cc)
      of_based word.Outside b e = absurd (let never : Other ≡ Based b = e in cc)

      based_word : (a b : ℕ) → site_word image a 8 ≡ Based b → b < 2 ^ 64
      based_word a b e = of_based (word_at image a 8) b (site_word_is image a 8 (Based b) (based_other b) e).1

  -- ---- in an instance

  module _ (w : World) (laid : IsLaidOut m.image m.imports w) (hosts_are : (number : ℕ) → slice_index w.hosts number < 2 ^ 64) where
    -- a byte is one of the image
    abbrev IsByte : ℕ → Type 0
    IsByte a = list_any (λ part. is_within a 1 (loaded_range w part)) m.image ≡ true

    segment_byte_is : (a n k : ℕ) → IsInSegment image a n → k < n → IsByte (w.load + a + k) × (w.load + a + k < 2 ^ 47)
    segment_byte_is a n k part inside =
        let s = part.0 in
        let listed = map_contains segment_range image.segments s part.1 in (
          any_holds _ (map segment_range image.segments) (segment_range s) listed (within (omega (arith, part.2)) (omega (arith, part.3, inside))),
          image_low laid (segment_range s) listed (w.load + a + k) (omega (arith, part.2)) (omega (arith, part.3, inside)),
        )
      where
        within : w.load + part.0.vaddr ≤ w.load + a + k → w.load + a + k + 1 ≤ w.load + (part.0.vaddr + part.0.memsz) → is_within (w.load + a + k) 1 (loaded_range w (segment_range part.0)) ≡ true
        within l u = grind (arith, nat_tests)

    bytes_in : (a n : ℕ) → ((k : ℕ) → k < n → IsByte (a + k)) → is_in_image m w a n ≡ true
    bytes_in a zero h = refl
    bytes_in a (suc n) h =
        ap (λ b. b && is_in_image m w (a + 1) n) (subst IsByte (omega arith) (h 0 (omega arith)))
        ∙ bytes_in (a + 1) n (λ k l. subst IsByte (omega arith) (h (suc k) (omega arith)))

    -- a byte of the image is not the instance word's, and none of the stack
    elsewhere : (parts : List Range) → AllByRecursion (λ part. AllByRecursion (AreApart (loaded_range w part)) (instance_ranges w)) parts → (a : ℕ) → list_any (λ part. is_within a 1 (loaded_range w part)) parts ≡ true
        → (a + 8 ≢ w.heap) × ((a < w.stack_low) ⊎ (w.stack_high ≤ a))
    elsewhere [] apart a e = absurd (false≢true e)
    elsewhere (part ∷ parts) apart a e = by_test (is_within a 1 (loaded_range w part)) refl e (elsewhere parts apart.1 a)
      where
        inside : is_within a 1 (loaded_range w part) ≡ true → IsIn a (loaded_range w part)
        inside t = (grind (arith, nat_tests), grind (arith, nat_tests))

        by_test : (b : Bool) → is_within a 1 (loaded_range w part) ≡ b → (b || list_any (λ part. is_within a 1 (loaded_range w part)) parts) ≡ true
            → (list_any (λ part. is_within a 1 (loaded_range w part)) parts ≡ true → (a + 8 ≢ w.heap) × ((a < w.stack_low) ⊎ (w.stack_high ≤ a)))
            → (a + 8 ≢ w.heap) × ((a < w.stack_low) ⊎ (w.stack_high ≤ a))
        by_test true t e rest =
            let i = inside t in (
              (λ (q : a + 8 ≡ w.heap). apart.0.0 a i (omega arith, omega arith)),
              ⊎_elim (λ (l : a < w.stack_low). inl l) (λ (l : w.stack_low ≤ a). ⊎_elim (λ (u : a < w.stack_high). absurd (apart.0.1.1.0 a i (omega arith, u))) (λ (u : w.stack_high ≤ a). inr u) (cases_lt a w.stack_high)) (cases_lt a w.stack_low),
            )
        by_test false t e rest = rest e

    -- the bytes of a plain word
    pub plain_bytes : (a n x : ℕ) → site_word image a n ≡ Plain x → load (m.byte w) a n ≡ x
    plain_bytes a n x e =
        let at = site_word_is image a n (Plain x) (plain_other x) e in
        by_word (word_at image a n) at.1 (laws.spelled image (laws.images file is) a n (sizes_are n at.0).0 w.load (slice_index w.hosts) hosts_are)
      where
        by_word : (r : Word) → word_in r ≡ Plain x → Gives w.load (slice_index w.hosts) r (load (m.byte w) a n) → load (m.byte w) a n ≡ x
        by_word (word.Plain y) e g = g ∙ plain_is y x e
        by_word (word.Based y) e g = absurd (let never : Based (y % 2 ^ 64) ≡ Plain x = e in cc)
        by_word (word.Bound y) e g = absurd (let never : Other ≡ Plain x = e in cc)
        by_word word.Mixed e g = absurd (let never : Other ≡ Plain x = e in cc)
        by_word word.Outside e g = absurd (let never : Other ≡ Plain x = e in cc)

    module _ (choice : Choice) where
      -- a load from the image
      image_loads : (bytes : Bytes) (a n : ℕ) → 0 < n → is_in_image m w a n ≡ true → loads m w choice bytes a n ≡ image_number m w a n
      image_loads bytes a zero some e = absurd (omega arith)
      image_loads bytes a (suc n) some e =
          ap (λ b. if b then w.globals else (if is_within a (suc n) (stack_range w) then load bytes a (suc n) else (if is_in_image m w a (suc n) then image_number m w a (suc n) else number_of choice 0 % 256 ^ suc n))) no_word
          ∙ ap (λ b. if b then load bytes a (suc n) else (if is_in_image m w a (suc n) then image_number m w a (suc n) else number_of choice 0 % 256 ^ suc n)) (no_stack out.1)
          ∙ ap (λ b. if b then image_number m w a (suc n) else number_of choice 0 % 256 ^ suc n) e
        where
          out : (a + 8 ≢ w.heap) × ((a < w.stack_low) ⊎ (w.stack_high ≤ a))
          out = elsewhere m.image laid.image_apart a (both_is _ (is_in_image m w (a + 1) n) e).0

          no_word : ((a + 8 == w.heap) && (suc n == 8)) ≡ false
          no_word = ap (λ b. b && (suc n == 8)) (differs (a + 8) w.heap out.0)

          no_stack : (a < w.stack_low) ⊎ (w.stack_high ≤ a) → is_within a (suc n) (stack_range w) ≡ false
          no_stack (inl l) = grind (arith, nat_tests)
          no_stack (inr l) = beyond a (suc n) (omega arith) l
            where
              beyond : (a k : ℕ) → 0 < k → w.stack_high ≤ a → is_within a k (stack_range w) ≡ false
              beyond a k some l = grind (arith, nat_tests)

      -- the bytes of the image there, after relocation
      word_loads : (bytes : Bytes) (a n : ℕ) → 0 < n → ((k : ℕ) → k < n → IsByte (w.load + a + k) × (w.load + a + k < 2 ^ 47)) → loads m w choice bytes ((w.load + a) % 2 ^ 64) n ≡ load (m.byte w) a n
      word_loads bytes a n some h =
          let small = (h 0 some).1 in
          ap (λ b. loads m w choice bytes b n) (mod-eq_of_lt (omega arith))
          ∙ image_loads bytes (w.load + a) n some (bytes_in (w.load + a) n (λ k l. (h k l).0))
          ∙ byte_at (m.byte w) w.load a n

      given : (bytes : Bytes) (a n : ℕ) (q : SiteWord) → (q ≡ Other → ⊥) → site_word image a n ≡ q
          → (r : Word) × (word_in r ≡ q) × Gives w.load (slice_index w.hosts) r (loads m w choice bytes ((w.load + a) % 2 ^ 64) n)
      given bytes a n q some e =
          let at = site_word_is image a n q some e in
          let size = sizes_are n at.0 in
          let place = settled image (laws.images file is) a n (known (word_at image a n) (λ o. some (sym at.1 ∙ o))) in
          let G : ℕ → Type 0 = λ k. Gives w.load (slice_index w.hosts) (word_at image a n) k in
          (word_at image a n, at.1, subst G (sym (word_loads bytes a n size.1 (λ k l. segment_byte_is a n k place l))) (laws.spelled image (laws.images file is) a n size.0 w.load (slice_index w.hosts) hosts_are))
        where
          known : (r : Word) → (word_in r ≡ Other → ⊥) → IsSettled image (laws.images file is) r
          known (word.Plain x) h = tt
          known (word.Based b) h = tt
          known (word.Bound k) h = h refl
          known word.Mixed h = h refl
          known word.Outside h = h refl

      plain_given : (bytes : Bytes) (a n x : ℕ) → site_word image a n ≡ Plain x → loads m w choice bytes ((w.load + a) % 2 ^ 64) n ≡ x
      plain_given bytes a n x e = let g = given bytes a n (Plain x) (plain_other x) e in by_word g.0 g.1 g.2
        where
          by_word : (r : Word) → word_in r ≡ Plain x → Gives w.load (slice_index w.hosts) r (loads m w choice bytes ((w.load + a) % 2 ^ 64) n) → loads m w choice bytes ((w.load + a) % 2 ^ 64) n ≡ x
          by_word (word.Plain y) e g = g ∙ plain_is y x e
          by_word (word.Based y) e g = absurd (let never : Based (y % 2 ^ 64) ≡ Plain x = e in cc)
          by_word (word.Bound y) e g = absurd (let never : Other ≡ Plain x = e in cc)
          by_word word.Mixed e g = absurd (let never : Other ≡ Plain x = e in cc)
          by_word word.Outside e g = absurd (let never : Other ≡ Plain x = e in cc)

      based_given : (bytes : Bytes) (a b : ℕ) → site_word image a 8 ≡ Based b → loads m w choice bytes ((w.load + a) % 2 ^ 64) 8 ≡ (w.load + b) % 2 ^ 64
      based_given bytes a b e = let g = given bytes a 8 (Based b) (based_other b) e in by_word g.0 g.1 g.2
        where
          by_word : (r : Word) → word_in r ≡ Based b → Gives w.load (slice_index w.hosts) r (loads m w choice bytes ((w.load + a) % 2 ^ 64) 8) → loads m w choice bytes ((w.load + a) % 2 ^ 64) 8 ≡ (w.load + b) % 2 ^ 64
          by_word (word.Plain y) e g = absurd (let never : Plain y ≡ Based b = e in cc)
          by_word (word.Based y) e g = let same = based_is (y % 2 ^ 64) b e in g ∙ omega (arith, same)
          by_word (word.Bound y) e g = absurd (let never : Other ≡ Based b = e in cc)
          by_word word.Mixed e g = absurd (let never : Other ≡ Based b = e in cc)
          by_word word.Outside e g = absurd (let never : Other ≡ Based b = e in cc)

      -- what memory is where the instruction word and the stack are concerned
      stack_loads : (bytes : Bytes) (a n : ℕ) → w.stack_low ≤ a → a + n ≤ w.stack_high → loads m w choice bytes a n ≡ load bytes a n
      stack_loads bytes a n low high =
          ap (λ b. if b then w.globals else (if is_within a n (stack_range w) then load bytes a n else (if is_in_image m w a n then image_number m w a n else number_of choice 0 % 256 ^ n))) (by_size (n == 8) refl)
          ∙ ap (λ b. if b then load bytes a n else (if is_in_image m w a n then image_number m w a n else number_of choice 0 % 256 ^ n)) inside
        where
          inside : is_within a n (stack_range w) ≡ true
          inside = grind (arith, nat_tests)

          never : (c : Bool) → (c && false) ≡ false
          never true = refl
          never false = refl

          by_size : (b : Bool) → (n == 8) ≡ b → ((a + 8 == w.heap) && b) ≡ false
          by_size false e = never (a + 8 == w.heap)
          by_size true e =
              let eight : n ≡ 8 = eqb-true n 8 e in
              let room = laid.room_below_heap in
              ap (λ c. c && true) (differs (a + 8) w.heap (λ q. heap_or_stack laid a (omega arith) (omega arith) low (omega arith)))

      globals_load : (bytes : Bytes) → loads m w choice bytes (w.heap - 8) 8 ≡ w.globals
      globals_load bytes = ap (λ b. if b then w.globals else (if is_within (w.heap - 8) 8 (stack_range w) then load bytes (w.heap - 8) 8 else (if is_in_image m w (w.heap - 8) 8 then image_number m w (w.heap - 8) 8 else number_of choice 0 % 256 ^ 8))) here
        where
          room : 8 ≤ w.heap
          room = laid.room_below_heap

          here : ((w.heap - 8 + 8 == w.heap) && (8 == 8)) ≡ true
          here = grind (arith, nat_tests)

    -- an entry of a table of the instance is one of the module
    pub record IsEntry (t : ℕ) (table : FunctionTable) (i : ℕ) (entry : Slot) : Type 0 where
      pub info : TableInfo
      pub number : slice_get m.tables t ≡ Some info
      pub listed : Tabled info
      pub address : table.address ≡ info.address
      pub inside : i < length info.entries
      pub e : TableEntry
      pub got : slice_get info.entries i ≡ Some e
      pub tag : entry.tag ≡ e.tag
      pub pointer : entry.pointer ≡ load (m.byte w) (info.address + 16 * i + 8) 8

    pub entry_is : (t : ℕ) (table : FunctionTable) → slice_get (map (table_in m w) m.tables) t ≡ Some table → (i : ℕ) (entry : Slot) → slice_get table.entries i ≡ Some entry → IsEntry t table i entry
    entry_is t table at i entry got =
        let one = got_mapped (table_in m w) m.tables t table at in
        let there : slice_get (entries_in (m.byte w) one.0.address one.0.entries) i ≡ Some entry = subst (λ (x : FunctionTable). slice_get x.entries i ≡ Some entry) one.2 got in
        let two = got_entry (m.byte w) one.0.address one.0.entries i entry there in
        record {
          info = one.0;
          number = one.1;
          listed = contains_got m.tables t one.0 one.1;
          address = ap (λ (x : FunctionTable). x.address) one.2;
          inside = got_within one.0.entries i two.0 two.1;
          e = two.0;
          got = two.1;
          tag = two.2;
          pointer = two.3;
        }

    -- the pointer of an entry that is not empty has the address that the instance holds there
    pub pointer_is : (t : ℕ) (table : FunctionTable) (i : ℕ) (entry : Slot) (e : IsEntry t table i entry) → e.e.tag ≢ 18446744073709551615 → is_address w e.e.pointer entry.pointer ≡ true
    pointer_is t table i entry e some =
        let at = e.info.address + 16 * i + 8 in
        let G : Word → Type 0 = λ q. Gives w.load (slice_index w.hosts) q (load (m.byte w) at 8) in
        let given = subst G (laws.pointers file e.info i e.e is e.listed e.got) (laws.spelled image (laws.images file is) at 8 (inr (inr (inr refl))) w.load (slice_index w.hosts) hosts_are) in
        by_word e.e.pointer given (laws.called file e.info e.e is e.listed (contains_got e.info.entries i e.e e.got) some)
      where
        same : (a b : ℕ) → a ≡ b → (a == b) ≡ true
        same a b e = grind (arith, nat_tests)

        by_word : (q : Word) → Gives w.load (slice_index w.hosts) q (load (m.byte w) (e.info.address + 16 * i + 8) 8) → is_pointer image (declared_functions file) q ≡ true → is_address w q entry.pointer ≡ true
        by_word (word.Plain x) g is = absurd (false≢true is)
        by_word (word.Based b) g is = same entry.pointer _ (e.pointer ∙ g)
        by_word (word.Bound k) g is = same entry.pointer _ (e.pointer ∙ g)
        by_word word.Mixed g is = absurd (false≢true is)
        by_word word.Outside g is = absurd (false≢true is)

    module _ (entered : Registers) where
      abbrev s : Instance
      s = instance_of m w entered

      -- each byte of a table is in the image
      table_byte : (info : TableInfo) → Tabled info → (k : ℕ) → k < 16 * length info.entries → IsByte (w.load + info.address + k) × (w.load + info.address + k < 2 ^ 47)
      table_byte info listed k inside = segment_byte_is info.address (16 * length info.entries) k (table_placed info listed) inside

      -- a table lies low
      table_low : (info : TableInfo) → Tabled info → (w.load + info.address < 2 ^ 47) × (info.address + 16 * length info.entries ≤ 2 ^ 31)
      unfolding image_of
      table_low info listed =
          let d = laws.data_of file info is listed in
          let inside = among_is d.segment.vaddr d.segment.filesz info.address (16 * length info.entries) d.inside in
          let begins = among_begins d.segment.vaddr d.segment.filesz info.address (16 * length info.entries) d.inside in
          let bounded = all_of (IsBounded (length file)) (segments_of file) (laws.bounded file headers) d.segment d.listed in
          let part : 1 ≤ d.segment.memsz = omega (arith, begins, inside.0, bounded.part) in
          let b = segment_byte_is info.address 1 0 (d.segment, d.listed, inside.0, omega (arith, begins, bounded.part)) (lit< tt) in
          (omega (arith, b.1), omega (arith, inside.1, bounded.part, bounded.below))

      pub has_tables : HasTables s
      has_tables = record { ends = ends; tags = tags }
        where
          ends : (t : ℕ) (table : FunctionTable) → slice_get s.tables t ≡ Some table → s.load + table.address + 16 * length table.entries + 2 ^ 21 ≤ 2 ^ 64
          ends t table at =
              let one = got_mapped (table_in m w) m.tables t table at in
              let low = table_low one.0 (contains_got m.tables t one.0 one.1) in
              let count : length table.entries ≡ length one.0.entries = ap (λ (x : FunctionTable). length x.entries) one.2 ∙ entry_count (m.byte w) one.0.address one.0.entries in
              let address : table.address ≡ one.0.address = ap (λ (x : FunctionTable). x.address) one.2 in
              omega (arith, low.0, low.1, count, address)

          tags : (t : ℕ) (table : FunctionTable) → slice_get s.tables t ≡ Some table → (i : ℕ) (entry : Slot) → slice_get table.entries i ≡ Some entry → (entry.tag < 2 ^ 32 - 1) ⊎ (entry.tag ≡ 2 ^ 64 - 1)
          tags t table at i entry got =
              let e = entry_is t table at i entry got in
              let same = e.tag in
              ⊎_elim
              (λ (l : e.e.tag < 4294967295). inl (omega arith))
              (λ (l : e.e.tag ≡ 18446744073709551615). inr (omega arith))
              (laws.ranges file e.info e.e is e.listed (contains_got e.info.entries i e.e e.got))

      -- a byte that may be read is one of the image, and addresses it below the top
      pub byte_is : (b : ℕ) → may_be_read image extents b ≡ true → IsByte (w.load + b) × (w.load + b < 2 ^ 47)
      byte_is b e =
          let t = segment_byte_is b 1 0 (readable_place b e) (lit< tt) in
          (subst IsByte (omega arith) t.0, omega (arith, t.1))

      pub has_image : (bounds : List ℕ) (next : ℕ) → HasImage s (site_of image extents bounds next)
      has_image bounds next = record {
        ends = λ b e. (byte_is b e).1;
        small = λ b e. let l = (byte_is b e).1 in omega (arith, l);
        tables = tables;
      }
        where
          among : (start size a : ℕ) → start ≤ a → a + 1 ≤ start + size → is_among start size a 1 ≡ true
          among start size a l u = grind (arith, nat_tests)

          tables : (t : ℕ) (table : FunctionTable) → slice_get s.tables t ≡ Some table → (i j : ℕ) → i < length table.entries → j < 16 → may_be_read image extents (table.address + 16 * i + j) ≡ true
          tables t table at i j inside small =
              let one = got_mapped (table_in m w) m.tables t table at in
              let count : length table.entries ≡ length one.0.entries = ap (λ (x : FunctionTable). length x.entries) one.2 ∙ entry_count (m.byte w) one.0.address one.0.entries in
              let address : table.address ≡ one.0.address = ap (λ (x : FunctionTable). x.address) one.2 in
              any_second (readable image (table.address + 16 * i + j) 1) _
              (any_extent (table.address + 16 * i + j) m.tables
              ∙ any_holds (is_in_table (table.address + 16 * i + j)) m.tables one.0 (contains_got m.tables t one.0 one.1)
              (among one.0.address (16 * length one.0.entries) (table.address + 16 * i + j) (omega (arith, address)) (omega (arith, address, count, inside, small))))

      apart_ranges : (r t : Range) → r.from < r.to → t.from < t.to → AreApart r t → (r.to ≤ t.from) ⊎ (t.to ≤ r.from)
      apart_ranges r t some also apart = ⊎_elim
          (λ (a : t.from < r.to). ⊎_elim
          (λ (b : r.from < t.to). absurd (⊎_elim
          (λ (c : r.from < t.from). apart t.from (omega arith, a) (omega arith, also))
          (λ (c : t.from ≤ r.from). apart r.from (omega arith, some) (c, b))
          (cases_lt r.from t.from)))
          (λ (b : t.to ≤ r.from). inr b)
          (cases_lt r.from t.to))
          (λ (a : r.to ≤ t.from). inl a)
          (cases_lt t.from r.to)

      heap_apart : (w.heap + 2 ^ 33 ≤ w.stack_low) ⊎ (w.stack_high ≤ w.heap)
      heap_apart =
          let room = laid.stack_room in
          let r = apart_ranges (record { from = w.heap - 8; to = w.heap + 2 ^ 33 }) (record { from = w.stack_low - 8192; to = w.stack_high }) (omega arith) (omega arith) (laid.instance_apart 0 2 (record { from = w.heap - 8; to = w.heap + 2 ^ 33 }) (lit< tt) (lit< tt)) in
          ⊎_elim (λ (a : w.heap + 2 ^ 33 ≤ w.stack_low - 8192). inl (omega arith)) (λ (a : w.stack_high ≤ w.heap - 8). inr (omega arith)) r

      globals_apart : (w.globals + 4096 ≤ w.stack_low) ⊎ (w.stack_high ≤ w.globals)
      globals_apart =
          let room = laid.stack_room in
          let r = apart_ranges (record { from = w.globals; to = w.globals + 4096 }) (record { from = w.stack_low - 8192; to = w.stack_high }) (omega arith) (omega arith) (laid.instance_apart 1 2 (record { from = w.globals; to = w.globals + 4096 }) (lit< tt) (lit< tt)) in
          ⊎_elim (λ (a : w.globals + 4096 ≤ w.stack_low - 8192). inl (omega arith)) (λ (a : w.stack_high ≤ w.globals). inr a) r

      module _ (top : Activation) (now : Moment) (tmp : ℕ) where
        pub is_placed : (bounds : List ℕ) (start next : ℕ) → next ≡ w.load + start → IsPlaced (machine_of m w entered top now tmp) (site_of image extents bounds start) next
        is_placed bounds start next at = record {
          room = laid.room_below_stack;
          ends = stack_ends laid;
          heap_ends = heap_ends laid;
          heap_room = laid.room_below_heap;
          globals_end = (let last : w.globals + 4096 - 1 < 2 ^ 47 = laid.instance_ends.1.0 (w.globals + 4096 - 1) (omega arith, omega arith) in omega arith);
          heap_apart = heap_apart;
          globals_apart = globals_apart;
          next_is = at;
          tables = extents_are m w m.tables;
        }

        pub is_memory : (bounds : List ℕ) (start : ℕ) (choice : Choice) → IsMemory (machine_of m w entered top now tmp) (site_of image extents bounds start) (loads m w choice)
        is_memory bounds start choice = record {
          in_stack = stack_loads choice;
          globals = globals_load choice;
          plain = plain_given choice;
          based = based_given choice;
          jump = jump;
          tag = tag;
          pointer = pointer;
        }
          where
            jump : (bytes : Bytes) (a i : ℕ) → AreReadable (site_of image extents bounds start) (a + 4 * i) 4
                → extended true W32 W64 (low W32 (loads m w choice bytes ((w.load + a + 4 * i) % 2 ^ 64) 4)) ≡ offset_at s (a + 4 * i)
            jump bytes a i r =
                let is_load : loads m w choice bytes ((w.load + a + 4 * i) % 2 ^ 64) 4 ≡ load (m.byte w) (a + 4 * i) 4 =
                ap (λ x. loads m w choice bytes x 4) (omega arith)
                ∙ word_loads choice bytes (a + 4 * i) 4 (lit< tt) (λ k l. let b = byte_is (a + 4 * i + k) (r k l) in (subst IsByte (omega arith) b.0, omega (arith, b.1))) in
                let fits : load (m.byte w) (a + 4 * i) 4 < 256 ^ 4 = load_fits (m.byte w) (a + 4 * i) 4 (λ b. image_fits image bytes_are w.load (slice_index w.hosts) b) in
                ap (λ x. extended true W32 W64 (low W32 x)) is_load ∙ extended_is (load (m.byte w) (a + 4 * i) 4) (omega (arith, fits))

            word_at_entry : (bytes : Bytes) (info : TableInfo) → Tabled info → (i d y : ℕ) → i < length info.entries → d ≤ 8 → y ≡ (w.load + info.address + 16 * i + d) % 2 ^ 64
                → loads m w choice bytes y 8 ≡ load (m.byte w) (info.address + 16 * i + d) 8
            word_at_entry bytes info listed i d y inside small at =
                ap (λ x. loads m w choice bytes x 8) (at ∙ ap (λ x. x % 2 ^ 64) (omega arith))
                ∙ word_loads choice bytes (info.address + 16 * i + d) 8 (lit< tt) (λ k l. let b = table_byte info listed (16 * i + d + k) (omega (arith, inside, small, l)) in (subst IsByte (omega arith) b.0, omega (arith, b.1)))

            tag : (bytes : Bytes) (t y g : ℕ) → AtEntry s t (HasTag g) y → loads m w choice bytes y 8 ≡ g
            tag bytes t y g at =
                let e = entry_is t at.table at.is_table at.i at.entry at.is_entry in
                let low = table_low e.info e.listed in
                let small = e.inside in
                let is_plain : site_word image (e.info.address + 16 * at.i) 8 ≡ Plain e.e.tag = ap word_in (laws.tags file e.info at.i e.e is e.listed e.got) in
                let y_is : y ≡ (w.load + (e.info.address + 16 * at.i)) % 2 ^ 64 = at.at ∙ ap (λ x. x % 2 ^ 64) (omega (arith, e.address)) in
                ap (λ x. loads m w choice bytes x 8) y_is ∙ plain_given choice bytes (e.info.address + 16 * at.i) 8 e.e.tag is_plain ∙ sym e.tag ∙ at.holds

            pointer : (bytes : Bytes) (t y g : ℕ) → AtEntry s t (HasTag g) y → AtEntry s t (IsFunction g (loads m w choice bytes ((y + 8) % 2 ^ 64) 8)) y
            pointer bytes t y g at =
                let e = entry_is t at.table at.is_table at.i at.entry at.is_entry in
                let y_is : (y + 8) % 2 ^ 64 ≡ (w.load + e.info.address + 16 * at.i + 8) % 2 ^ 64 = (let y_at = at.at in let same = e.address in omega arith) in
                record {
                  table = at.table;
                  is_table = at.is_table;
                  i = at.i;
                  entry = at.entry;
                  is_entry = at.is_entry;
                  at = at.at;
                  holds = (at.holds, e.pointer ∙ sym (word_at_entry bytes e.info e.listed at.i 8 ((y + 8) % 2 ^ 64) e.inside (lit< tt) y_is));
                }
