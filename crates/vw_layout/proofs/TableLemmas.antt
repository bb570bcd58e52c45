-- Tables that pairs name: what is found in them, and where they end.
use Rattle.std.proofs.Common.{◌≡◌, ℕ, ◌+◌, ◌*◌, ◌<◌, ◌≤◌, ◌^◌, ◌&&◌, Bool, true, false, not, cond, List, [], ◌∷◌, ◌++◌, map, length, get_or, take, drop, Option, Some, None, option_map, refl, sym, ap, ◌∙◌, arith, suc, inl, inr}
use Rattle.std.specs.List.{find, flat_map}
use Rattle.std.proofs.lemmas.Bool.{false≢true}
use Rattle.std.proofs.lemmas.Bool.Decides.{nat_tests}
use Rattle.std.proofs.lemmas.List.{take_more, flat_map_more, map-append}
use Rattle.std.proofs.lemmas.List.Concat.{flat_map-append}
use Rattle.vw_bits.proofs.Tables.{table-more}
use Rattle.std.proofs.lemmas.List.Folds.{find-append, flat_map-map}
use Rattle.std.proofs.lemmas.List.Elements.{All-weaker}
use Rattle.vw_bits.specs.Headers.{table, is_readable, is_executable}
use Rattle.vw_bits.specs.Places.{in_file_part}
use Rattle.vw_bits.specs.declared.records.Segment.{Segment}
use Rattle.vw_bits.specs.Bounds.{IsBounded, AreBounded}
use Rattle.vw_bits.proofs.ListLemmas.{or_cases, split_at}
use Rattle.vw_image.specs.Image.{Contents}
use Rattle.vw_layout.specs.Tables.{in_read_part, in_data_part, is_table, is_table_entry, entries_from, table_at, place_of}
use Rattle.vw_layout.specs.Spans.{span_at, entries_in, table_in, IsLow, AreLow}
use Rattle.vw_layout.specs.declared.functions.Function.{Function}
use Rattle.vw_layout.specs.declared.tables.Span.{Span}
use Rattle.vw_layout.proofs.ShortLemmas.{find_none-All}

-- lists end to end
pub find_flat_more : {X Y : Type 0} (p : X → Bool) (f : Y → List X) (ys : List Y) (i : ℕ) (d : Y) → i < length ys → find p (flat_map f (take i ys)) ≡ None → find p (f (get_or ys i d)) ≡ None → find p (flat_map f (take (i + 1) ys)) ≡ None
find_flat_more p f ys i d inside before here =
    let step : take (i + 1) ys ≡ take i ys ++ get_or ys i d ∷ [] = take_more ys i d inside in
    let joined : flat_map f (take i ys) ++ f (get_or ys i d) ≡ flat_map f (take i ys ++ get_or ys i d ∷ []) = flat_map_more f [] (take i ys) (get_or ys i d) in
    rw (step, ← joined, find-append, before) here

pub find_flat_here : {X Y : Type 0} (p : X → Bool) (f : Y → List X) (ys : List Y) (i : ℕ) (d : Y) (x : X) → i < length ys → find p (flat_map f (take i ys)) ≡ None → find p (f (get_or ys i d)) ≡ Some x → find p (flat_map f ys) ≡ Some x
find_flat_here p f ys i d x inside before here =
    let rest : find p (flat_map f (get_or ys i d ∷ drop (suc i) ys)) ≡ Some x = rw (find-append, here) refl in
    let joined : find p (flat_map f (take i ys ++ get_or ys i d ∷ drop (suc i) ys)) ≡ Some x = rw (flat_map-append, find-append, before) rest in
    ap (λ (zs : List _). find p (flat_map f zs)) (split_at ys i d inside) ∙ joined

-- a table read to its end
pub found_all : (p : ℕ → Bool) (at n count : ℕ) → n ≡ count → find p (table at 16 n) ≡ None → None ≡ find p (table at 16 count)
found_all p at n count all none = rw (← all) (sym none)

pub read_all : {X : Type 0} (f : ℕ → X) (at n count : ℕ) (kept : List X) → n ≡ count → kept ≡ map f (table at 16 n) → kept ≡ map f (table at 16 count)
read_all f at n count kept all so_far = rw (← all) so_far

pub read_one : {X : Type 0} (f : ℕ → X) (at n : ℕ) (x : X) (kept longer : List X) → x ≡ f (at + 16 * n) → kept ≡ map f (table at 16 n) → longer ≡ kept ++ x ∷ [] → longer ≡ map f (table at 16 (n + 1))
read_one f at n x kept longer is so_far pushed = rw (table-more, map-append, ← so_far, ← is) pushed

-- what is found in a list of images, seen in the list
back_step : {X Y : Type 0} (g : Y → X) (y : Y) (x : X) (found : Option Y) (behind : Option X) (passes : Bool) → g y ≡ x → option_map g found ≡ behind → option_map g (cond passes (Some y) found) ≡ cond passes (Some x) behind
back_step g y x found behind true is rest = ap Some is
back_step g y x found behind false is rest = rest

pub find_back : {X Y : Type 0} (f : X → Y) (g : Y → X) (p : Y → Bool) (xs : List X) → ((x : X) → g (f x) ≡ x) → option_map g (find p (map f xs)) ≡ find (λ x. p (f x)) xs
find_back f g p [] back = refl
find_back f g p (x ∷ xs) back = back_step g (f x) x (find p (map f xs)) (find (λ z. p (f z)) xs) (p (f x)) (back x) (find_back f g p xs back)

-- rule 34 and rule 35 by the spans
pub tables_found : (image : Contents) (pairs : List ℕ) (spans : List Span) → spans ≡ map (span_at image) pairs → option_map (λ s. s.pair) (find (λ s. not (in_data_part image.segments s.start (16 * s.count))) spans) ≡ find (λ pair. not (is_table image pair)) pairs
tables_found image pairs spans are =
    ap (λ (ss : List Span). option_map (λ s. s.pair) (find (λ s. not (in_data_part image.segments s.start (16 * s.count))) ss)) are
    ∙ find_back (span_at image) (λ s. s.pair) (λ s. not (in_data_part image.segments s.start (16 * s.count))) pairs (λ x. refl)

pub entries_found : (image : Contents) (functions : List Function) (pairs : List ℕ) (spans : List Span) → spans ≡ map (span_at image) pairs → find (λ entry. not (is_table_entry image functions entry)) (flat_map entries_in spans) ≡ find (λ entry. not (is_table_entry image functions entry)) (flat_map (entries_from image) pairs)
entries_found image functions pairs spans are =
    let same : flat_map entries_in spans ≡ flat_map (entries_from image) pairs = ap (flat_map entries_in) are ∙ flat_map-map entries_in (span_at image) pairs in
    ap (find (λ entry. not (is_table_entry image functions entry))) same

tables_joined : (image : Contents) (pairs : List ℕ) → map (table_in image) (map (span_at image) pairs) ≡ map (table_at image) pairs
unfolding table_at
tables_joined image [] = refl
tables_joined image (pair ∷ pairs) = rw (tables_joined image pairs) refl

pub tables_same : (image : Contents) (pairs : List ℕ) (spans : List Span) → spans ≡ map (span_at image) pairs → map (table_in image) spans ≡ map (table_at image) pairs
tables_same image pairs spans are = ap (map (table_in image)) are ∙ tables_joined image pairs

-- ranges in the file part of a segment end at or below 2^32
read_end : (segment : Segment) (a n : ℕ) → IsBounded (2 ^ 64) segment → (is_readable segment && in_file_part a n segment) ≡ true → a + n ≤ 2 ^ 32
read_end segment a n bounded inside =
    let end : segment.vaddr + segment.memsz ≤ 2 ^ 31 = bounded.below in
    let short : segment.filesz ≤ segment.memsz = bounded.part in
    let part : a + n ≤ segment.vaddr + segment.filesz = grind (arith, nat_tests, inside) in
    omega (arith, end, short, part)

pub read_below : (segments : List Segment) (a n : ℕ) → AreBounded (2 ^ 64) segments → in_read_part segments a n ≡ true → a + n ≤ 2 ^ 32
read_below [] a n bounded some = absurd (false≢true some)
read_below (segment ∷ more) a n bounded some =
    elim (or_cases (is_readable segment && in_file_part a n segment) (in_read_part more a n) some) [
      | inl here ↦ read_end segment a n bounded.0 here
      | inr there ↦ read_below more a n bounded.1 there
    ]

data_end : (segment : Segment) (a n : ℕ) → IsBounded (2 ^ 64) segment → (is_readable segment && not (is_executable segment) && in_file_part a n segment) ≡ true → a + n ≤ 2 ^ 32
data_end segment a n bounded inside =
    let end : segment.vaddr + segment.memsz ≤ 2 ^ 31 = bounded.below in
    let short : segment.filesz ≤ segment.memsz = bounded.part in
    let part : a + n ≤ segment.vaddr + segment.filesz = grind (arith, nat_tests, inside) in
    omega (arith, end, short, part)

data_below : (segments : List Segment) (a n : ℕ) → AreBounded (2 ^ 64) segments → in_data_part segments a n ≡ true → a + n ≤ 2 ^ 32
data_below [] a n bounded some = absurd (false≢true some)
data_below (segment ∷ more) a n bounded some =
    elim (or_cases (is_readable segment && not (is_executable segment) && in_file_part a n segment) (in_data_part more a n) some) [
      | inl here ↦ data_end segment a n bounded.0 here
      | inr there ↦ data_below more a n bounded.1 there
    ]

pub passed : (b : Bool) → not b ≡ false → b ≡ true
passed true h = refl
passed false h = cc

none_of : {X Y : Type 0} (g : X → Y) (found : Option X) → option_map g found ≡ None → found ≡ None
none_of g None none = refl
none_of g (Some x) none = cc

pub nowhere : (segments : List Segment) (found : Option ℕ) → place_of segments found ≡ None → found ≡ None
nowhere segments None none = refl
nowhere segments (Some a) none = cc

-- what rule 34 gives
pub AreLow-from_rule : (segments : List Segment) (spans : List Span) → AreBounded (2 ^ 64) segments → option_map (λ s. s.pair) (find (λ s. not (in_data_part segments s.start (16 * s.count))) spans) ≡ None → AreLow spans
AreLow-from_rule segments spans bounded none =
    let test : Span → Bool = λ s. not (in_data_part segments s.start (16 * s.count)) in
    let all = find_none-All test spans (none_of (λ s. s.pair) (find test spans) none) in
    All-weaker (λ s. test s ≡ false) IsLow (λ s placed. data_below segments s.start (16 * s.count) bounded (passed (in_data_part segments s.start (16 * s.count)) placed)) spans all
