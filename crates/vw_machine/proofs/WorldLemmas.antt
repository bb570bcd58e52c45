-- An instance that is laid out well.
use Rattle.std.proofs.Common.{◌≡◌, ◌≢◌, ℕ, zero, suc, ◌+◌, ◌*◌, ◌^◌, ◌≤◌, ◌<◌, List, [], ◌∷◌, ◌++◌, length, get_or, map, None, refl, sym, ◌∙◌, ap, subst, arith, lit<, lit≤}
use Rattle.std.specs.Prelude.{AllPairs}
use Rattle.std.specs.List.{AllByRecursion, range_with_len}
use Rattle.vw_bits.specs.Headers.{segments_of}
use Rattle.vw_bits.specs.HeaderRules.{header_fault}
use Rattle.vw_bits.specs.declared.records.Segment.{Segment}
use Rattle.vw_dynamic.specs.Dynamic.{file_imports}
use Rattle.vw_image.specs.Image.{Contents, IsImage, image_of}
use Rattle.vw_bits.specs.Bounds.{AreBounded}
use Rattle.vw_layout.specs.declared.layout.Module.{Module as Declared}
use Rattle.vw_layout.specs.Layout.{IsWhole}
use Rattle.vw_machine.specs.World.{Range, IsLaidOut, IsIn, AreApart, IsBelowTop, IsHostAddress, instance_ranges, loaded_range, usual_hosts, usual_instance}
use Rattle.vw_machine.specs.Module.{ModuleView, segment_range, view_of}

apart_in_instance : (imports : ℕ) → AllPairs AreApart (instance_ranges (usual_instance imports))
unfolding usual_instance
apart_in_instance imports zero zero d less inside a one two = absurd (omega arith)
apart_in_instance imports zero (suc zero) d less inside a one two = let x = one.1 in let y = two.0 in omega arith
apart_in_instance imports zero (suc (suc zero)) d less inside a one two = let x = one.1 in let y = two.0 in omega arith
apart_in_instance imports (suc zero) (suc (suc zero)) d less inside a one two = let x = one.1 in let y = two.0 in omega arith
apart_in_instance imports (suc i) zero d less inside a one two = absurd (omega arith)
apart_in_instance imports (suc i) (suc zero) d less inside a one two = absurd (omega arith)
apart_in_instance imports (suc (suc i)) (suc (suc zero)) d less inside a one two = absurd (omega arith)
apart_in_instance imports i (suc (suc (suc j))) d less inside a one two = absurd (omega arith)

-- a part of the image below 2^31 lies below the others and below the top
image_below : (imports : ℕ) (image : List Range) → AllByRecursion (λ part. part.to ≤ 2 ^ 31) image → AllByRecursion (λ part. IsBelowTop (loaded_range (usual_instance imports) part)) image
unfolding usual_instance
image_below imports [] ends = tt
image_below imports (part ∷ more) ends = let end = ends.0 in ((λ a is. let x = is.1 in omega arith), image_below imports more ends.1)

image_apart : (imports : ℕ) (image : List Range) → AllByRecursion (λ part. part.to ≤ 2 ^ 31) image → AllByRecursion (λ part. AllByRecursion (AreApart (loaded_range (usual_instance imports) part)) (instance_ranges (usual_instance imports))) image
unfolding usual_instance
image_apart imports [] ends = tt
image_apart imports (part ∷ more) ends =
    let end = ends.0 in
    (((λ a one two. let x = one.1 in let y = two.0 in omega arith), ((λ a one two. let x = one.1 in let y = two.0 in omega arith), ((λ a one two. let x = one.1 in let y = two.0 in omega arith), tt))), image_apart imports more ends.1)

not_loaded : (imports : ℕ) (image : List Range) (a : ℕ) → 0x500000000000 ≤ a → AllByRecursion (λ part. part.to ≤ 2 ^ 31) image → AllByRecursion (λ part. ¬ IsIn a (loaded_range (usual_instance imports) part)) image
unfolding usual_instance
not_loaded imports [] a high ends = tt
not_loaded imports (part ∷ more) a high ends = let end = ends.0 in ((λ is. let x = is.1 in omega arith), not_loaded imports more a high ends.1)

host_outside : (imports : ℕ) (image : List Range) (a : ℕ) → 0x500000000000 ≤ a → a < 2 ^ 47 → AllByRecursion (λ part. part.to ≤ 2 ^ 31) image → IsHostAddress (usual_instance imports) image a
unfolding usual_instance
host_outside imports image a high low ends =
    (low, not_loaded imports image a high ends, ((λ is. let x = is.1 in omega arith), ((λ is. let x = is.1 in omega arith), ((λ is. let x = is.1 in omega arith), tt))))

hosts_outside : (imports : ℕ) (image : List Range) (from count : ℕ) → from + count ≤ 65536 → AllByRecursion (λ part. part.to ≤ 2 ^ 31) image → AllByRecursion (IsHostAddress (usual_instance imports) image) (map (λ k. 0x600000000000 + 16 * k) (range_with_len from count))
hosts_outside imports image from zero few ends = tt
hosts_outside imports image from (suc count) few ends =
    (host_outside imports image (0x600000000000 + 16 * from) (omega arith) (omega arith) ends, hosts_outside imports image (from + 1) count (omega arith) ends)

host_at : (from count k d : ℕ) → k < count → get_or (map (λ k. 0x600000000000 + 16 * k) (range_with_len from count)) k d ≡ 0x600000000000 + 16 * (from + k)
host_at from zero k d inside = absurd (omega arith)
host_at from (suc count) zero d inside = omega arith
host_at from (suc count) (suc k) d inside = omega (arith, host_at (from + 1) count k d (omega arith))

length-hosts : (from count : ℕ) → length (map (λ k. 0x600000000000 + 16 * k) (range_with_len from count)) ≡ count
length-hosts from zero = refl
length-hosts from (suc count) = ap suc (length-hosts (from + 1) count)

hosts_distinct : (count : ℕ) → AllPairs ◌≢◌ (0x500000000000 ∷ usual_hosts count)
unfolding usual_hosts
hosts_distinct count i zero d less inside same = absurd (omega arith)
hosts_distinct count zero (suc j) d less inside same =
    let at = host_at 0 count j d (omega (arith, inside, length-hosts 0 count)) in
    omega (arith, same, at)
hosts_distinct count (suc i) (suc j) d less inside same =
    let first = host_at 0 count i d (omega (arith, less, inside, length-hosts 0 count)) in
    let second = host_at 0 count j d (omega (arith, inside, length-hosts 0 count)) in
    omega (arith, less, same, first, second)

-- what the rules give of a module: its image ends at or before 2^31, and it has at most 65,536 imports
pub record IsLimited (m : ModuleView) : Type 0 where
  pub ends : AllByRecursion (λ part. part.to ≤ 2 ^ 31) m.image
  pub imports : m.imports ≤ 65536

pub laid_out : (m : ModuleView) → IsLimited m → IsLaidOut m.image m.imports (usual_instance m.imports)
unfolding usual_instance usual_hosts
laid_out m limited =
    record {
      load_page = refl;
      heap_page = refl;
      stack_end = refl;
      room_below_heap = lit≤ tt;
      room_below_stack = lit≤ tt;
      stack_room = lit≤ tt;
      image_ends = image_below m.imports m.image limited.ends;
      instance_ends = ((λ a is. let x = is.1 in omega arith), ((λ a is. let x = is.1 in omega arith), ((λ a is. let x = is.1 in omega arith), tt)));
      image_apart = image_apart m.imports m.image limited.ends;
      instance_apart = apart_in_instance m.imports;
      one_host_each = length-hosts 0 m.imports;
      hosts_outside = (host_outside m.imports m.image 0x500000000000 (omega arith) (lit< tt) limited.ends, hosts_outside m.imports m.image 0 m.imports (omega (arith, limited.imports)) limited.ends);
      hosts_distinct = hosts_distinct m.imports;
    }

ends_low : (len : ℕ) (segments : List Segment) → AreBounded len segments → AllByRecursion (λ part. part.to ≤ 2 ^ 31) (map segment_range segments)
ends_low len [] bounded = tt
ends_low len (s ∷ segments) bounded = (bounded.0.below, ends_low len segments bounded.1)

-- one more function of the host
pub hosts_more : (count : ℕ) → usual_hosts (count + 1) ≡ usual_hosts count ++ (0x600000000000 + 16 * count) ∷ []
unfolding usual_hosts
hosts_more count =
    let next : count + 1 ≡ suc count = omega arith in
    let none : 0 + count ≡ count = omega arith in
    ap (λ (n : ℕ). map (λ k. 0x600000000000 + 16 * k) (range_with_len 0 n)) next
    ∙ more 0 count
    ∙ ap (λ (n : ℕ). map (λ k. 0x600000000000 + 16 * k) (range_with_len 0 count) ++ (0x600000000000 + 16 * n) ∷ []) none
  where
    more : (from n : ℕ) → map (λ k. 0x600000000000 + 16 * k) (range_with_len from (suc n)) ≡ map (λ k. 0x600000000000 + 16 * k) (range_with_len from n) ++ (0x600000000000 + 16 * (from + n)) ∷ []
    more from zero = let same : from ≡ from + zero = omega arith in ap (λ (n : ℕ). (0x600000000000 + 16 * n) ∷ []) same
    more from (suc n) =
        let same : from + 1 + n ≡ from + suc n = omega arith in
        let front = map (λ k. 0x600000000000 + 16 * k) (range_with_len (from + 1) n) in
        ap (λ (l : List ℕ). (0x600000000000 + 16 * from) ∷ l) (more (from + 1) n ∙ ap (λ (k : ℕ). front ++ (0x600000000000 + 16 * k) ∷ []) same)

-- the rules keep the image of a module below 2^31
pub image_ends : ((bytes : List ℕ) → header_fault bytes ≡ None → AreBounded (length bytes) (segments_of bytes)) → (m : Declared) → IsWhole m → IsImage m.image → AllByRecursion (λ part. part.to ≤ 2 ^ 31) (view_of m).image
unfolding image_of
image_ends bounded m whole image =
    let same : m.image.segments ≡ segments_of m.image.bytes = ap (λ (i : Contents). i.segments) whole.image in
    ends_low (length m.image.bytes) m.image.segments (subst (λ (s : List Segment). AreBounded (length m.image.bytes) s) (sym same) (bounded m.image.bytes image.headers))

pub imports_are : (m : Declared) → IsWhole m → m.image.imports ≡ file_imports m.image.bytes
unfolding image_of
imports_are m whole = ap (λ (i : Contents). i.imports) whole.image
