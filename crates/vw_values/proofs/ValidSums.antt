-- Sums and differences of valid values are valid.
use Rattle.std.proofs.Common.{◌≡◌, ℕ, ◌+◌, ◌-◌, ◌%◌, ◌^◌, ◌≤◌, Option, Some, None, List, length, refl, sym, subst, arith, nat_le, nat_lt}
use Rattle.std.specs.Prelude.{◌==◌}
use Rattle.vw_values.specs.declared.value.Value.{Value}
use Rattle.vw_values.specs.declared.value.Value.TheVariants.{Any, Num, Const, Below, Low, Both, HeapBase, HeapAddr, Image, Index16, EntryPtr, EntryTyped, JumpOff, JumpDest}
use Rattle.vw_values.specs.declared.extent.Extent.{Extent}
use Rattle.vw_values.specs.declared.extent.Extent.TheVariants.{Exactly, Under, Unbounded, Other}
use Rattle.vw_values.specs.Bounds.{IsMember, IsBounds, pow, powers}
use Rattle.vw_values.specs.Values.{IsAmong, IsValid}
use Rattle.vw_values.specs.Sums.{extent_of, below_or_num, rounded_bound, heap_plus, table_from, entry_value, entry_sum_in, entry_sum, jump_sum, image_plus, index_plus, jump_off_plus, symbol_sum, add_extents, num_or_any, subtract_extent}
use Rattle.vw_values.specs.Laws.{SumsAreValid, DifferencesAreValid}
use Rattle.vw_values.proofs.UpLemmas.{first-is-up}
use Rattle.vw_values.proofs.PowerLemmas.{powers-are, powers-ascend}
use Rattle.vw_values.proofs.SoundSums.{by-test}
use Rattle.vw_values.proofs.RisingSums.{rounded-valid, extent-valid, extents-valid}

power-listed : (b : List ℕ) (k : ℕ) → IsBounds b → IsMember powers k → IsMember b k
power-listed b k bounds within =
    let is = powers-are k within in
    subst (λ x. IsMember b x) (sym is.2) (bounds.powers is.0 (omega (arith, is.1)))

rounded-among : (b : List ℕ) (n : ℕ) → IsBounds b → IsAmong b (rounded_bound n)
rounded-among b n bounds = go (pow n) refl
  where
    go : (p : Option ℕ) → pow n ≡ p → IsAmong b (below_or_num p)
    go None is = tt
    go (Some k) is = power-listed b k bounds (first-is-up n k powers powers-ascend is).member

pub rounded-listed : (b : List ℕ) (n : ℕ) → IsBounds b → IsValid b (rounded_bound n)
rounded-listed b n bounds = (rounded-valid n, rounded-among b n bounds)

abbrev AreAmong : List ℕ → Extent → Type 0
AreAmong b (Other v) = IsAmong b v
AreAmong b _ = Unit {0}

extent-among : (b : List ℕ) (v : Value) → IsAmong b v → AreAmong b (extent_of v)
extent-among b Num h = tt
extent-among b (Const c) h = tt
extent-among b (Below k) h = tt
extent-among b (Low k) h = tt
extent-among b (Both k) h = tt
extent-among b (Index16 k mark) h = h
extent-among b (JumpOff a k) h = h
extent-among b (JumpDest a k) h = h
extent-among b _ h = tt

module _ (b : List ℕ) (tables : List (ℕ × ℕ)) (bounds : IsBounds b) where
  heap-among : (q : Extent) → IsAmong b (heap_plus q)
  heap-among (Exactly c) = by-test (IsAmong b) (nat_lt c (2 ^ 32)) HeapAddr Any (λ _. tt) (λ _. tt)
  heap-among (Under k) = by-test (IsAmong b) (nat_le k (2 ^ 32)) HeapAddr Any (λ _. tt) (λ _. tt)
  heap-among Unbounded = tt
  heap-among (Other v) = tt

  pointed-among : (t : ℕ) (mark : Option (ℕ × ℕ)) → IsAmong b (entry_value t mark)
  pointed-among t None = tt
  pointed-among t (Some mark) = by-test (IsAmong b) (mark.0 == t) (EntryTyped t mark.1) (EntryPtr t) (λ _. tt) (λ _. tt)

  indexed-among : (a k : ℕ) (mark : Option (ℕ × ℕ)) → IsAmong b (entry_sum tables a k mark)
  indexed-among a k mark = go (table_from 0 a tables)
    where
      go : (o : Option (ℕ × ℕ)) → IsAmong b (entry_sum_in o k mark)
      go None = tt
      go (Some p) = by-test (IsAmong b) (nat_le k p.1) (entry_value p.0 mark) Any (λ _. pointed-among p.0 mark) (λ _. tt)

  dest-among : (a c k : ℕ) → IsMember b k → IsAmong b (jump_sum a c k)
  dest-among a c k h = by-test (IsAmong b) (a == c) (JumpDest a k) Any (λ _. h) (λ _. tt)

  image-among : (a : ℕ) (q : Extent) → AreAmong b q → IsAmong b (image_plus tables a q)
  image-among a (Exactly c) h = tt
  image-among a (Other (Index16 k mark)) h = indexed-among a k mark
  image-among a (Other (JumpOff c k)) h = dest-among a c k h
  image-among a _ h = tt

  index-among : (k : ℕ) (mark : Option (ℕ × ℕ)) (q : Extent) → IsAmong b (index_plus tables k mark q)
  index-among k mark (Other (Image a)) = indexed-among a k mark
  index-among k mark _ = tt

  off-among : (c k : ℕ) (q : Extent) → IsMember b k → IsAmong b (jump_off_plus c k q)
  off-among c k (Other (Image a)) h = dest-among a c k h
  off-among c k _ h = tt

  moved-among : (v : Value) (q : Extent) → IsAmong b v → AreAmong b q → IsAmong b (symbol_sum tables v q)
  moved-among HeapBase q h g = heap-among q
  moved-among (Image a) q h g = image-among a q g
  moved-among (Index16 k mark) q h g = index-among k mark q
  moved-among (JumpOff c k) q h g = off-among c k q h
  moved-among _ q h g = tt

  extents-among : (p q : Extent) → AreAmong b p → AreAmong b q → IsAmong b (add_extents tables p q)
  extents-among (Other v) q h g = moved-among v q h g
  extents-among (Exactly c) (Other w) h g = moved-among w (Exactly c) g tt
  extents-among (Under j) (Other w) h g = moved-among w (Under j) g tt
  extents-among Unbounded (Other w) h g = moved-among w Unbounded g tt
  extents-among (Exactly c) (Exactly d) h g = tt
  extents-among (Exactly c) (Under k) h g = rounded-among b (c + k) bounds
  extents-among (Under j) (Exactly d) h g = rounded-among b (d + j) bounds
  extents-among (Under j) (Under k) h g = rounded-among b (j + k - 1) bounds
  extents-among _ _ h g = tt

pub sums-valid : SumsAreValid
sums-valid b tables x y bounds few hx hy = (
  extents-valid tables few (extent_of x) (extent_of y) (extent-valid x hx.0) (extent-valid y hy.0),
  extents-among b tables bounds (extent_of x) (extent_of y) (extent-among b x hx.1) (extent-among b y hy.1),
)

num-valid : (b : List ℕ) (p : Extent) → IsValid b (num_or_any p)
num-valid b (Exactly c) = (tt, tt)
num-valid b (Under k) = (tt, tt)
num-valid b Unbounded = (tt, tt)
num-valid b (Other v) = (tt, tt)

difference-valid : (b : List ℕ) (tables : List (ℕ × ℕ)) (x : Value) (q : Extent) → IsBounds b → length tables ≤ 64 → IsValid b x → IsValid b (subtract_extent tables x q)
difference-valid b tables x (Exactly d) bounds few hx = sums-valid b tables x (Const ((2 ^ 64 - d) % 2 ^ 64)) bounds few hx (omega arith, tt)
difference-valid b tables x (Under k) bounds few hx = num-valid b (extent_of x)
difference-valid b tables x Unbounded bounds few hx = num-valid b (extent_of x)
difference-valid b tables x (Other v) bounds few hx = (tt, tt)

pub differences-valid : DifferencesAreValid
differences-valid b tables x y bounds few hx = difference-valid b tables x (extent_of y) bounds few hx
