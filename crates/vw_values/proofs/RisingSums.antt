-- Sums of values rise with the values.
use Rattle.std.proofs.Common.{◌≡◌, ℕ, ◌+◌, ◌-◌, ◌%◌, ◌^◌, ◌<◌, ◌≤◌, Bool, true, false, Option, Some, None, List, length, refl, sym, ap, subst, arith, nat_le, nat_lt, if◌then◌else◌}
use Rattle.std.specs.Prelude.{◌==◌}
use Rattle.std.proofs.lemmas.Bool.Decides.{nat_tests}
use Rattle.std.proofs.lemmas.Option.{slice_get_within}
use Rattle.vw_values.specs.declared.value.Value.{Value}
use Rattle.vw_values.specs.declared.value.Value.TheVariants.{Any, Num, Const, Below, Low, Both, HeapBase, HeapAddr, Globals, Entry, Image, Index16, EntryPtr, EntryTyped, TagOf, TableFn, JumpOff, JumpDest}
use Rattle.vw_values.specs.declared.extent.Extent.{Extent}
use Rattle.vw_values.specs.declared.extent.Extent.TheVariants.{Exactly, Under, Unbounded, Other}
use Rattle.vw_values.specs.Bounds.{pow, powers}
use Rattle.vw_values.specs.Values.{IsValue, IsMark, IsNumber, value_below, under_below, under_low, under_both, under_heap, mark_below}
use Rattle.vw_values.specs.Sums.{extent_of, rounded_bound, below_or_num, heap_plus, table_from, entry_value, entry_sum_in, entry_sum, jump_sum, image_plus, index_plus, jump_off_plus, symbol_sum, add_extents, add}
use Rattle.vw_values.specs.ValueOrder.{value-reflexive, value-trans}
use Rattle.vw_values.specs.ShapeOrder.{mark-reflexive}
use Rattle.vw_values.specs.Laws.{SumsRise}
use Rattle.vw_values.proofs.UpLemmas.{first-is-up}
use Rattle.vw_values.proofs.PowerLemmas.{power-range, powers-ascend, pow-none-below}
use Rattle.vw_values.proofs.SoundSums.{by-test, pow-above, table-found}

-- ---- sums are values

pub rounded-valid : (n : ℕ) → IsValue (rounded_bound n)
rounded-valid n = go (pow n) refl
  where
    go : (p : Option ℕ) → pow n ≡ p → IsValue (below_or_num p)
    go None is = tt
    go (Some k) is = power-range k (first-is-up n k powers powers-ascend is).member

heap-valid : (q : Extent) → IsValue (heap_plus q)
heap-valid (Exactly c) = by-test IsValue (nat_lt c (2 ^ 32)) HeapAddr Any (λ _. tt) (λ _. tt)
heap-valid (Under k) = by-test IsValue (nat_le k (2 ^ 32)) HeapAddr Any (λ _. tt) (λ _. tt)
heap-valid Unbounded = tt
heap-valid (Other v) = tt

pointed-valid : (t : ℕ) (mark : Option (ℕ × ℕ)) → t < 64 → IsMark mark → IsValue (entry_value t mark)
pointed-valid t None h g = h
pointed-valid t (Some mark) h g = by-test IsValue (mark.0 == t) (EntryTyped t mark.1) (EntryPtr t) (λ _. (h, g.1)) (λ _. h)

indexed-valid : (tables : List (ℕ × ℕ)) (a k : ℕ) (mark : Option (ℕ × ℕ)) → length tables ≤ 64 → IsMark mark → IsValue (entry_sum tables a k mark)
indexed-valid tables a k mark few g = go (table_from 0 a tables) refl
  where
    go : (o : Option (ℕ × ℕ)) → table_from 0 a tables ≡ o → IsValue (entry_sum_in o k mark)
    go None e = tt
    go (Some p) e =
        let found = table-found 0 a tables p.0 p.1 e in
        let within = slice_get_within tables found.0 (a, p.1) found.2 in
        by-test IsValue (nat_le k p.1) (entry_value p.0 mark) Any (λ _. pointed-valid p.0 mark (omega (arith, found.1)) g) (λ _. tt)

dest-valid : (a b k : ℕ) → a < 2 ^ 64 → (1 ≤ k) × (k ≤ 65536) → IsValue (jump_sum a b k)
dest-valid a b k h g = by-test IsValue (a == b) (JumpDest a k) Any (λ _. (h, g)) (λ _. tt)

abbrev IsExtent : Extent → Type 0
IsExtent (Other v) = IsValue v
IsExtent _ = Unit {0}

pub extent-valid : (v : Value) → IsValue v → IsExtent (extent_of v)
extent-valid Num h = tt
extent-valid (Const c) h = tt
extent-valid (Below k) h = tt
extent-valid (Low k) h = tt
extent-valid (Both k) h = tt
extent-valid Any h = h
extent-valid HeapBase h = h
extent-valid HeapAddr h = h
extent-valid Globals h = h
extent-valid (Entry r) h = h
extent-valid (Image a) h = h
extent-valid (Index16 k mark) h = h
extent-valid (EntryPtr t) h = h
extent-valid (EntryTyped t g) h = h
extent-valid (TagOf t via) h = h
extent-valid (TableFn t g) h = h
extent-valid (JumpOff a k) h = h
extent-valid (JumpDest a k) h = h

module _ (tables : List (ℕ × ℕ)) (few : length tables ≤ 64) where
  image-valid : (a : ℕ) (q : Extent) → a < 2 ^ 64 → IsExtent q → IsValue (image_plus tables a q)
  image-valid a (Exactly c) h g = omega arith
  image-valid a (Other (Index16 k mark)) h g = indexed-valid tables a k mark few g.1
  image-valid a (Other (JumpOff b k)) h g = dest-valid a b k h g.1
  image-valid a _ h g = tt

  index-valid : (k : ℕ) (mark : Option (ℕ × ℕ)) (q : Extent) → IsMark mark → IsValue (index_plus tables k mark q)
  index-valid k mark (Other (Image a)) h = indexed-valid tables a k mark few h
  index-valid k mark _ h = tt

  off-valid : (b k : ℕ) (q : Extent) → (1 ≤ k) × (k ≤ 65536) → IsExtent q → IsValue (jump_off_plus b k q)
  off-valid b k (Other (Image a)) h g = dest-valid a b k g h
  off-valid b k _ h g = tt

  moved-valid : (v : Value) (q : Extent) → IsValue v → IsExtent q → IsValue (symbol_sum tables v q)
  moved-valid HeapBase q h g = heap-valid q
  moved-valid (Image a) q h g = image-valid a q h g
  moved-valid (Index16 k mark) q h g = index-valid k mark q h.1
  moved-valid (JumpOff b k) q h g = off-valid b k q h.1 g
  moved-valid _ q h g = tt

  pub extents-valid : (p q : Extent) → IsExtent p → IsExtent q → IsValue (add_extents tables p q)
  extents-valid (Other v) q h g = moved-valid v q h g
  extents-valid (Exactly c) (Other w) h g = moved-valid w (Exactly c) g tt
  extents-valid (Under j) (Other w) h g = moved-valid w (Under j) g tt
  extents-valid Unbounded (Other w) h g = moved-valid w Unbounded g tt
  extents-valid (Exactly c) (Exactly d) h g = omega arith
  extents-valid (Exactly c) (Under k) h g = rounded-valid (c + k)
  extents-valid (Under j) (Exactly d) h g = rounded-valid (d + j)
  extents-valid (Under j) (Under k) h g = rounded-valid (j + k - 1)
  extents-valid _ _ h g = tt

-- ---- parts rise with values

abbrev pub extent_below : Extent → Extent → Type 0
extent_below (Exactly c) (Exactly d) = c ≡ d
extent_below (Exactly c) (Under k) = c < k
extent_below (Exactly c) Unbounded = Unit {0}
extent_below (Under j) (Under k) = j ≤ k
extent_below (Under j) Unbounded = Unit {0}
extent_below Unbounded Unbounded = Unit {0}
extent_below (Other v) (Other w) = value_below v w
extent_below _ (Other Any) = Unit {0}
extent_below _ _ = ⊥

any-extent : (p : Extent) → extent_below p (Other Any)
any-extent (Exactly c) = tt
any-extent (Under k) = tt
any-extent Unbounded = tt
any-extent (Other v) = tt

same-extent : (p : Extent) → IsExtent p → extent_below p p
same-extent (Exactly c) h = refl
same-extent (Under k) h = omega arith
same-extent Unbounded h = tt
same-extent (Other v) h = value-reflexive v h

same-extents : (x y : Value) → IsValue y → x ≡ y → extent_below (extent_of x) (extent_of y)
same-extents x y h e = subst (λ v. extent_below (extent_of v) (extent_of y)) (sym e) (same-extent (extent_of y) (extent-valid y h))

unbounded-extent : (x : Value) → IsNumber x → extent_below (extent_of x) Unbounded
unbounded-extent Num h = tt
unbounded-extent (Const c) h = tt
unbounded-extent (Below k) h = tt
unbounded-extent (Low k) h = tt
unbounded-extent (Both k) h = tt
unbounded-extent _ h = absurd h

below-extent : (k : ℕ) (x : Value) → under_below k x → extent_below (extent_of x) (Under k)
below-extent k (Const c) h = h
below-extent k (Below j) h = h
below-extent k (Both j) h = omega arith
below-extent k _ h = absurd h

low-number : (k : ℕ) (x : Value) → under_low k x → IsNumber x
low-number k (Const c) h = tt
low-number k (Below j) h = tt
low-number k (Both j) h = tt
low-number k (Low j) h = tt
low-number k _ h = absurd h

both-extent : (k : ℕ) (x : Value) → k < 2 ^ 32 → under_both k x → extent_below (extent_of x) (Under (2 ^ 33))
both-extent k (Const c) less h = h.0
both-extent k (Below j) less h = omega arith
both-extent k (Both j) less h = omega arith
both-extent k _ less h = absurd h

pub extents-below : (x y : Value) → IsValue x → IsValue y → value_below x y → extent_below (extent_of x) (extent_of y)
extents-below x Any hx hy h = any-extent (extent_of x)
extents-below x Num hx hy h = unbounded-extent x h
extents-below x (Below k) hx hy h = below-extent k x h
extents-below x (Low k) hx hy h = unbounded-extent x (low-number k x h)
extents-below x (Both k) hx hy h = both-extent k x hy.1 h
extents-below x HeapAddr hx hy h = heap-extent x h
  where
    heap-extent : (x : Value) → under_heap x → extent_below (extent_of x) (Other HeapAddr)
    heap-extent HeapBase h = tt
    heap-extent HeapAddr h = tt
    heap-extent _ h = absurd h
extents-below (Index16 j n) (Index16 k m) hx hy h = h
extents-below (EntryPtr u) (EntryPtr t) hx hy h = h
extents-below (EntryTyped u g) (EntryPtr t) hx hy h = h
extents-below (JumpOff b j) (JumpOff a k) hx hy h = h
extents-below (JumpDest b j) (JumpDest a k) hx hy h = h
extents-below x (Index16 k m) hx hy h = absurd h
extents-below x (EntryPtr t) hx hy h = absurd h
extents-below x (JumpOff a k) hx hy h = absurd h
extents-below x (JumpDest a k) hx hy h = absurd h
extents-below x y hx hy h = same-extents x y hy h

-- ---- each operation rises

pub pow-rises : (m n : ℕ) → m ≤ n → value_below (rounded_bound m) (rounded_bound n)
pow-rises m n h = go (pow m) refl (pow n) refl
  where
    go : (p : Option ℕ) → pow m ≡ p → (q : Option ℕ) → pow n ≡ q → value_below (below_or_num p) (below_or_num q)
    go None is None other = tt
    go (Some k) is None other = tt
    go None is (Some k) other =
        let above = pow-above n k other in
        let none = pow-none-below m is in
        absurd (omega arith)
    go (Some j) is (Some k) other =
        let low = first-is-up m j powers powers-ascend is in
        let high = first-is-up n k powers powers-ascend other in
        let above = high.above in
        low.least k high.member (omega arith)

pub const-rises : (m n : ℕ) → m < n → value_below (Const (m % 2 ^ 64)) (rounded_bound n)
const-rises m n h = go (pow n) refl
  where
    go : (q : Option ℕ) → pow n ≡ q → value_below (Const (m % 2 ^ 64)) (below_or_num q)
    go None other = tt
    go (Some k) other = let above = pow-above n k other in omega arith

pub rounded-num : (n : ℕ) → value_below (rounded_bound n) Num
rounded-num n = go (pow n)
  where
    go : (p : Option ℕ) → value_below (below_or_num p) Num
    go None = tt
    go (Some k) = tt

pub by-test2 : (P : Value → Value → Type 0) (test other : Bool) (x y : Value) → (test ≡ true → other ≡ true → P x y) → (test ≡ true → other ≡ false → P x Any) → (test ≡ false → other ≡ true → P Any y) → P Any Any → P (if test then x else Any) (if other then y else Any)
by-test2 P true true x y f g h i = f refl refl
by-test2 P true false x y f g h i = g refl refl
by-test2 P false true x y f g h i = h refl refl
by-test2 P false false x y f g h i = i

to-any : (x : Value) → value_below x Any
to-any x = tt

heap-rises : (p q : Extent) → extent_below p q → value_below (heap_plus p) (heap_plus q)
heap-rises (Exactly c) (Exactly d) h = by-test2 value_below (nat_lt c (2 ^ 32)) (nat_lt d (2 ^ 32)) HeapAddr HeapAddr (λ _ _. tt) (λ _ _. tt) (λ no yes. absurd (grind (arith, nat_tests))) tt
heap-rises (Exactly c) (Under k) h = by-test2 value_below (nat_lt c (2 ^ 32)) (nat_le k (2 ^ 32)) HeapAddr HeapAddr (λ _ _. tt) (λ _ _. tt) (λ no yes. absurd (grind (arith, nat_tests))) tt
heap-rises (Under j) (Under k) h = by-test2 value_below (nat_le j (2 ^ 32)) (nat_le k (2 ^ 32)) HeapAddr HeapAddr (λ _ _. tt) (λ _ _. tt) (λ no yes. absurd (grind (arith, nat_tests))) tt
heap-rises p (Other v) h = tt
heap-rises p Unbounded h = tt
heap-rises (Under j) (Exactly d) h = absurd h
heap-rises Unbounded (Exactly d) h = absurd h
heap-rises (Other v) (Exactly d) h = absurd h
heap-rises Unbounded (Under d) h = absurd h
heap-rises (Other v) (Under d) h = absurd h

pointed-rises : (t : ℕ) (m n : Option (ℕ × ℕ)) → mark_below m n → value_below (entry_value t m) (entry_value t n)
pointed-rises t m (Some n) h = rw h (either n)
  where
    either : (n : ℕ × ℕ) → value_below (entry_value t (Some n)) (entry_value t (Some n))
    either n = by-test (λ v. value_below v v) (n.0 == t) (EntryTyped t n.1) (EntryPtr t) (λ _. refl) (λ _. refl)
pointed-rises t (Some m) None h = by-test (λ v. value_below v (EntryPtr t)) (m.0 == t) (EntryTyped t m.1) (EntryPtr t) (λ _. refl) (λ _. refl)
pointed-rises t None None h = refl

indexed-rises : (tables : List (ℕ × ℕ)) (a j k : ℕ) (m n : Option (ℕ × ℕ)) → j ≤ k → mark_below m n → value_below (entry_sum tables a j m) (entry_sum tables a k n)
indexed-rises tables a j k m n h g = go (table_from 0 a tables)
  where
    go : (o : Option (ℕ × ℕ)) → value_below (entry_sum_in o j m) (entry_sum_in o k n)
    go None = tt
    go (Some p) = by-test2 value_below (nat_le j p.1) (nat_le k p.1) (entry_value p.0 m) (entry_value p.0 n) (λ _ _. pointed-rises p.0 m n g) (λ _ _. tt) (λ no yes. absurd (grind (arith, nat_tests))) tt

dest-rises : (a b j k : ℕ) → j ≤ k → value_below (jump_sum a b j) (jump_sum a b k)
dest-rises a b j k h = by-test2 value_below (a == b) (a == b) (JumpDest a j) (JumpDest a k) (λ _ _. (refl, h)) (λ _ _. tt) (λ no yes. cc) tt

image-rises : (tables : List (ℕ × ℕ)) (a : ℕ) (q p : Extent) → extent_below p q → value_below (image_plus tables a p) (image_plus tables a q)
image-rises tables a (Exactly d) (Exactly c) h = ap (λ x. Image ((a + x) % 2 ^ 64)) h
image-rises tables a (Exactly d) _ h = absurd h
image-rises tables a (Other (Index16 k n)) (Other (Index16 j m)) h = indexed-rises tables a j k m n h.0 h.1
image-rises tables a (Other (Index16 k n)) _ h = absurd h
image-rises tables a (Other (JumpOff c k)) (Other (JumpOff b j)) h = rw h.0 (dest-rises a c j k h.1)
image-rises tables a (Other (JumpOff c k)) _ h = absurd h
image-rises tables a _ p h = tt

index-rises : (tables : List (ℕ × ℕ)) (j k : ℕ) (m n : Option (ℕ × ℕ)) (q p : Extent) → j ≤ k → mark_below m n → extent_below p q → value_below (index_plus tables j m p) (index_plus tables k n q)
index-rises tables j k m n (Other (Image b)) (Other v) h g f =
    let R : Value → Type 0 = λ u. value_below (index_plus tables j m (Other u)) (entry_sum tables b k n) in
    subst R (sym f) (indexed-rises tables b j k m n h g)
index-rises tables j k m n (Other (Image b)) _ h g f = absurd f
index-rises tables j k m n _ p h g f = tt

off-rises : (b c j k : ℕ) (q p : Extent) → b ≡ c → j ≤ k → extent_below p q → value_below (jump_off_plus b j p) (jump_off_plus c k q)
off-rises b c j k (Other (Image d)) (Other v) e h f =
    let R : Value → Type 0 = λ u. value_below (jump_off_plus b j (Other u)) (jump_sum d c k) in
    subst R (sym f) (rw e (dest-rises d c j k h))
off-rises b c j k (Other (Image d)) _ e h f = absurd f
off-rises b c j k _ p e h f = tt

module _ (tables : List (ℕ × ℕ)) (few : length tables ≤ 64) where
  same-moved : (v w : Value) (q : Extent) → IsValue w → IsExtent q → v ≡ w → value_below (symbol_sum tables v q) (symbol_sum tables w q)
  same-moved v w q hw hq e =
      let R : Value → Type 0 = λ u. value_below (symbol_sum tables u q) (symbol_sum tables w q) in
      subst R (sym e) (value-reflexive (symbol_sum tables w q) (moved-valid tables few w q hw hq))

  -- with a greater symbol
  moved-first : (w v : Value) (q : Extent) → IsValue w → IsExtent q → value_below v w → value_below (symbol_sum tables v q) (symbol_sum tables w q)
  moved-first HeapBase v q hw hq h = same-moved v HeapBase q hw hq h
  moved-first (Image a) v q hw hq h = same-moved v (Image a) q hw hq h
  moved-first (Index16 k n) (Index16 j m) q hw hq h = index-rises tables j k m n q q h.0 h.1 (same-extent q hq)
  moved-first (Index16 k n) _ q hw hq h = absurd h
  moved-first (JumpOff a k) (JumpOff b j) q hw hq h = off-rises b a j k q q h.0 h.1 (same-extent q hq)
  moved-first (JumpOff a k) _ q hw hq h = absurd h
  moved-first _ v q hw hq h = tt

  -- with a greater addend
  moved-second : (v : Value) (p q : Extent) → extent_below p q → value_below (symbol_sum tables v p) (symbol_sum tables v q)
  moved-second HeapBase p q h = heap-rises p q h
  moved-second (Image a) p q h = image-rises tables a q p h
  moved-second (Index16 k m) p q h = index-rises tables k k m m q p (omega arith) (mark-reflexive m) h
  moved-second (JumpOff b k) p q h = off-rises b b k k q p refl (omega arith) h
  moved-second _ p q h = tt

  first-rises : (p' p q : Extent) → IsExtent p' → IsExtent q → extent_below p p' → value_below (add_extents tables p q) (add_extents tables p' q)
  first-rises (Other Any) p q hp hq h = tt
  first-rises (Other w) (Other v) q hp hq h = moved-first w v q hp hq h
  first-rises (Other w) _ q hp hq h = absurd h
  first-rises (Exactly d) (Exactly c) (Other w) hp hq h = moved-second w (Exactly c) (Exactly d) h
  first-rises (Under k) (Exactly c) (Other w) hp hq h = moved-second w (Exactly c) (Under k) h
  first-rises Unbounded (Exactly c) (Other w) hp hq h = moved-second w (Exactly c) Unbounded h
  first-rises (Under k) (Under j) (Other w) hp hq h = moved-second w (Under j) (Under k) h
  first-rises Unbounded (Under j) (Other w) hp hq h = moved-second w (Under j) Unbounded h
  first-rises Unbounded Unbounded (Other w) hp hq h = moved-second w Unbounded Unbounded h
  first-rises (Exactly d) (Exactly c) (Exactly e) hp hq h = ap (λ x. Const ((x + e) % 2 ^ 64)) h
  first-rises (Exactly d) (Exactly c) (Under m) hp hq h = pow-rises (c + m) (d + m) (omega arith)
  first-rises (Exactly d) (Exactly c) Unbounded hp hq h = tt
  first-rises (Under k) (Exactly c) (Exactly e) hp hq h = const-rises (c + e) (e + k) (omega arith)
  first-rises (Under k) (Exactly c) (Under m) hp hq h = pow-rises (c + m) (k + m - 1) (omega arith)
  first-rises (Under k) (Exactly c) Unbounded hp hq h = tt
  first-rises (Under k) (Under j) (Exactly e) hp hq h = pow-rises (e + j) (e + k) (omega arith)
  first-rises (Under k) (Under j) (Under m) hp hq h = pow-rises (j + m - 1) (k + m - 1) (omega arith)
  first-rises (Under k) (Under j) Unbounded hp hq h = tt
  first-rises Unbounded (Exactly c) (Exactly e) hp hq h = tt
  first-rises Unbounded (Exactly c) (Under m) hp hq h = rounded-num (c + m)
  first-rises Unbounded (Exactly c) Unbounded hp hq h = tt
  first-rises Unbounded (Under j) (Exactly e) hp hq h = rounded-num (e + j)
  first-rises Unbounded (Under j) (Under m) hp hq h = rounded-num (j + m - 1)
  first-rises Unbounded (Under j) Unbounded hp hq h = tt
  first-rises Unbounded Unbounded (Exactly e) hp hq h = tt
  first-rises Unbounded Unbounded (Under m) hp hq h = tt
  first-rises Unbounded Unbounded Unbounded hp hq h = tt
  first-rises _ _ q hp hq h = absurd h

  -- with a greater second part, of a first that is a number
  second-rises : (p q' q : Extent) → IsExtent p → IsExtent q' → extent_below q q' → value_below (add_extents tables p q) (add_extents tables p q')
  second-rises (Other v) q' q hp hq h = moved-second v q q' h
  second-rises (Exactly c) (Other Any) q hp hq h = tt
  second-rises (Exactly c) (Other w) (Other v) hp hq h = moved-first w v (Exactly c) hq tt h
  second-rises (Exactly c) (Other w) _ hp hq h = absurd h
  second-rises (Exactly c) (Exactly e) (Exactly d) hp hq h = ap (λ x. Const ((c + x) % 2 ^ 64)) h
  second-rises (Exactly c) (Under k) (Exactly d) hp hq h = const-rises (c + d) (c + k) (omega arith)
  second-rises (Exactly c) (Under k) (Under j) hp hq h = pow-rises (c + j) (c + k) (omega arith)
  second-rises (Exactly c) Unbounded (Exactly d) hp hq h = tt
  second-rises (Exactly c) Unbounded (Under j) hp hq h = rounded-num (c + j)
  second-rises (Exactly c) Unbounded Unbounded hp hq h = tt
  second-rises (Under i) (Other Any) q hp hq h = tt
  second-rises (Under i) (Other w) (Other v) hp hq h = moved-first w v (Under i) hq tt h
  second-rises (Under i) (Other w) _ hp hq h = absurd h
  second-rises (Under i) (Exactly e) (Exactly d) hp hq h = pow-rises (d + i) (e + i) (omega arith)
  second-rises (Under i) (Under k) (Exactly d) hp hq h = pow-rises (d + i) (i + k - 1) (omega arith)
  second-rises (Under i) (Under k) (Under j) hp hq h = pow-rises (i + j - 1) (i + k - 1) (omega arith)
  second-rises (Under i) Unbounded (Exactly d) hp hq h = rounded-num (d + i)
  second-rises (Under i) Unbounded (Under j) hp hq h = rounded-num (i + j - 1)
  second-rises (Under i) Unbounded Unbounded hp hq h = tt
  second-rises Unbounded (Other Any) q hp hq h = tt
  second-rises Unbounded (Other w) (Other v) hp hq h = moved-first w v Unbounded hq tt h
  second-rises Unbounded (Other w) _ hp hq h = absurd h
  second-rises Unbounded (Exactly e) (Exactly d) hp hq h = tt
  second-rises Unbounded (Under k) (Exactly d) hp hq h = tt
  second-rises Unbounded (Under k) (Under j) hp hq h = tt
  second-rises Unbounded Unbounded (Exactly d) hp hq h = tt
  second-rises Unbounded Unbounded (Under j) hp hq h = tt
  second-rises Unbounded Unbounded Unbounded hp hq h = tt
  second-rises _ _ q hp hq h = absurd h

pub sums-rise : SumsRise
sums-rise tables x x' y y' few hx hx' hy hy' f g =
    let px = extent-valid x hx in
    let px' = extent-valid x' hx' in
    let py = extent-valid y hy in
    let py' = extent-valid y' hy' in
    value-trans (add x y tables) (add x' y tables) (add x' y' tables)
    (extents-valid tables few (extent_of x) (extent_of y) px py)
    (extents-valid tables few (extent_of x') (extent_of y) px' py)
    (extents-valid tables few (extent_of x') (extent_of y') px' py')
    (first-rises tables few (extent_of x') (extent_of x) (extent_of y) px' py (extents-below x x' hx hx' f))
    (second-rises tables few (extent_of x') (extent_of y') (extent_of y) px' py' (extents-below y y' hy hy' g))
