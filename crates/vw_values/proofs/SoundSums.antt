-- Sums of values stand for sums.
use Rattle.std.proofs.Common.{◌≡◌, ◌≢◌, ℕ, zero, suc, ◌+◌, ◌-◌, ◌*◌, ◌%◌, ◌^◌, ◌<◌, ◌≤◌, ◌⊎◌, inl, inr, Bool, true, false, Option, Some, None, List, [], ◌∷◌, length, refl, sym, ap, subst, ◌∙◌, arith, nat_le, nat_lt, nat_eq, if◌then◌else◌}
use Rattle.std.specs.Prelude.{◌==◌, slice_get, option_map}
use Rattle.std.proofs.lemmas.Bool.Decides.{nat_tests}
use Rattle.std.proofs.lemmas.Option.{slice_get-map}
use Rattle.vw_values.specs.declared.value.Value.{Value}
use Rattle.vw_values.specs.declared.value.Value.TheVariants.{Any, Num, Const, Below, Low, Both, HeapBase, HeapAddr, Globals, Entry, Image, Index16, EntryPtr, EntryTyped, TagOf, TableFn, JumpOff, JumpDest}
use Rattle.vw_values.specs.declared.extent.Extent.{Extent}
use Rattle.vw_values.specs.declared.extent.Extent.TheVariants.{Exactly, Under, Unbounded, Other}
use Rattle.vw_values.specs.Bounds.{pow, powers}
use Rattle.vw_values.specs.Sums.{extent_of, rounded_bound, below_or_num, heap_plus, table_from, entry_value, entry_sum_in, entry_sum, jump_sum, image_plus, index_plus, jump_off_plus, symbol_sum, add_extents}
use Rattle.vw_values.specs.Stands.{TableEntry, FunctionTable, Instance, offset_at, HasMark, Stands, table_list, HasRoom}
use Rattle.vw_values.specs.Laws.{SumsStand}
use Rattle.vw_values.proofs.UpLemmas.{first-is-up}
use Rattle.vw_values.proofs.PowerLemmas.{powers-end, powers-ascend}

-- by the cases of a test
pub by-test : (P : Value → Type 0) (test : Bool) (x y : Value) → (test ≡ true → P x) → (test ≡ false → P y) → P (if test then x else y)
by-test P true x y f g = f refl
by-test P false x y f g = g refl

-- what a number that is below n, or a sum that does not wrap, is rounded to
pub pow-above : (n k : ℕ) → pow n ≡ Some k → (n ≤ k) × (k ≤ 2 ^ 33)
pow-above n k is = let up = first-is-up n k powers powers-ascend is in (up.above, powers-end k up.member)

pub rounded-stands : (s : Instance) (registers : ℕ → ℕ) (n m : ℕ) → m < n → Stands s registers (rounded_bound n) (m % 2 ^ 64)
rounded-stands s registers n m less = go (pow n) refl
  where
    go : (p : Option ℕ) → pow n ≡ p → Stands s registers (below_or_num p) (m % 2 ^ 64)
    go None is = tt
    go (Some k) is = let above = pow-above n k is in omega (arith, above.0, above.1)

module _ (s : Instance) (registers : ℕ → ℕ) where
  abbrev pub ExtentStands : Extent → ℕ → Type 0
  ExtentStands (Exactly c) m = m ≡ c
  ExtentStands (Under k) m = m < k
  ExtentStands Unbounded m = Unit {0}
  ExtentStands (Other v) m = Stands s registers v m

  pub extent-stands : (v : Value) (m : ℕ) → Stands s registers v m → ExtentStands (extent_of v) m
  extent-stands Num m h = tt
  extent-stands (Const c) m h = h
  extent-stands (Below k) m h = h
  extent-stands (Low k) m h = tt
  extent-stands (Both k) m h = h.0
  extent-stands Any m h = h
  extent-stands HeapBase m h = h
  extent-stands HeapAddr m h = h
  extent-stands Globals m h = h
  extent-stands (Entry r) m h = h
  extent-stands (Image a) m h = h
  extent-stands (Index16 k mark) m h = h
  extent-stands (EntryPtr t) m h = h
  extent-stands (EntryTyped t g) m h = h
  extent-stands (TagOf t via) m h = h
  extent-stands (TableFn t g) m h = h
  extent-stands (JumpOff a k) m h = h
  extent-stands (JumpDest a k) m h = h

  heap-in : (m n : ℕ) → HasRoom s → m ≡ s.heap → n < 2 ^ 32 → Stands s registers HeapAddr ((m + n) % 2 ^ 64)
  heap-in m n room is less = (n, less, omega arith)

  heap-stands : (q : Extent) (m n : ℕ) → HasRoom s → m ≡ s.heap → ExtentStands q n → Stands s registers (heap_plus q) ((m + n) % 2 ^ 64)
  heap-stands (Exactly c) m n room is h = by-test (λ v. Stands s registers v ((m + n) % 2 ^ 64)) (nat_lt c (2 ^ 32)) HeapAddr Any (λ less. heap-in m n room is (grind (arith, nat_tests))) (λ _. tt)
  heap-stands (Under k) m n room is h = by-test (λ v. Stands s registers v ((m + n) % 2 ^ 64)) (nat_le k (2 ^ 32)) HeapAddr Any (λ most. heap-in m n room is (grind (arith, nat_tests))) (λ _. tt)
  heap-stands Unbounded m n room is h = tt
  heap-stands (Other v) m n room is h = tt

  dest-stands : (a b k m n : ℕ) → m ≡ (s.load + a) % 2 ^ 64 → Stands s registers (JumpOff b k) n → Stands s registers (jump_sum a b k) ((m + n) % 2 ^ 64)
  dest-stands a b k m n is h =
      by-test (λ v. Stands s registers v ((m + n) % 2 ^ 64)) (a == b) (JumpDest a k) Any
      (λ same. let e : b ≡ a = grind (arith, nat_tests) in (h.0, h.1, sum (offset_at s (a + 4 * h.0)) (h.2 ∙ ap (λ x. offset_at s (x + 4 * h.0)) e)))
      (λ _. tt)
    where
      sum : (word : ℕ) → n ≡ word → (m + n) % 2 ^ 64 ≡ (s.load + a + word) % 2 ^ 64
      sum word e = omega arith

-- ---- tables

table-here : (n a : ℕ) (t : ℕ × ℕ) (ts : List (ℕ × ℕ)) → t.0 ≡ a → table_from n a (t ∷ ts) ≡ Some (n, t.1)
table-here n a t ts same = grind (arith, nat_tests)

table-later : (n a : ℕ) (t : ℕ × ℕ) (ts : List (ℕ × ℕ)) → t.0 ≢ a → table_from n a (t ∷ ts) ≡ table_from (n + 1) a ts
table-later n a t ts other = grind (arith, nat_tests)

by-equal : (a b : ℕ) → (a ≡ b) ⊎ (a ≢ b)
by-equal a b = go (nat_eq a b) refl
  where
    go : (test : Bool) → nat_eq a b ≡ test → (a ≡ b) ⊎ (a ≢ b)
    go true e = inl (grind (arith, nat_tests))
    go false e = inr (λ same. grind (arith, nat_tests))

abbrev first-of : Option (ℕ × ℕ) → ℕ
first-of None = 0
first-of (Some p) = p.0

abbrev last-of : Option (ℕ × ℕ) → ℕ
last-of None = 0
last-of (Some p) = p.1

abbrev pub FoundAt : ℕ → ℕ → List (ℕ × ℕ) → ℕ → ℕ → Type 0
FoundAt n a ts t len = (i : ℕ) × (t ≡ n + i) × (slice_get ts i ≡ Some (a, len))

pub table-found : (n a : ℕ) (ts : List (ℕ × ℕ)) (t len : ℕ) → table_from n a ts ≡ Some (t, len) → FoundAt n a ts t len
table-found n a [] t len e = absurd (none-some e)
  where
    none-some : ◌≡◌ {A = Option (ℕ × ℕ)} None (Some (t, len)) → ⊥
    none-some e = cc
table-found n a (x ∷ xs) t len e =
    elim (by-equal x.0 a) [
      | inl same ↦
          let found : ◌≡◌ {A = Option (ℕ × ℕ)} (Some (n, x.1)) (Some (t, len)) = sym (table-here n a x xs same) ∙ e in
          let number : n ≡ t = ap first-of found in
          let count : x.1 ≡ len = ap last-of found in
          let pair : x ≡ (a, len) = pair-is x.0 x.1 a len same count in
          (0, omega arith, ap Some pair)
      | inr other ↦
          let rest = table-found (n + 1) a xs t len (sym (table-later n a x xs other) ∙ e) in
          (suc rest.0, omega (arith, rest.1), rest.2)
    ]
  where
    pair-is : (p q r s : ℕ) → p ≡ r → q ≡ s → ◌≡◌ {A = ℕ × ℕ} (p, q) (r, s)
    pair-is p q r s e f = ap (λ x. (x, q)) e ∙ ap (λ y. (r, y)) f

-- the table of an instance that is listed there
record IsListed (s : Instance) (t a len : ℕ) : Type 0 where
  table : FunctionTable
  is_table : slice_get s.tables t ≡ Some table
  address : table.address ≡ a
  count : length table.entries ≡ len

abbrev pair : FunctionTable → ℕ × ℕ
pair table = (table.address, length table.entries)

listed : (s : Instance) (t a len : ℕ) → slice_get (table_list s) t ≡ Some (a, len) → IsListed s t a len
listed s t a len e = go (slice_get s.tables t) refl
  where
    mapped : slice_get (table_list s) t ≡ option_map pair (slice_get s.tables t)
    mapped = slice_get-map pair s.tables t

    go : (o : Option FunctionTable) → slice_get s.tables t ≡ o → IsListed s t a len
    go None is =
        let none : ◌≡◌ {A = Option (ℕ × ℕ)} None (Some (a, len)) = sym (mapped ∙ ap (option_map pair) is) ∙ e in
        absurd (none-some none)
      where
        none-some : ◌≡◌ {A = Option (ℕ × ℕ)} None (Some (a, len)) → ⊥
        none-some e = cc
    go (Some table) is =
        let some : ◌≡◌ {A = Option (ℕ × ℕ)} (Some (pair table)) (Some (a, len)) = sym (mapped ∙ ap (option_map pair) is) ∙ e in
        record { table = table; is_table = is; address = ap first-of some; count = ap last-of some }

entry-there : (xs : List TableEntry) (i : ℕ) → i < length xs → (entry : TableEntry) × (slice_get xs i ≡ Some entry)
entry-there [] i within = absurd (omega arith)
entry-there (x ∷ xs) zero within = (x, refl)
entry-there (x ∷ xs) (suc i) within = entry-there xs i (omega arith)

some-table : {x y : FunctionTable} → Some x ≡ Some y → x ≡ y
some-table e = cc

some-entry : {x y : TableEntry} → Some x ≡ Some y → x ≡ y
some-entry e = cc

module _ (s : Instance) (registers : ℕ → ℕ) where
  module _ (a k m n : ℕ) (mark : Option (ℕ × ℕ)) (is : m ≡ (s.load + a) % 2 ^ 64) (h : Stands s registers (Index16 k mark) n) where
    at-entry : (address : ℕ) → address ≡ a → (m + n) % 2 ^ 64 ≡ (s.load + address + 16 * h.0) % 2 ^ 64
    at-entry address e = let by = h.2 in omega arith

    pointed-stands : (t len : ℕ) → IsListed s t a len → k ≤ len → Stands s registers (entry_value t mark) ((m + n) % 2 ^ 64)
    pointed-stands t len of most = go mark h.3
      where
        there : (entry : TableEntry) × (slice_get of.table.entries h.0 ≡ Some entry)
        there = entry-there of.table.entries h.0 (let less = h.1 in omega (arith, of.count))

        untyped : Stands s registers (EntryPtr t) ((m + n) % 2 ^ 64)
        untyped = record { table = of.table; is_table = of.is_table; i = h.0; entry = there.0; is_entry = there.1; at = at-entry of.table.address of.address; holds = tt }

        go : (mark' : Option (ℕ × ℕ)) → HasMark s mark' h.0 → Stands s registers (entry_value t mark') ((m + n) % 2 ^ 64)
        go None marked = untyped
        go (Some p) marked =
            by-test (λ v. Stands s registers v ((m + n) % 2 ^ 64)) (p.0 == t) (EntryTyped t p.1) (EntryPtr t)
            (λ same.
            let e : p.0 ≡ t = grind (arith, nat_tests) in
            let one : marked.table ≡ of.table = some-table (sym marked.is_table ∙ ap (slice_get s.tables) e ∙ of.is_table) in
            record {
              table = marked.table;
              is_table = subst (λ u. slice_get s.tables u ≡ Some marked.table) e marked.is_table;
              i = h.0;
              entry = marked.entry;
              is_entry = marked.is_entry;
              at = at-entry marked.table.address (ap (λ x. x.address) one ∙ of.address);
              holds = marked.tagged;
            })
            (λ _. untyped)

    indexed-stands : Stands s registers (entry_sum (table_list s) a k mark) ((m + n) % 2 ^ 64)
    indexed-stands = go (table_from 0 a (table_list s)) refl
      where
        go : (o : Option (ℕ × ℕ)) → table_from 0 a (table_list s) ≡ o → Stands s registers (entry_sum_in o k mark) ((m + n) % 2 ^ 64)
        go None e = tt
        go (Some p) e =
            by-test (λ v. Stands s registers v ((m + n) % 2 ^ 64)) (nat_le k p.1) (entry_value p.0 mark) Any
            (λ most.
            let found = table-found 0 a (table_list s) p.0 p.1 e in
            let at : slice_get (table_list s) p.0 ≡ Some (a, p.1) = let same : p.0 ≡ found.0 = omega (arith, found.1) in ap (slice_get (table_list s)) same ∙ found.2 in
            pointed-stands p.0 p.1 (listed s p.0 a p.1 at) (grind (arith, nat_tests)))
            (λ _. tt)

  image-stands : (a : ℕ) (q : Extent) (m n : ℕ) → m ≡ (s.load + a) % 2 ^ 64 → ExtentStands s registers q n → Stands s registers (image_plus (table_list s) a q) ((m + n) % 2 ^ 64)
  image-stands a (Exactly c) m n is h = omega arith
  image-stands a (Other (Index16 k mark)) m n is h = indexed-stands a k m n mark is h
  image-stands a (Other (JumpOff b k)) m n is h = dest-stands s registers a b k m n is h
  image-stands a _ m n is h = tt

  swapped : (v : Value) (m n : ℕ) → Stands s registers v ((n + m) % 2 ^ 64) → Stands s registers v ((m + n) % 2 ^ 64)
  swapped v m n h = subst (λ x. Stands s registers v (x % 2 ^ 64)) (add-comm n m) h
    where
      add-comm : (a b : ℕ) → a + b ≡ b + a
      add-comm a b = omega arith

  index-stands : (k : ℕ) (mark : Option (ℕ × ℕ)) (q : Extent) (m n : ℕ) → Stands s registers (Index16 k mark) m → ExtentStands s registers q n → Stands s registers (index_plus (table_list s) k mark q) ((m + n) % 2 ^ 64)
  index-stands k mark (Other (Image a)) m n h is = swapped (entry_sum (table_list s) a k mark) m n (indexed-stands a k n m mark is h)
  index-stands k mark _ m n h is = tt

  off-stands : (b k : ℕ) (q : Extent) (m n : ℕ) → Stands s registers (JumpOff b k) m → ExtentStands s registers q n → Stands s registers (jump_off_plus b k q) ((m + n) % 2 ^ 64)
  off-stands b k (Other (Image a)) m n h is = swapped (jump_sum a b k) m n (dest-stands s registers a b k n m is h)
  off-stands b k _ m n h is = tt

  moved-stands : (v : Value) (q : Extent) (m n : ℕ) → HasRoom s → Stands s registers v m → ExtentStands s registers q n → Stands s registers (symbol_sum (table_list s) v q) ((m + n) % 2 ^ 64)
  moved-stands HeapBase q m n room h g = heap-stands s registers q m n room h g
  moved-stands (Image a) q m n room h g = image-stands a q m n h g
  moved-stands (Index16 k mark) q m n room h g = index-stands k mark q m n h g
  moved-stands (JumpOff b k) q m n room h g = off-stands b k q m n h g
  moved-stands _ q m n room h g = tt

  extents-stand : (p q : Extent) (m n : ℕ) → HasRoom s → ExtentStands s registers p m → ExtentStands s registers q n → Stands s registers (add_extents (table_list s) p q) ((m + n) % 2 ^ 64)
  extents-stand (Other v) q m n room h g = moved-stands v q m n room h g
  extents-stand (Exactly c) (Other w) m n room h g = swapped (symbol_sum (table_list s) w (Exactly c)) m n (moved-stands w (Exactly c) n m room g h)
  extents-stand (Under j) (Other w) m n room h g = swapped (symbol_sum (table_list s) w (Under j)) m n (moved-stands w (Under j) n m room g h)
  extents-stand Unbounded (Other w) m n room h g = swapped (symbol_sum (table_list s) w Unbounded) m n (moved-stands w Unbounded n m room g h)
  extents-stand (Exactly c) (Exactly d) m n room h g = omega arith
  extents-stand (Exactly c) (Under k) m n room h g = rounded-stands s registers (c + k) (m + n) (omega arith)
  extents-stand (Under j) (Exactly d) m n room h g = rounded-stands s registers (d + j) (m + n) (omega arith)
  extents-stand (Under j) (Under k) m n room h g = rounded-stands s registers (j + k - 1) (m + n) (omega arith)
  extents-stand _ _ m n room h g = tt

pub sums-stand : SumsStand
sums-stand s registers x y m n room hx hy = extents-stand s registers (extent_of x) (extent_of y) m n room (extent-stands s registers x m hx) (extent-stands s registers y n hy)
