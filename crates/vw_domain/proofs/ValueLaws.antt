-- The laws of values, by the rows of their order.
use Rattle.std.proofs.Common.{◌≡◌, ℕ, ◌+◌, ◌-◌, ◌*◌, ◌%◌, ◌^◌, ◌<◌, ◌≤◌, ◌⊎◌, inl, inr, ⊎_elim, ◌==◌, refl, sym, ap, ◌∙◌, subst, arith, min, mul_comm, List}
use Rattle.std.specs.Prelude.{Option, Some, None, Bool, true, false, if◌then◌else◌, nat_le, nat_lt, ◌&&◌, bit_and}
use Rattle.std.proofs.lemmas.Bool.{eqb-true}
use Rattle.std.proofs.lemmas.Bool.Decides.{nat_tests}
use Rattle.std.proofs.lemmas.Nat.{and_le_l}
use Rattle.vw_insn.specs.Listed.{IsNarrow, IsWide}
use Rattle.vw_insn.specs.declared.registers.Width.{Width}
use Rattle.vw_insn.specs.declared.registers.Width.TheVariants.{W8, W16, W32, W64}
use Rattle.vw_insn.specs.Words.{low, with_low}
use Rattle.vw_insn.specs.Arithmetic.{extended, wrapped_sum, wrapped_difference}
use Rattle.vw_lattice.specs.Order.{IsJoin}
use Rattle.vw_values.specs.declared.value.Value.{Value}
use Rattle.vw_values.specs.declared.value.Value.TheVariants.{Any, Num, Const, Below, Low, Both, HeapBase, HeapAddr, Image, Index16, EntryPtr, EntryTyped, JumpOff, JumpDest}
use Rattle.vw_values.specs.declared.extent.Extent.{Extent}
use Rattle.vw_values.specs.declared.extent.Extent.TheVariants.{Exactly, Under as UnderBound, Unbounded, Other}
use Rattle.vw_values.specs.Bounds.{first_from, pow}
use Rattle.vw_values.specs.Values.{IsValue, IsValid, IsNumber, value_below}
use Rattle.vw_values.specs.Joins.{join}
use Rattle.vw_values.specs.Sums.{add, subtract, extent_of, below_or_num, heap_plus, table_from, entry_value, entry_sum_in, symbol_sum, add_extents, num_or_any, subtract_extent}
use Rattle.vw_values.specs.Narrowing.{narrow, narrow32, any_number, const_or_below}
use Rattle.vw_values.specs.Masks.{and, and_extents, bound_of, lesser}
use Rattle.vw_values.specs.Scales.{scale, scale_extent, shl4, shl4_extent, index_or_num}
use Rattle.vw_values.specs.Refinements.{below, equal, cut, cut_whole, cut_half, cut_below, equal_whole}
use Rattle.vw_values.specs.Stands.{Instance, Stands, HasRoom}
use Rattle.vw_values.specs.Laws as law
use Rattle.vw_domain.specs.Sites.{Site, IsSite}
use Rattle.vw_domain.specs.Stands.{Machine, Tag, tag_register}
use Rattle.vw_domain.specs.Soundness.{IsPlaced}
use Rattle.vw_domain.proofs.Orders
use Rattle.vw_domain.proofs.Orders.{Under, same, to_any, const_num, const_below, const_low, const_both, below_num, below_below, below_low, below_both, low_num, low_low, both_num, both_low, both_both, both_below, heap, typed, index16, index16_unmarked, jump_off, jump_dest, under_of, below_of}
pub use Rattle.vw_domain.specs.ValueLaws.{ValueLaws}

-- ---- (A)

room : (top : Machine) (site : Site) (next : ℕ) → IsPlaced top site next → HasRoom top.instance
room top site next laid = omega (arith, laid.heap_ends)

some_value : (i : Instance) (held : ℕ → ℕ) (o : Option Value) (a : ℕ) → law.StandsWhere i held o a → (v' : Value) × (o ≡ Some v') × Stands i held v' a
some_value i held None a k = absurd k
some_value i held (Some v) a k = (v, refl, k)

module _ (top : Machine) (site : Site) (held : ℕ → ℕ) (next : ℕ) (laid : IsPlaced top site next) (laws : ValueLaws) (bounds : IsSite site) where
  abbrev V : Value → ℕ → Type 0
  V v x = Stands top.instance held v x

  pub under_stands : (u v : Value) (x : ℕ) → IsValue v → Under u v → V u x → V v x
  under_stands u v x i same k = k
  under_stands u v x i to_any k = tt
  under_stands u v x i const_num k = tt
  under_stands u v x i (const_below h) k = omega arith
  under_stands u v x i (const_low h) k = omega arith
  under_stands u v x i (const_both h g) k = (omega arith, omega arith)
  under_stands u v x i below_num k = tt
  under_stands u v x i (below_below h) k = omega arith
  under_stands u v x i (below_low h) k = omega arith
  under_stands u v x i (below_both h) k = let r = i.1 in (omega arith, omega arith)
  under_stands u v x i low_num k = tt
  under_stands u v x i (low_low h) k = omega arith
  under_stands u v x i both_num k = tt
  under_stands u v x i (both_low h) k = omega (arith, k.1)
  under_stands u v x i (both_both h) k = (k.0, omega (arith, k.1))
  under_stands u v x i (both_below h) k = omega (arith, k.0)
  under_stands u v x i heap k = (0, omega arith, omega arith)
  under_stands u v x i typed k = record { table = k.table; is_table = k.is_table; i = k.i; entry = k.entry; is_entry = k.is_entry; at = k.at; holds = tt }
  under_stands u v x i (index16 h) k = (k.0, omega (arith, k.1), k.2, k.3)
  under_stands u v x i (index16_unmarked h) k = (k.0, omega (arith, k.1), k.2, tt)
  under_stands u v x i (jump_off h) k = (k.0, omega (arith, k.1), k.2)
  under_stands u v x i (jump_dest h) k = (k.0, omega (arith, k.1), k.2)

  pub add_stands : (x y : Value) (a b : ℕ) → V x a → V y b → V (add x y site.tables) (wrapped_sum a b)
  add_stands x y a b h k = let P : List (ℕ × ℕ) → Type 0 = λ t. V (add x y t) (wrapped_sum a b) in subst P laid.tables (laws.sums_stand top.instance held x y a b (room top site next laid) h k)

  pub subtract_stands : (x y : Value) (a b : ℕ) → IsValue y → V x a → V y b → V (subtract x y site.tables) (wrapped_difference a b)
  subtract_stands x y a b i h k = let P : List (ℕ × ℕ) → Type 0 = λ t. V (subtract x y t) (wrapped_difference a b) in subst P laid.tables (laws.differences_stand top.instance held x y a b (room top site next laid) i h k)

  pub narrow32_stands : (v : Value) (a : ℕ) → V v a → V (narrow32 v) (a % 2 ^ 32)
  narrow32_stands v a h = laws.lows_stand top.instance held v a h

  pub narrowed_stands : (signed : Bool) (from to : Width) (v : Value) (a old : ℕ) → IsNarrow from → IsWide to → V v a → V (narrow v from to signed) (with_low to old (extended signed from to (low from a)))
  narrowed_stands signed from W8 v a old n m h = absurd m
  narrowed_stands signed from W16 v a old n m h = absurd m
  narrowed_stands signed from W32 v a old n m h = laws.narrows_stand top.instance held v from W32 signed a n tt h
  narrowed_stands signed from W64 v a old n m h = laws.narrows_stand top.instance held v from W64 signed a n tt h

  pub scaled_stands : (s : ℕ) (v : Value) (a : ℕ) → a < 2 ^ 64 → V v a → V (scale v s) (a * s % 2 ^ 64)
  scaled_stands s v a f h = subst (λ n. V (scale v s) (n % 2 ^ 64)) (mul_comm s a) (laws.scales_stand top.instance held v s a f h)

  pub and_stands : (width : Width) (x y : Value) (a b old : ℕ) → IsWide width → V x a → V y b
      → V (and x y width site.bounds) (with_low width old (low width (bit_and (low width a) (low width b))))
  and_stands W8 x y a b old m h k = absurd m
  and_stands W16 x y a b old m h k = absurd m
  and_stands W32 x y a b old m h k =
      let got = laws.ands_stand top.instance held site.bounds x y W32 a b bounds.bounds tt h k in
      subst (V (and x y W32 site.bounds)) (small_and (a % 2 ^ 32) (b % 2 ^ 32) (omega arith)) got
    where
      small_and : (p q : ℕ) → p < 2 ^ 32 → bit_and p q ≡ bit_and p q % 2 ^ 32
      small_and p q l = let most = and_le_l p q in omega arith
  and_stands W64 x y a b old m h k = laws.ands_stand top.instance held site.bounds x y W64 a b bounds.bounds tt h k

  pub shifted_stands : (v : Value) (a : ℕ) → V v a → V (shl4 v site.bounds) (a * 2 ^ 4 % 2 ^ 64)
  shifted_stands v a h = subst (V (shl4 v site.bounds)) (omega arith) (laws.shifts_stand top.instance held site.bounds v a bounds.bounds h)

  pub below_stands : (w : Width) (k : ℕ) (v : Value) (a : ℕ) → IsWide w → IsValue v → a < 2 ^ 64 → V v a → low w a < k → (v' : Value) × (below v w k site.bounds ≡ Some v') × V v' a
  below_stands w k v a wide i f h l = some_value top.instance held _ a (laws.below_holds top.instance held site.bounds v w k a bounds.bounds wide i f l h)

  pub equal_stands : (w : Width) (k : ℕ) (v : Value) (a : ℕ) → IsWide w → IsValue v → a < 2 ^ 64 → V v a → low w a ≡ k → (v' : Value) × (equal v w k site.bounds ≡ Some v') × V v' a
  equal_stands w k v a wide i f h l = some_value top.instance held _ a (laws.equal_holds top.instance held site.bounds v w k a bounds.bounds wide i f l h)

-- ---- kinds

abbrev NoTag : Value → Type 0
NoTag v = tag_register v ≡ None

bound_no_tag : (o : Option ℕ) → NoTag (below_or_num o)
bound_no_tag None = refl
bound_no_tag (Some k) = refl

heap_no_tag : (q : Extent) → NoTag (heap_plus q)
heap_no_tag (Exactly c) = by_test (nat_lt c (2 ^ 32))
  where
    by_test : (b : Bool) → NoTag (if b then HeapAddr else Any)
    by_test true = refl
    by_test false = refl
heap_no_tag (UnderBound k) = by_test (nat_le k (2 ^ 32))
  where
    by_test : (b : Bool) → NoTag (if b then HeapAddr else Any)
    by_test true = refl
    by_test false = refl
heap_no_tag q = refl

entry_no_tag : (o : Option (ℕ × ℕ)) (k : ℕ) (m : Option (ℕ × ℕ)) → NoTag (entry_sum_in o k m)
entry_no_tag None k m = refl
entry_no_tag (Some table) k m = by_test (nat_le k table.1) m
  where
    by_table : (b : Bool) (g : ℕ) → NoTag (if b then EntryTyped table.0 g else EntryPtr table.0)
    by_table true g = refl
    by_table false g = refl

    by_test : (b : Bool) (m : Option (ℕ × ℕ)) → NoTag (if b then entry_value table.0 m else Any)
    by_test true None = refl
    by_test true (Some g) = by_table (g.0 == table.0) g.1
    by_test false m = refl

jump_no_tag : (b : Bool) (a k : ℕ) → NoTag (if b then JumpDest a k else Any)
jump_no_tag true a k = refl
jump_no_tag false a k = refl

other_no_tag : (tables : List (ℕ × ℕ)) (v w : Value) → NoTag (symbol_sum tables v (Other w))
other_no_tag tables HeapBase w = refl
other_no_tag tables (Image a) (Index16 k m) = entry_no_tag (table_from 0 a tables) k m
other_no_tag tables (Image a) (JumpOff b k) = jump_no_tag (a == b) a k
other_no_tag tables (Image a) w = refl
other_no_tag tables (Index16 k m) (Image a) = entry_no_tag (table_from 0 a tables) k m
other_no_tag tables (Index16 k m) w = refl
other_no_tag tables (JumpOff b k) (Image a) = jump_no_tag (a == b) a k
other_no_tag tables (JumpOff b k) w = refl
other_no_tag tables v w = refl

symbol_no_tag : (tables : List (ℕ × ℕ)) (v : Value) (q : Extent) → NoTag (symbol_sum tables v q)
symbol_no_tag tables HeapBase q = heap_no_tag q
symbol_no_tag tables v (Other w) = other_no_tag tables v w
symbol_no_tag tables (Image a) (Exactly c) = refl
symbol_no_tag tables (Image a) (UnderBound k) = refl
symbol_no_tag tables (Image a) Unbounded = refl
symbol_no_tag tables (Index16 k m) (Exactly c) = refl
symbol_no_tag tables (Index16 k m) (UnderBound j) = refl
symbol_no_tag tables (Index16 k m) Unbounded = refl
symbol_no_tag tables (JumpOff b k) (Exactly c) = refl
symbol_no_tag tables (JumpOff b k) (UnderBound j) = refl
symbol_no_tag tables (JumpOff b k) Unbounded = refl
symbol_no_tag tables v q = refl

extents_no_tag : (tables : List (ℕ × ℕ)) (p q : Extent) → NoTag (add_extents tables p q)
extents_no_tag tables (Other v) q = symbol_no_tag tables v q
extents_no_tag tables (Exactly c) (Other w) = symbol_no_tag tables w (Exactly c)
extents_no_tag tables (UnderBound k) (Other w) = symbol_no_tag tables w (UnderBound k)
extents_no_tag tables Unbounded (Other w) = symbol_no_tag tables w Unbounded
extents_no_tag tables (Exactly c) (Exactly d) = refl
extents_no_tag tables (Exactly c) (UnderBound k) = bound_no_tag (pow (c + k))
extents_no_tag tables (UnderBound j) (Exactly d) = bound_no_tag (pow (d + j))
extents_no_tag tables (UnderBound j) (UnderBound k) = bound_no_tag (pow (j + k - 1))
extents_no_tag tables (Exactly c) Unbounded = refl
extents_no_tag tables (UnderBound j) Unbounded = refl
extents_no_tag tables Unbounded (Exactly c) = refl
extents_no_tag tables Unbounded (UnderBound j) = refl
extents_no_tag tables Unbounded Unbounded = refl

pub add_no_tag : (tables : List (ℕ × ℕ)) (x y : Value) → NoTag (add x y tables)
add_no_tag tables x y = extents_no_tag tables (extent_of x) (extent_of y)

num_or_any_no_tag : (q : Extent) → NoTag (num_or_any q)
num_or_any_no_tag (Other v) = refl
num_or_any_no_tag q = refl

pub subtract_no_tag : (tables : List (ℕ × ℕ)) (x y : Value) → NoTag (subtract x y tables)
subtract_no_tag tables x y = by_extent (extent_of y)
  where
    by_extent : (q : Extent) → NoTag (subtract_extent tables x q)
    by_extent (Exactly d) = add_no_tag tables x (Const ((2 ^ 64 - d) % 2 ^ 64))
    by_extent (Other w) = refl
    by_extent (UnderBound k) = num_or_any_no_tag (extent_of x)
    by_extent Unbounded = num_or_any_no_tag (extent_of x)

pub narrow32_no_tag : (v : Value) → NoTag (narrow32 v)
narrow32_no_tag (Const c) = refl
narrow32_no_tag v = refl

const_no_tag : (n : ℕ) (v : Value) → NoTag (const_or_below n v)
const_no_tag n (Const c) = refl
const_no_tag n v = refl

any_no_tag : (w : Width) → NoTag (any_number w)
any_no_tag W8 = refl
any_no_tag W16 = refl
any_no_tag W32 = refl
any_no_tag W64 = refl

-- from less than all bits
pub narrowed_no_tag : (signed : Bool) (from to : Width) (v : Value) → IsNarrow from → NoTag (narrow v from to signed)
narrowed_no_tag true from to v n = any_no_tag to
narrowed_no_tag false W8 to v n = const_no_tag (2 ^ 8) v
narrowed_no_tag false W16 to v n = const_no_tag (2 ^ 16) v
narrowed_no_tag false W32 to v n = narrow32_no_tag v
narrowed_no_tag false W64 to v n = absurd n

and_extents_no_tag : (b : List ℕ) (p q : Extent) → NoTag (and_extents b p q)
and_extents_no_tag b (Exactly c) (Exactly d) = refl
and_extents_no_tag b p q = bound_no_tag (lesser (bound_of b p) (bound_of b q))

pub and_no_tag : (b : List ℕ) (w : Width) (x y : Value) → NoTag (and x y w b)
and_no_tag b W8 x y = refl
and_no_tag b W16 x y = refl
and_no_tag b W32 x y = and_extents_no_tag b (extent_of (narrow32 x)) (extent_of (narrow32 y))
and_no_tag b W64 x y = and_extents_no_tag b (extent_of x) (extent_of y)

pub shifted_no_tag : (b : List ℕ) (v : Value) → NoTag (shl4 v b)
shifted_no_tag b v = by_extent (extent_of v)
  where
    index : (o : Option ℕ) → NoTag (index_or_num o)
    index None = refl
    index (Some k) = refl

    first : (t : Bool) (o : Option ℕ) → NoTag (if t then index_or_num o else Any)
    first true o = index o
    first false o = refl

    second : (t : Bool) (k : ℕ) → NoTag (if t then Index16 k None else Any)
    second true k = refl
    second false k = refl

    by_extent : (q : Extent) → NoTag (shl4_extent b q)
    by_extent (Exactly c) = first (nat_lt c 65536) (first_from (c + 1) b)
    by_extent (UnderBound k) = second (nat_le k 65536) k
    by_extent Unbounded = refl
    by_extent (Other w) = refl

scale_no_tag : (s : ℕ) (q : Extent) → NoTag (scale_extent s q)
scale_no_tag s (Exactly c) = refl
scale_no_tag s (UnderBound k) = bound_no_tag (pow (s * (k - 1) + 1))
scale_no_tag s q = refl

no_tag_some : {g : Tag} (v : Value) → NoTag v → tag_register v ≡ Some g → ⊥
no_tag_some v n e = let x : ◌≡◌ {A = Option Tag} None (Some _) = sym n ∙ e in cc

pub scaled_tag : (s : ℕ) (v : Value) (g : Tag) → tag_register (scale v s) ≡ Some g → tag_register v ≡ Some g
scaled_tag s v g e = by_test (s == 1) e
  where
    by_test : (b : Bool) → tag_register (if b then v else scale_extent s (extent_of v)) ≡ Some g → tag_register v ≡ Some g
    by_test true e = e
    by_test false e = absurd (no_tag_some _ (scale_no_tag s (extent_of v)) e)

-- ---- refinements

some_of : {A : Type 0} {a b : A} → Some a ≡ Some b → a ≡ b
some_of e = cc

none_of : {A : Type 0} {a : A} → ◌≡◌ {A = Option A} None (Some a) → ⊥
none_of e = cc

abbrev Kind : Value → Value → Type 0
Kind v u = (u ≡ v) ⊎ IsNumber u

number_kind : (v u x : Value) → Some x ≡ Some u → IsNumber x → Kind v u
number_kind v u x e n = inr (subst IsNumber (some_of e) n)

cut_number : (w : Width) (o : Option ℕ) (v : Value) → IsNumber v → IsNumber (cut w o v)
cut_number w None v n = n
cut_number W8 (Some k) v n = n
cut_number W16 (Some k) v n = n
cut_number W32 (Some k) v n = by_test (nat_lt k (2 ^ 32))
  where
    half : (v : Value) → IsNumber v → IsNumber (cut_half k v)
    half Num n = tt
    half (Const c) n = tt
    half (Below j) n = by_j (nat_le j (2 ^ 32))
      where
        by_j : (t : Bool) → IsNumber (if t then Below (min j k) else Both k)
        by_j true = tt
        by_j false = tt
    half (Low j) n = tt
    half (Both j) n = tt
    half v n = absurd n

    by_test : (t : Bool) → IsNumber (if t then cut_half k v else v)
    by_test true = half v n
    by_test false = n
cut_number W64 (Some k) v n = whole v n
  where
    by_k : (t : Bool) (j : ℕ) → IsNumber (if t then Below (min j k) else Both j)
    by_k true j = tt
    by_k false j = tt

    whole : (v : Value) → IsNumber v → IsNumber (cut_whole k v)
    whole Num n = tt
    whole (Const c) n = tt
    whole (Below j) n = tt
    whole (Low j) n = by_k (nat_le k (2 ^ 32)) j
    whole (Both j) n = by_k (nat_le k (2 ^ 32)) j
    whole v n = absurd n

cut_kind : (w : Width) (k : ℕ) (b : List ℕ) (v u : Value) → IsNumber v → cut_below v w k b ≡ Some u → Kind v u
cut_kind w k b v u n e = by_test (k == 0) e
  where
    by_test : (t : Bool) → (if t then None else Some (cut w (first_from k b) v)) ≡ Some u → Kind v u
    by_test true e = absurd (none_of e)
    by_test false e = number_kind v u _ e (cut_number w (first_from k b) v n)

same_kind : (v u : Value) → Some v ≡ Some u → Kind v u
same_kind v u e = inl (sym (some_of e))

const_kind : (c u : Value) (t : Bool) (k : ℕ) → (if t then Some (Const k) else None) ≡ Some u → Kind c u
const_kind c u true k e = number_kind c u (Const k) e tt
const_kind c u false k e = absurd (none_of e)

-- a refinement changes numbers alone
pub below_kind : (b : List ℕ) (w : Width) (k : ℕ) (v u : Value) → below v w k b ≡ Some u → (u ≡ v) ⊎ IsNumber u
below_kind b w k Num u e = cut_kind w k b Num u tt e
below_kind b w k (Const c) u e = const_kind (Const c) u (nat_lt (low w c) k) c e
below_kind b w k (Below j) u e = cut_kind w k b (Below j) u tt e
below_kind b w k (Low j) u e = cut_kind w k b (Low j) u tt e
below_kind b w k (Both j) u e = cut_kind w k b (Both j) u tt e
below_kind b w k v u e = same_kind v u e

whole_kind : (k : ℕ) (v u : Value) → equal_whole v k ≡ Some u → (u ≡ v) ⊎ IsNumber u
whole_kind k Num u e = number_kind Num u (Const k) e tt
whole_kind k (Const c) u e = const_kind (Const c) u (c == k) k e
whole_kind k (Below j) u e = const_kind (Below j) u (nat_lt k j) k e
whole_kind k (Low j) u e = const_kind (Low j) u (nat_lt (k % 2 ^ 32) j) k e
whole_kind k (Both j) u e = const_kind (Both j) u (nat_lt k (2 ^ 33) && nat_lt (k % 2 ^ 32) j) k e
whole_kind k v u e = same_kind v u e

pub equal_kind : (b : List ℕ) (w : Width) (k : ℕ) (v u : Value) → equal v w k b ≡ Some u → (u ≡ v) ⊎ IsNumber u
equal_kind b W8 k v u e = same_kind v u e
equal_kind b W16 k v u e = same_kind v u e
equal_kind b W32 k v u e = below_kind b W32 (k + 1) v u e
equal_kind b W64 k v u e = whole_kind k v u e

-- ---- (B)

lower_some : (o p : Option Value) (u : Value) → law.IsLower o p → o ≡ Some u → (u' : Value) × (p ≡ Some u') × Under u u'
lower_some None p u h e = absurd (none_of e)
lower_some (Some x) None u h e = absurd h
lower_some (Some x) (Some y) u h e = (y, refl, subst (λ z. Under z y) (some_of e) (under_of x y h))

valid_some : (b : List ℕ) (o : Option Value) (u : Value) → law.IsValidWhere b o → o ≡ Some u → IsValid b u
valid_some b None u h e = absurd (none_of e)
valid_some b (Some x) u h e = subst (IsValid b) (some_of e) h

module _ (site : Site) (laws : ValueLaws) (bounds : IsSite site) where
  pub under_trans : (u v x : Value) → IsValue v → IsValue x → Under u v → Under v x → Under u x
  under_trans u v x iv ix same k = k
  under_trans u v x iv ix h same = h
  under_trans u v x iv ix h to_any = to_any
  under_trans u v x iv ix (const_below h) below_num = const_num
  under_trans u v x iv ix (const_below h) (below_below k) = const_below (omega arith)
  under_trans u v x iv ix (const_below h) (below_low k) = const_low (omega arith)
  under_trans u v x iv ix (const_below h) (below_both k) = let r = ix.1 in const_both (omega arith) (omega arith)
  under_trans u v x iv ix (const_low h) low_num = const_num
  under_trans u v x iv ix (const_low h) (low_low k) = const_low (omega arith)
  under_trans u v x iv ix (const_both h g) both_num = const_num
  under_trans u v x iv ix (const_both h g) (both_low k) = const_low (omega arith)
  under_trans u v x iv ix (const_both h g) (both_both k) = const_both h (omega arith)
  under_trans u v x iv ix (const_both h g) (both_below k) = const_below (omega arith)
  under_trans u v x iv ix (below_below h) below_num = below_num
  under_trans u v x iv ix (below_below h) (below_below k) = below_below (omega arith)
  under_trans u v x iv ix (below_below h) (below_low k) = below_low (omega arith)
  under_trans u v x iv ix (below_below h) (below_both k) = below_both (omega arith)
  under_trans u v x iv ix (below_low h) low_num = below_num
  under_trans u v x iv ix (below_low h) (low_low k) = below_low (omega arith)
  under_trans u v x iv ix (below_both h) both_num = below_num
  under_trans u v x iv ix (below_both h) (both_low k) = below_low (omega arith)
  under_trans u v x iv ix (below_both h) (both_both k) = below_both (omega arith)
  under_trans u v x iv ix (below_both h) (both_below k) = let r = iv.1 in below_below (omega arith)
  under_trans u v x iv ix (low_low h) low_num = low_num
  under_trans u v x iv ix (low_low h) (low_low k) = low_low (omega arith)
  under_trans u v x iv ix (both_low h) low_num = both_num
  under_trans u v x iv ix (both_low h) (low_low k) = both_low (omega arith)
  under_trans u v x iv ix (both_both h) both_num = both_num
  under_trans u v x iv ix (both_both h) (both_low k) = both_low (omega arith)
  under_trans u v x iv ix (both_both h) (both_both k) = both_both (omega arith)
  under_trans u v x iv ix (both_both h) (both_below k) = both_below k
  under_trans u v x iv ix (both_below h) below_num = both_num
  under_trans u v x iv ix (both_below h) (below_below k) = both_below (⊎_elim (λ (a : _ ≤ 2 ^ 32). omega arith) (λ (b : _ ≡ 2 ^ 33). b) ix.1)
  under_trans u v x iv ix (both_below h) (below_low k) = absurd (let r = ix.1 in omega arith)
  under_trans u v x iv ix (both_below h) (below_both k) = absurd (let r = ix.1 in omega arith)
  under_trans u v x iv ix (index16 h) (index16 k) = index16 (omega arith)
  under_trans u v x iv ix (index16 h) (index16_unmarked k) = index16_unmarked (omega arith)
  under_trans u v x iv ix (index16_unmarked h) (index16 k) = index16_unmarked (omega arith)
  under_trans u v x iv ix (index16_unmarked h) (index16_unmarked k) = index16_unmarked (omega arith)
  under_trans u v x iv ix (jump_off h) (jump_off k) = jump_off (omega arith)
  under_trans u v x iv ix (jump_dest h) (jump_dest k) = jump_dest (omega arith)

  pub add_below : (x x' y y' : Value) → IsValue x → IsValue y → IsValue x' → IsValue y' → Under x x' → Under y y' → Under (add x y site.tables) (add x' y' site.tables)
  add_below x x' y y' vx vy vx' vy' h k = under_of _ _ (laws.sums_rise site.tables x x' y y' bounds.few vx vx' vy vy' (below_of x x' h) (below_of y y' k))

  pub subtract_below : (x x' y y' : Value) → IsValue x → IsValue y → IsValue x' → IsValue y' → Under x x' → Under y y' → Under (subtract x y site.tables) (subtract x' y' site.tables)
  subtract_below x x' y y' vx vy vx' vy' h k = under_of _ _ (laws.differences_rise site.tables x x' y y' bounds.few vx vx' vy vy' (below_of x x' h) (below_of y y' k))

  pub narrow32_below : (v v' : Value) → IsValue v → IsValue v' → Under v v' → Under (narrow32 v) (narrow32 v')
  narrow32_below v v' i i' h = under_of _ _ (laws.lows_rise v v' i i' (below_of v v' h))

  pub narrow32_under : (v : Value) → IsValue v → Under (narrow32 v) (Below (2 ^ 32))
  narrow32_under v i = under_of _ _ (laws.lows_rise v Any i tt tt)

  pub narrowed_below : (signed : Bool) (from to : Width) (v v' : Value) → IsValue v → IsValue v' → Under v v' → Under (narrow v from to signed) (narrow v' from to signed)
  narrowed_below signed from to v v' i i' h = under_of _ _ (laws.narrows_rise v v' from to signed i i' (below_of v v' h))

  pub scaled_below : (s : ℕ) (v v' : Value) → IsValue v → IsValue v' → Under v v' → Under (scale v s) (scale v' s)
  scaled_below s v v' i i' h = under_of _ _ (laws.scales_rise v v' s i i' (below_of v v' h))

  -- only the upper one's bounds need be listed
  pub and_below : (w : Width) (x x' y y' : Value) → IsValue x → IsValue y → IsValid site.bounds x' → IsValid site.bounds y' → Under x x' → Under y y' → Under (and x y w site.bounds) (and x' y' w site.bounds)
  and_below w x x' y y' i j i' j' h k = under_of _ _ (laws.ands_rise site.bounds x x' y y' w bounds.bounds i i' j j' (below_of x x' h) (below_of y y' k))

  pub shifted_below : (v v' : Value) → IsValue v → IsValid site.bounds v' → Under v v' → Under (shl4 v site.bounds) (shl4 v' site.bounds)
  shifted_below v v' i i' h = under_of _ _ (laws.shifts_rise site.bounds v v' bounds.bounds i i' (below_of v v' h))

  -- the join is the least valid value above both
  joined : (x y : Value) → IsValue x → IsValue y → IsJoin value_below (IsValid site.bounds) x y (join site.bounds x y)
  joined x y i j = laws.joins_least site.bounds x y bounds.bounds i j

  pub join_left : (x y : Value) → IsValid site.bounds x → IsValid site.bounds y → Under x (join site.bounds x y)
  join_left x y i j = under_of _ _ (joined x y i.0 j.0).above_left

  pub join_right : (x y : Value) → IsValid site.bounds x → IsValid site.bounds y → Under y (join site.bounds x y)
  join_right x y i j = under_of _ _ (joined x y i.0 j.0).above_right

  pub join_below : (x x' y y' : Value) → IsValid site.bounds x → IsValid site.bounds y → IsValid site.bounds x' → IsValid site.bounds y' → Under x x' → Under y y' → Under (join site.bounds x y) (join site.bounds x' y')
  join_below x x' y y' i j i' j' h k =
      under_of _ _ (laws.joins_rise site.bounds x x' y y' bounds.bounds i.0 i'.0 j.0 j'.0 (below_of x x' h) (below_of y y' k))

  pub below_mono : (w : Width) (k : ℕ) (v v' u : Value) → IsWide w → IsValue v → IsValue v' → Under v v' → below v w k site.bounds ≡ Some u → (u' : Value) × (below v' w k site.bounds ≡ Some u') × Under u u'
  below_mono w k v v' u wide i i' h e = lower_some _ _ u (laws.below_rises site.bounds v v' w k bounds.bounds wide i i' (below_of v v' h)) e

  pub equal_mono : (w : Width) (k : ℕ) (v v' u : Value) → IsWide w → k < 2 ^ 64 → IsValue v → IsValue v' → Under v v' → equal v w k site.bounds ≡ Some u → (u' : Value) × (equal v' w k site.bounds ≡ Some u') × Under u u'
  equal_mono w k v v' u wide small i i' h e = lower_some _ _ u (laws.equal_rises site.bounds v v' w k bounds.bounds wide small i i' (below_of v v' h)) e

  pub below_good : (w : Width) (k : ℕ) (v u : Value) → IsWide w → IsValid site.bounds v → below v w k site.bounds ≡ Some u → IsValid site.bounds u
  below_good w k v u wide i e = valid_some site.bounds _ u (laws.below_valid site.bounds v w k bounds.bounds wide i) e

  pub equal_good : (w : Width) (k : ℕ) (v u : Value) → IsWide w → k < 2 ^ 64 → IsValid site.bounds v → equal v w k site.bounds ≡ Some u → IsValid site.bounds u
  equal_good w k v u wide small i e = valid_some site.bounds _ u (laws.equal_valid site.bounds v w k bounds.bounds wide small i) e

  same_lowers : (v u : Value) → Some v ≡ Some u → Under u v
  same_lowers v u e = subst (λ z. Under z v) (some_of e) same

  cut_lowers_by : (w : Width) (k : ℕ) (o : Option ℕ) (v : Value) → IsWide w → law.IsOpen v → IsValue v → first_from k site.bounds ≡ o → Under (cut w o v) v
  cut_lowers_by w k None v wide n i f = same
  cut_lowers_by W8 k (Some u) v wide n i f = absurd wide
  cut_lowers_by W16 k (Some u) v wide n i f = absurd wide
  cut_lowers_by W32 k (Some u) v wide n i f = by_test (nat_lt u (2 ^ 32)) refl
    where
      by_test : (t : Bool) → nat_lt u (2 ^ 32) ≡ t → Under (if t then cut_half u v else v) v
      by_test true e =
          let greatest = laws.half_cut site.bounds k u v bounds.bounds f (grind (arith, nat_tests)) n i in
          let P : Bool → Type 0 = λ t. value_below (if t then cut_half u v else v) v in
          under_of _ _ (subst P e greatest.left)
      by_test false e = same
  cut_lowers_by W64 k (Some u) v wide n i f = under_of _ _ (laws.whole_cut site.bounds k u v bounds.bounds f n i).left

  cut_lowers : (w : Width) (k : ℕ) (v u : Value) → IsWide w → law.IsOpen v → IsValue v → cut_below v w k site.bounds ≡ Some u → Under u v
  cut_lowers w k v u wide n i e = by_test (k == 0) e
    where
      by_test : (t : Bool) → (if t then None else Some (cut w (first_from k site.bounds) v)) ≡ Some u → Under u v
      by_test true e = absurd (none_of e)
      by_test false e = subst (λ z. Under z v) (some_of e) (cut_lowers_by w k (first_from k site.bounds) v wide n i refl)

  const_lowers : (v u : Value) (t : Bool) (k : ℕ) → (t ≡ true → Under (Const k) v) → (if t then Some (Const k) else None) ≡ Some u → Under u v
  const_lowers v u true k h e = subst (λ z. Under z v) (some_of e) (h refl)
  const_lowers v u false k h e = absurd (none_of e)

  -- refinement never raises a value
  pub below_lowers : (w : Width) (k : ℕ) (v u : Value) → IsWide w → IsValue v → below v w k site.bounds ≡ Some u → Under u v
  below_lowers w k Num u wide i e = cut_lowers w k Num u wide tt i e
  below_lowers w k (Const c) u wide i e = const_lowers (Const c) u (nat_lt (low w c) k) c (λ t. same) e
  below_lowers w k (Below j) u wide i e = cut_lowers w k (Below j) u wide tt i e
  below_lowers w k (Low j) u wide i e = cut_lowers w k (Low j) u wide tt i e
  below_lowers w k (Both j) u wide i e = cut_lowers w k (Both j) u wide tt i e
  below_lowers w k v u wide i e = same_lowers v u e

  whole_lowers : (k : ℕ) (v u : Value) → equal_whole v k ≡ Some u → Under u v
  whole_lowers k Num u e = subst (λ z. Under z Num) (some_of e) Orders.const_num
  whole_lowers k (Const c) u e = const_lowers (Const c) u (c == k) k (λ t. subst (λ z. Under (Const k) (Const z)) (sym (eqb-true c k t)) same) e
  whole_lowers k (Below j) u e = const_lowers (Below j) u (nat_lt k j) k (λ t. Orders.const_below (grind (arith, nat_tests))) e
  whole_lowers k (Low j) u e = const_lowers (Low j) u (nat_lt (k % 2 ^ 32) j) k (λ t. Orders.const_low (grind (arith, nat_tests))) e
  whole_lowers k (Both j) u e = const_lowers (Both j) u (nat_lt k (2 ^ 33) && nat_lt (k % 2 ^ 32) j) k (λ t. Orders.const_both (grind (arith, nat_tests)) (grind (arith, nat_tests))) e
  whole_lowers k v u e = same_lowers v u e

  pub equal_lowers : (w : Width) (k : ℕ) (v u : Value) → IsWide w → IsValue v → equal v w k site.bounds ≡ Some u → Under u v
  equal_lowers W8 k v u wide i e = absurd wide
  equal_lowers W16 k v u wide i e = absurd wide
  equal_lowers W32 k v u wide i e = below_lowers W32 (k + 1) v u wide i e
  equal_lowers W64 k v u wide i e = whole_lowers k v u e

  -- ---- ranges

  abbrev pub Good : Value → Type 0
  Good v = IsValid site.bounds v

  pub narrow32_good : (v : Value) → Good v → Good (narrow32 v)
  narrow32_good v i = laws.lows_valid site.bounds v bounds.bounds i

  pub add_good : (x y : Value) → Good x → Good y → Good (add x y site.tables)
  add_good x y i j = laws.sums_valid site.bounds site.tables x y bounds.bounds bounds.few i j

  pub scaled_good : (s : ℕ) (v : Value) → Good v → Good (scale v s)
  scaled_good s v i = laws.scales_valid site.bounds v s bounds.bounds i

  pub join_valid : (x y : Value) → Good x → Good y → Good (join site.bounds x y)
  join_valid x y i j = (joined x y i.0 j.0).valid

  abbrev pub NoSymbol : Value → Type 0
  NoSymbol v = (v ≡ Any) ⊎ IsNumber v

  bound_number : (o : Option ℕ) → IsNumber (below_or_num o)
  bound_number None = tt
  bound_number (Some k) = tt

  -- the sum of no symbol and a number is no symbol
  pub add_plain : (x : Value) (k : ℕ) → NoSymbol x → NoSymbol (add x (Const k) site.tables)
  add_plain x k (inl e) = inl (ap (λ v. add v (Const k) site.tables) e)
  add_plain x k (inr n) = inr (by_value x n)
    where
      by_value : (x : Value) → IsNumber x → IsNumber (add x (Const k) site.tables)
      by_value Num n = tt
      by_value (Const c) n = tt
      by_value (Below j) n = bound_number (pow (k + j))
      by_value (Low j) n = tt
      by_value (Both j) n = bound_number (pow (k + 2 ^ 33))
      by_value v n = absurd n

  any_is : (v : Value) → Under Any v → v ≡ Any
  any_is v same = refl
  any_is v to_any = refl

  pub join_plain : (x y : Value) → IsValue x → IsValue y → NoSymbol x → NoSymbol y → NoSymbol (join site.bounds x y)
  join_plain x y i j (inl e) p = inl (any_is _ (subst (λ z. Under z (join site.bounds x y)) e (under_of _ _ (joined x y i j).above_left)))
  join_plain x y i j (inr n) (inl e) = inl (any_is _ (subst (λ z. Under z (join site.bounds x y)) e (under_of _ _ (joined x y i j).above_right)))
  join_plain x y i j (inr n) (inr m) = inr (laws.numbers_join site.bounds x y bounds.bounds i j n m)
