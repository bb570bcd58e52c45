-- A lower state gives a closer address.
use Rattle.std.proofs.Common.{◌≡◌, ℕ, ◌+◌, ◌-◌, ◌*◌, ◌%◌, ◌^◌, ◌<◌, ◌≤◌, ◌⊎◌, inl, inr, ◌==◌, refl, sym, ap, ◌∙◌, subst, arith}
use Rattle.std.specs.Prelude.{Option, Some, None, Bool, true, false, if◌then◌else◌, nat_lt, ℤ, pos, negsuc, ◌+ℤ◌, ◌-ℤ◌, ◌≤ℤ◌}
use Rattle.std.proofs.lemmas.Int.{ints}
use Rattle.std.proofs.lemmas.Bool.{false≢true, true≢false}
use Rattle.vw_insn.specs.declared.registers.Reg.{Reg}
use Rattle.vw_insn.specs.declared.operands.Base.{Base}
use Rattle.vw_insn.specs.declared.operands.Base.TheVariants as base
use Rattle.vw_insn.specs.Words.{number, word_of}
use Rattle.vw_domain.proofs.WriteLaws.{none_is}
use Rattle.vw_domain.proofs.ValueLaws.{ValueLaws, add_below}
use Rattle.vw_domain.proofs.Ups.{first_none, first_least}
use Rattle.vw_values.specs.Sums.{extent_of}
use Rattle.vw_domain.proofs.Orders.{const_below, const_both, below_below, below_both, both_both, both_below, heap, typed, index16, index16_unmarked, jump_off, jump_dest}
use Rattle.vw_names.specs.declared.spot.Spot.TheVariants.{Reg as Register}
use Rattle.vw_stack.specs.Stack.{offset_below}
use Rattle.vw_stack.specs.declared.offset.Offset.{Offset}
use Rattle.vw_stack.specs.declared.offset.Offset.TheVariants as offset
use Rattle.vw_values.specs.declared.value.Value.{Value}
use Rattle.vw_values.specs.declared.value.Value.TheVariants.{Any, Num, Const, Below, Low, Both, HeapBase, HeapAddr, Globals as GlobalsBase, Image as ImageAt, Index16, EntryPtr, EntryTyped}
use Rattle.vw_values.specs.declared.value.Via.{Via}
use Rattle.vw_values.specs.declared.value.Via.TheVariants.{At, Idx}
use Rattle.vw_values.specs.Bounds.{first_from, IsMember}
use Rattle.vw_values.specs.Values.{IsValue, IsAmong, IsNumber}
use Rattle.vw_values.specs.Sums.{add}
use Rattle.vw_domain.specs.Registers.{OffsetFits}
use Rattle.vw_domain.specs.Abstract.{Abstract}
use Rattle.vw_domain.specs.Sites.{Site, IsSite}
use Rattle.vw_domain.specs.FormRanges.{IsForm}
use Rattle.vw_domain.proofs.Orders.{Under, same, to_any, Lower}
use Rattle.vw_domain.specs.Addresses.{Address, Frame, Heap, Globals, Range, Entry, Unknown, value_of, signed_times, in_entry, known_or, by_value, by_base, spread, in_heap, in_globals, in_range, in_table, by_image, by_pair, by_index, by_parts}

-- the first address is one of those that the second stands for
pub data Closer : Address → Address → Type 0 where
  alike : {a : Address} → Closer a a
  unknown : {a : Address} → Closer a Unknown
  closer_heap : {l h l' h' : ℤ} → l' ≤ℤ l → l ≤ℤ h → h ≤ℤ h' → Closer (Heap l h) (Heap l' h')
  closer_globals : {l h l' h' : ℤ} → l' ≤ℤ l → l ≤ℤ h → h ≤ℤ h' → Closer (Globals l h) (Globals l' h')
  closer_range : {a s k k' : ℕ} → k ≤ k' → Closer (Range a s k) (Range a s k')
  tagged : {t g d : ℕ} {via : Via} → Closer (Entry t (Some g) d via) (Entry t None d via)

abbrev CloserOption : Option Address → Option Address → Type 0
CloserOption a None = Unit {0}
CloserOption a (Some b) = (x : Address) × (a ≡ Some x) × Closer x b

same_option : (o : Option Address) → CloserOption o o
same_option None = tt
same_option (Some a) = (a, refl, alike)

option_closer : (a b : Option Address) → CloserOption a b → Closer (known_or a None) (known_or b None)
option_closer a None c = unknown
option_closer a (Some b) c = let P : Option Address → Type 0 = λ z. Closer (known_or z None) b in subst P (sym c.1) c.2

abbrev spread_of : ℕ → Value → Option (ℤ × ℤ)
spread_of s v = spread s (extent_of v)

abbrev image_by : Site → ℕ → ℕ → Value → ℕ → ℤ → Option Address
image_by site a i v s d = by_image site a i (extent_of v) s d

entry_closer : (t g : ℕ) (d : ℤ) (via : Via) → CloserOption (in_entry t (Some g) d via) (in_entry t None d via)
entry_closer t g (pos d) via = (Entry t (Some g) d via, refl, tagged)
entry_closer t g (negsuc d) via = tt

heap_bounds : (d : ℤ) → Closer (Heap d d) (Heap d (d +ℤ pos (2 ^ 32 - 1)))
heap_bounds d = closer_heap (omega (arith, ints)) (omega (arith, ints)) (omega (arith, ints))

register_closer : (r : ℕ) (v v' : Value) (d : ℤ) → Under v v' → CloserOption (by_value r v d) (by_value r v' d)
register_closer r v v' d same = same_option (by_value r v d)
register_closer r v v' d to_any = tt
register_closer r v v' d heap = (Heap d d, refl, heap_bounds d)
register_closer r v v' d (typed {t = t} {g = g}) = entry_closer t g d (At r)
register_closer r v v' d h = tt

-- no symbol
abbrev is_plain : Value → Bool
is_plain Any = true
is_plain Num = true
is_plain (Const c) = true
is_plain (Below k) = true
is_plain (Low k) = true
is_plain (Both k) = true
is_plain v = false

plain_above : (v v' : Value) → Under v v' → is_plain v ≡ true → is_plain v' ≡ true
plain_above v v' same n = n
plain_above v v' to_any n = refl
plain_above v v' heap n = absurd (false≢true n)
plain_above v v' typed n = absurd (false≢true n)
plain_above v v' (index16 k) n = absurd (false≢true n)
plain_above v v' (index16_unmarked k) n = absurd (false≢true n)
plain_above v v' (jump_off k) n = absurd (false≢true n)
plain_above v v' (jump_dest k) n = absurd (false≢true n)
plain_above v v' h n = refl

plain_unknown : (r : ℕ) (v : Value) (d : ℤ) → is_plain v ≡ true → by_value r v d ≡ None
plain_unknown r Any d n = refl
plain_unknown r Num d n = refl
plain_unknown r (Const c) d n = refl
plain_unknown r (Below k) d n = refl
plain_unknown r (Low k) d n = refl
plain_unknown r (Both k) d n = refl
plain_unknown r v d n = absurd (false≢true n)

number_plain : (v : Value) → IsNumber v → is_plain v ≡ true
number_plain Num n = refl
number_plain (Const c) n = refl
number_plain (Below k) n = refl
number_plain (Low k) n = refl
number_plain (Both k) n = refl
number_plain v n = absurd n

plain_of : (v : Value) → (v ≡ Any) ⊎ IsNumber v → is_plain v ≡ true
plain_of v (inl a) = ap is_plain a
plain_of v (inr b) = number_plain v b

base_closer : (r : ℕ) (o o' : Offset) (v v' : Value) (d : ℤ) → offset_below o o' → Under v v' → OffsetFits o v → Closer (by_base r o v d) (by_base r o' v' d)
base_closer r offset.Unknown (offset.Known c) v v' d f u n = absurd f
base_closer r (offset.Known e) (offset.Known c) v v' d f u n = let P : ℤ → Type 0 = λ z. Closer (by_base r (offset.Known z) v d) (Frame (c +ℤ d)) in subst P (sym f) alike
base_closer r offset.Unknown offset.Unknown v v' d f u n = option_closer _ _ (register_closer r v v' d u)
base_closer r (offset.Known c) offset.Unknown v v' d f u n =
    let P : Option Address → Type 0 = λ a. Closer (Frame (c +ℤ d)) (known_or a None) in
    subst P (sym (plain_unknown r v' d (plain_above v v' u (plain_of v n.1)))) unknown

-- ---- with an index

abbrev Narrower : Option (ℤ × ℤ) → Option (ℤ × ℤ) → Type 0
Narrower a None = Unit {0}
Narrower a (Some b) = (p : ℤ × ℤ) × (a ≡ Some p) × (b.0 ≤ℤ p.0) × (p.0 ≤ℤ p.1) × (p.1 ≤ℤ b.1)

itself : (s : ℕ) (v : Value) → IsValue v → Narrower (spread_of s v) (spread_of s v)
itself s (Const c) f = ((signed_times s c, signed_times s c), refl, omega (arith, ints), omega (arith, ints), omega (arith, ints))
itself s (Below k) f = ((pos 0, pos (s * (k - 1))), refl, omega (arith, ints), omega (arith, ints), omega (arith, ints))
itself s (Both k) f = ((pos 0, pos (s * (2 ^ 33 - 1))), refl, omega (arith, ints), omega (arith, ints), omega (arith, ints))
itself s v f = tt

times_le : (s c k : ℕ) → c ≤ k → s * c ≤ s * k
times_le s c k h = grind arith

const_within : (s c k : ℕ) → c ≤ k → k < 2 ^ 63 → (pos 0 ≤ℤ signed_times s c) × (signed_times s c ≤ℤ pos (s * k))
const_within s c k h f = by_test (nat_lt c (2 ^ 63)) refl
  where
    by_test : (b : Bool) → nat_lt c (2 ^ 63) ≡ b → (pos 0 ≤ℤ (if b then pos (s * c) else (pos (s * c) -ℤ pos (s * 2 ^ 64)))) × ((if b then pos (s * c) else (pos (s * c) -ℤ pos (s * 2 ^ 64))) ≤ℤ pos (s * k))
    by_test true e = let m = times_le s c k h in (omega (arith, ints), omega (arith, ints))
    by_test false e = absurd (true≢false (sym (lt_true c (2 ^ 63) (omega arith)) ∙ e))
      where
        lt_true : (a b : ℕ) → a < b → nat_lt a b ≡ true
        lt_true a b h = grind arith

const_narrower : (s c k : ℕ) → c ≤ k → k < 2 ^ 63 → Narrower (spread_of s (Const c)) (Some (pos 0, pos (s * k)))
const_narrower s c k h f = let m = const_within s c k h f in ((signed_times s c, signed_times s c), refl, m.0, omega (arith, ints), m.1)

below_narrower : (s j k : ℕ) → j - 1 ≤ k → Narrower (spread_of s (Below j)) (Some (pos 0, pos (s * k)))
below_narrower s j k h = let m = times_le s (j - 1) k h in ((pos 0, pos (s * (j - 1))), refl, omega (arith, ints), omega (arith, ints), omega (arith, ints))

spread_below : (s : ℕ) (y y' : Value) → IsValue y → IsValue y' → Under y y' → Narrower (spread_of s y) (spread_of s y')
spread_below s y y' vy vy' same = itself s y vy
spread_below s (Const c) (Below k) vy vy' (const_below h) = const_narrower s c (k - 1) (omega arith) (omega (arith, vy'.1))
spread_below s (Const c) (Both k) vy vy' (const_both h i) = const_narrower s c (2 ^ 33 - 1) (omega arith) (omega arith)
spread_below s (Below j) (Below k) vy vy' (below_below h) = below_narrower s j (k - 1) (omega arith)
spread_below s (Below j) (Both k) vy vy' (below_both h) = below_narrower s j (2 ^ 33 - 1) (omega (arith, vy'.1))
spread_below s (Both j) (Both k) vy vy' (both_both h) = itself s (Both k) vy'
spread_below s (Both j) (Below k) vy vy' (both_below h) = let m = times_le s (2 ^ 33 - 1) (k - 1) (omega arith) in ((pos 0, pos (s * (2 ^ 33 - 1))), refl, omega (arith, ints), omega (arith, ints), omega (arith, ints))
spread_below s y y' vy vy' h = tt

heap_closer : (a b : Option (ℤ × ℤ)) (d : ℤ) (m m' : ℕ) → m ≤ m' → Narrower a b → CloserOption (in_heap a d (pos m)) (in_heap b d (pos m'))
heap_closer a None d m m' h n = tt
heap_closer a (Some b) d m m' h n =
    let P : Option (ℤ × ℤ) → Type 0 = λ z. CloserOption (in_heap z d (pos m)) (in_heap (Some b) d (pos m')) in
    subst P (sym n.1) (Heap (n.0.0 +ℤ d) (n.0.1 +ℤ d +ℤ pos m), refl, closer_heap (omega (arith, ints, n.2)) (omega (arith, ints, n.3)) (omega (arith, ints, n.4)))

globals_closer : (a b : Option (ℤ × ℤ)) (d : ℤ) → Narrower a b → CloserOption (in_globals a d) (in_globals b d)
globals_closer a None d n = tt
globals_closer a (Some b) d n =
    let P : Option (ℤ × ℤ) → Type 0 = λ z. CloserOption (in_globals z d) (in_globals (Some b) d) in
    subst P (sym n.1) (Globals (n.0.0 +ℤ d) (n.0.1 +ℤ d), refl, closer_globals (omega (arith, ints, n.2)) (omega (arith, ints, n.3)) (omega (arith, ints, n.4)))

entry_option : (e e' : Value) (d : ℤ) (via : Via) → Under e e' → CloserOption (in_table e d via) (in_table e' d via)
entry_option e e' d via same = same_option (in_table e d via)
entry_option e e' d via (typed {t = t} {g = g}) = by_sign d
  where
    by_sign : (d : ℤ) → CloserOption (in_table (EntryTyped t g) d via) (in_table (EntryPtr t) d via)
    by_sign (pos d) = (Entry t (Some g) d via, refl, tagged)
    by_sign (negsuc d) = tt
entry_option e e' d via h = tt

module _ (site : Site) (laws : ValueLaws) (bounds : IsSite site) where
  range_closer : (a s c k : ℕ) (u : Option ℕ) → first_from (c + 1) site.bounds ≡ u → IsMember site.bounds k → c < k → CloserOption (in_range a s u) (Some (Range a s k))
  range_closer a s c k None e m h = absurd (let z = first_none site.bounds (c + 1) k e m in omega arith)
  range_closer a s c k (Some u) e m h = (Range a s u, refl, closer_range (first_least site.bounds bounds.bounds.ascending (c + 1) u k e m (omega arith)))

  image_closer : (a i : ℕ) (y y' : Value) (s : ℕ) (d : ℤ) → a < 2 ^ 64 → IsValue y → IsValue y' → IsAmong site.bounds y' → Under y y' → CloserOption (image_by site a i y s d) (image_by site a i y' s d)
  image_closer a i y y' s d va vy vy' f same = same_option (image_by site a i y s d)
  image_closer a i (Const c) (Below k) s d va vy vy' f (const_below h) = range_closer _ s c k (first_from (c + 1) site.bounds) refl f h
  image_closer a i (Const c) (Both k) s d va vy vy' f (const_both h g) = range_closer _ s c (2 ^ 33) (first_from (c + 1) site.bounds) refl (bounds.bounds.powers 33 (omega arith)) h
  image_closer a i (Below j) (Below k) s d va vy vy' f (below_below h) = (Range ((a + word_of d) % 2 ^ 64) s j, refl, closer_range h)
  image_closer a i (Below j) (Both k) s d va vy vy' f (below_both h) = (Range ((a + word_of d) % 2 ^ 64) s j, refl, closer_range (omega (arith, vy'.1)))
  image_closer a i (Both j) (Both k) s d va vy vy' f (both_both h) = (Range ((a + word_of d) % 2 ^ 64) s (2 ^ 33), refl, alike)
  image_closer a i (Both j) (Below k) s d va vy vy' f (both_below h) = (Range ((a + word_of d) % 2 ^ 64) s (2 ^ 33), refl, closer_range (omega arith))
  image_closer a i (Index16 j m) (Index16 k m') s d va vy vy' f (index16 h) = by_scale (s == 1)
    where
      by_scale : (b : Bool) → CloserOption (if b then in_table (add (ImageAt a) (Index16 j m) site.tables) d (Idx i) else None) (if b then in_table (add (ImageAt a) (Index16 k m') site.tables) d (Idx i) else None)
      by_scale true = entry_option _ _ d (Idx i) (add_below site laws bounds (ImageAt a) (ImageAt a) (Index16 j m) (Index16 k m') va vy va vy' same (index16 h))
      by_scale false = tt
  image_closer a i (Index16 j m) (Index16 k m') s d va vy vy' f (index16_unmarked h) = by_scale (s == 1)
    where
      by_scale : (b : Bool) → CloserOption (if b then in_table (add (ImageAt a) (Index16 j m) site.tables) d (Idx i) else None) (if b then in_table (add (ImageAt a) (Index16 k None) site.tables) d (Idx i) else None)
      by_scale true = entry_option _ _ d (Idx i) (add_below site laws bounds (ImageAt a) (ImageAt a) (Index16 j m) (Index16 k None) va vy va vy' same (index16_unmarked h))
      by_scale false = tt
  image_closer a i y y' s d va vy vy' f h = tt

  pair_same : (v : Value) (i : ℕ) (y y' : Value) (s : ℕ) (d : ℤ) → IsValue v → IsValue y → IsValue y' → IsAmong site.bounds y' → Under y y' → CloserOption (by_pair site v i y s d) (by_pair site v i y' s d)
  pair_same HeapBase i y y' s d vv vy vy' f u = heap_closer _ _ d 0 0 (omega arith) (spread_below s y y' vy vy' u)
  pair_same HeapAddr i y y' s d vv vy vy' f u = heap_closer _ _ d (2 ^ 32 - 1) (2 ^ 32 - 1) (omega arith) (spread_below s y y' vy vy' u)
  pair_same GlobalsBase i y y' s d vv vy vy' f u = globals_closer _ _ d (spread_below s y y' vy vy' u)
  pair_same (ImageAt a) i y y' s d vv vy vy' f u = image_closer a i y y' s d vv vy vy' f u
  pair_same v i y y' s d vv vy vy' f u = tt

  pair_closer : (v v' : Value) (i : ℕ) (y y' : Value) (s : ℕ) (d : ℤ) → IsValue v → IsValue y → IsValue y' → IsAmong site.bounds y' → Under v v' → Under y y' → CloserOption (by_pair site v i y s d) (by_pair site v' i y' s d)
  pair_closer v v' i y y' s d vv vy vy' f same u = pair_same v i y y' s d vv vy vy' f u
  pair_closer v v' i y y' s d vv vy vy' f heap u = heap_closer _ _ d 0 (2 ^ 32 - 1) (omega arith) (spread_below s y y' vy vy' u)
  pair_closer v v' i y y' s d vv vy vy' f h u = tt

  -- what can be an index is no base
  abbrev is_like : Value → Bool
  is_like (Const c) = true
  is_like (Below k) = true
  is_like (Both k) = true
  is_like (Index16 k m) = true
  is_like v = false

  none_at : {a : Address} {A : Type 0} → ◌≡◌ {A = Option Address} None (Some a) → A
  none_at e = absurd (none_is e)

  index_like : (v : Value) (i : ℕ) (y : Value) (s : ℕ) (d : ℤ) (a : Address) → by_pair site v i y s d ≡ Some a → is_like y ≡ true
  index_like v i (Const c) s d a e = refl
  index_like v i (Below k) s d a e = refl
  index_like v i (Both k) s d a e = refl
  index_like v i (Index16 k m) s d a e = refl
  index_like HeapBase i y s d a e = none_at e
  index_like HeapAddr i y s d a e = none_at e
  index_like GlobalsBase i y s d a e = none_at e
  index_like (ImageAt b) i y s d a e = none_at e
  index_like v i y s d a e = none_at e

  like_below : (y y' : Value) → Under y y' → is_like y' ≡ true → is_like y ≡ true
  like_below y y' same n = n
  like_below y y' (const_below h) n = refl
  like_below y y' (const_both h g) n = refl
  like_below y y' (below_below h) n = refl
  like_below y y' (below_both h) n = refl
  like_below y y' (both_both h) n = refl
  like_below y y' (both_below h) n = refl
  like_below y y' (index16 h) n = refl
  like_below y y' (index16_unmarked h) n = refl
  like_below y y' h n = absurd (false≢true n)

  like_none : (v : Value) (i : ℕ) (y : Value) (s : ℕ) (d : ℤ) → is_like v ≡ true → by_pair site v i y s d ≡ None
  like_none (Const c) i y s d n = refl
  like_none (Below k) i y s d n = refl
  like_none (Both k) i y s d n = refl
  like_none (Index16 k m) i y s d n = refl
  like_none v i y s d n = absurd (false≢true n)

  -- the second order is taken only where the first gives nothing, below too
  known_closer : (a b a' b' : Option Address) → CloserOption a a' → CloserOption b b' → ((x : Address) → b' ≡ Some x → a ≡ None) → Closer (known_or a b) (known_or a' b')
  known_closer a b (Some x) b' c c' n =
      let P : Option Address → Type 0 = λ z. Closer (known_or z b) x in
      subst P (sym c.1) c.2
  known_closer a b None (Some x) c c' n =
      let P : Option Address → Type 0 = λ z. Closer (known_or z b) x in
      let Q : Option Address → Type 0 = λ z. Closer (known_or None z) x in
      subst P (sym (n x refl)) (subst Q (sym c'.1) c'.2)
  known_closer a b None None c c' n = unknown

module _ (site : Site) (laws : ValueLaws) (bounds : IsSite site) (s t : Abstract) (below_ : Lower s t) (vs : IsForm site.bounds s) (vt : IsForm site.bounds t) where
  under_at : (r : ℕ) → Under (value_of s r) (value_of t r)
  under_at r = below_.values (Register r)

  index_closer : (r i k : ℕ) (d : ℤ) → Closer (by_index site s r i k d) (by_index site t r i k d)
  index_closer r i k d = by_scale (k == 1)
    where
      first : CloserOption (by_pair site (value_of s r) i (value_of s i) k d) (by_pair site (value_of t r) i (value_of t i) k d)
      first = pair_closer site laws bounds _ _ i _ _ k d (vs.values (Register r)) (vs.values (Register i)) (vt.values (Register i)) (vt.among (Register i)) (under_at r) (under_at i)

      by_scale : (b : Bool) → Closer (known_or (by_pair site (value_of s r) i (value_of s i) k d) (if b then by_pair site (value_of s i) r (value_of s r) 1 d else None))
          (known_or (by_pair site (value_of t r) i (value_of t i) k d) (if b then by_pair site (value_of t i) r (value_of t r) 1 d else None))
      by_scale true =
          known_closer site laws bounds _ _ _ _ first
          (pair_closer site laws bounds _ _ r _ _ 1 d (vs.values (Register i)) (vs.values (Register r)) (vt.values (Register r)) (vt.among (Register r)) (under_at i) (under_at r))
          (λ x e. like_none site laws bounds _ i _ k d (like_below site laws bounds _ _ (under_at r) (index_like site laws bounds _ r _ 1 d x e)))
      by_scale false = known_closer site laws bounds _ _ _ _ first tt (λ x e. absurd (none_is e))

  pub address_closer : (b : Base) (index : Option (Reg × ℕ)) (d : ℤ) → Closer (by_parts site s b index d) (by_parts site t b index d)
  address_closer base.Rip index d = alike
  address_closer base.None None d = alike
  address_closer base.None (Some (i, k)) d = by_scale (k == 1)
    where
      by_scale : (b : Bool) → Closer (if b then by_base (number i) (s.offsets (number i)) (value_of s (number i)) d else Unknown) (if b then by_base (number i) (t.offsets (number i)) (value_of t (number i)) d else Unknown)
      by_scale true = base_closer (number i) _ _ _ _ d (below_.offsets (number i)) (under_at (number i)) (vs.offsets (number i))
      by_scale false = alike
  address_closer (base.Reg r) None d = base_closer (number r) _ _ _ _ d (below_.offsets (number r)) (under_at (number r)) (vs.offsets (number r))
  address_closer (base.Reg r) (Some (i, k)) d = index_closer (number r) (number i) k d
