-- The address of a memory operand is one that its abstract address stands for.
use Rattle.std.proofs.Common.{◌≡◌, ℕ, ◌+◌, ◌-◌, ◌*◌, ◌%◌, ◌^◌, ◌<◌, ◌≤◌, ◌⊎◌, inl, inr, ◌==◌, refl, sym, ap, ◌∙◌, subst, arith}
use Rattle.std.specs.Prelude.{Option, Some, None, Bool, true, false, if◌then◌else◌, nat_lt, ℤ, pos, negsuc, ◌+ℤ◌, ◌-ℤ◌, ◌≤ℤ◌}
use Rattle.std.proofs.lemmas.Int.{ints}
use Rattle.std.proofs.lemmas.Bool.{eqb-true}
use Rattle.vw_insn.specs.declared.registers.Reg.{Reg}
use Rattle.vw_insn.specs.declared.operands.Base.{Base}
use Rattle.vw_insn.specs.declared.operands.Base.TheVariants as base
use Rattle.vw_insn.specs.Words.{Registers, number, word_of}
use Rattle.vw_insn.specs.Effect.{address}
use Rattle.vw_domain.proofs.WriteLaws.{some_is, none_is}
use Rattle.vw_domain.proofs.Offsets.{IsMod, word_mod, sum_words, offset_sum}
use Rattle.vw_domain.proofs.ValueLaws.{ValueLaws, add_stands}
use Rattle.vw_domain.proofs.Ups.{first_covers}
use Rattle.vw_domain.proofs.Entries.{sum_entry}
use Rattle.vw_values.specs.Sums.{extent_of}
use Rattle.vw_domain.specs.Soundness.{AddressStands}
use Rattle.vw_stack.specs.declared.offset.Offset.{Offset}
use Rattle.vw_stack.specs.declared.offset.Offset.TheVariants as offset
use Rattle.vw_values.specs.declared.value.Value.{Value}
use Rattle.vw_values.specs.declared.value.Value.TheVariants.{Const, Below, Both, HeapBase, HeapAddr, Globals as GlobalsBase, Image as ImageAt, Index16, EntryPtr, EntryTyped}
use Rattle.vw_values.specs.declared.value.Via.{Via}
use Rattle.vw_values.specs.declared.value.Via.TheVariants.{At, Idx}
use Rattle.vw_values.specs.Bounds.{first_from}
use Rattle.vw_values.specs.Sums.{add}
use Rattle.vw_values.specs.Stands.{Stands, AtEntry, HasTag, IsReadAt}
use Rattle.vw_domain.specs.Abstract.{Abstract}
use Rattle.vw_domain.specs.Sites.{Site, IsSite}
use Rattle.vw_domain.specs.Stands.{Machine, OffsetStands}
use Rattle.vw_domain.specs.Soundness.{IsPlaced}
use Rattle.vw_domain.specs.Addresses.{Address, Heap, Range, Unknown, value_of, signed_times, in_entry, known_or, by_value, by_base, spread, in_heap, in_globals, in_range, in_table, by_image, by_pair, by_index, by_parts}

-- s times a word
times_mod : (s c : ℕ) → IsMod (c * s) (signed_times s c)
times_mod s c = by_test (nat_lt c (2 ^ 63))
  where
    by_test : (b : Bool) → IsMod (c * s) (if b then pos (s * c) else (pos (s * c) -ℤ pos (s * 2 ^ 64)))
    by_test true = (0, 0, omega (arith, ints))
    by_test false = (0, s, omega (arith, ints))

-- an index lies in its spread
abbrev InSpread : Option (ℤ × ℤ) → ℕ → Type 0
InSpread None p = Unit {0}
InSpread (Some b) p = (z : ℤ) × (b.0 ≤ℤ z) × (z ≤ℤ b.1) × IsMod p z

at_most : (s i k : ℕ) → i ≤ k → i * s ≤ s * k
at_most s i k h = grind arith

module _ (top : Machine) (site : Site) (held : ℕ → ℕ) (next : ℕ) (laid : IsPlaced top site next) (laws : ValueLaws) (bounds : IsSite site) (rsp0 : ℕ) where
  abbrev V : Value → ℕ → Type 0
  V v x = Stands top.instance held v x

  abbrev A : Address → ℕ → Type 0
  A a x = AddressStands top.instance rsp0 held a x

  spread_stands : (s : ℕ) (y : Value) (i : ℕ) → V y i → InSpread (spread s (extent_of y)) (i * s)
  spread_stands s (Const c) i v = let P : ℕ → Type 0 = λ k. InSpread (spread s (extent_of (Const c))) (k * s) in subst P (sym v) (signed_times s c, omega (arith, ints), omega (arith, ints), times_mod s c)
  spread_stands s (Below k) i v = let m = at_most s i (k - 1) (omega (arith, v)) in (pos (i * s), omega (arith, ints), omega (arith, ints), (0, 0, omega (arith, ints)))
  spread_stands s (Both k) i v = let m = at_most s i (2 ^ 33 - 1) (omega (arith, v.0)) in (pos (i * s), omega (arith, ints), omega (arith, ints), (0, 0, omega (arith, ints)))
  spread_stands s y i v = tt

  heap_stands : (o : Option (ℤ × ℤ)) (p : ℕ) (d : ℤ) (m u x : ℕ) (a : Address) → InSpread o p → x ≡ top.instance.heap + u → u ≤ m → in_heap o d (pos m) ≡ Some a → A a ((x + p + word_of d) % 2 ^ 64)
  heap_stands None p d m u x a k e h f = absurd (none_is f)
  heap_stands (Some b) p d m u x a k e h f =
      let is_mod : IsMod (u + p) (pos u +ℤ k.0) = (k.3.0, k.3.1, omega (arith, ints, k.3.2)) in
      let P : ℕ → Type 0 = λ y. A (Heap (b.0 +ℤ d) (b.1 +ℤ d +ℤ pos m)) y in
      subst (λ z. A z ((x + p + word_of d) % 2 ^ 64)) (some_is f)
      (((pos u +ℤ k.0) +ℤ d), omega (arith, ints, k.1), omega (arith, ints, k.2), again ∙ sum_words top.instance.heap (u + p) d (pos u +ℤ k.0) is_mod)
    where
      again : (x + p + word_of d) % 2 ^ 64 ≡ (top.instance.heap + (u + p) + word_of d) % 2 ^ 64
      again = ap (λ y. y % 2 ^ 64) (omega (arith, e))

  globals_stands : (o : Option (ℤ × ℤ)) (p : ℕ) (d : ℤ) (x : ℕ) (a : Address) → InSpread o p → x ≡ top.instance.globals → in_globals o d ≡ Some a → A a ((x + p + word_of d) % 2 ^ 64)
  globals_stands None p d x a k e f = absurd (none_is f)
  globals_stands (Some b) p d x a k e f =
      subst (λ z. A z ((x + p + word_of d) % 2 ^ 64)) (some_is f)
      ((k.0 +ℤ d), omega (arith, ints, k.1), omega (arith, ints, k.2), ap (λ y. (y + p + word_of d) % 2 ^ 64) e ∙ sum_words top.instance.globals p d k.0 k.3)

  range_stands : (a s i c d b : ℕ) (u : Option ℕ) (r : Address) → first_from (c + 1) site.bounds ≡ u → i ≤ c → b ≡ (top.instance.load + a) % 2 ^ 64 → in_range ((a + d) % 2 ^ 64) s u ≡ Some r → A r ((b + i * s + d) % 2 ^ 64)
  range_stands a s i c d b None r e h f g = absurd (none_is g)
  range_stands a s i c d b (Some k) r e h f g =
      let covered = first_covers site.bounds (c + 1) k e in
      subst (λ z. A z ((b + i * s + d) % 2 ^ 64)) (some_is g) (i, omega arith, omega arith)

  within_range : (a s i k d b : ℕ) → i < k → b ≡ (top.instance.load + a) % 2 ^ 64 → A (Range ((a + d) % 2 ^ 64) s k) ((b + i * s + d) % 2 ^ 64)
  within_range a s i k d b h f = (i, h, omega arith)

  -- an entry of any tag has its own
  own_tag : (t y : ℕ) → V (EntryPtr t) y → (g : ℕ) × AtEntry top.instance t (HasTag g) y
  own_tag t y a = (a.entry.tag, record { table = a.table; is_table = a.is_table; i = a.i; entry = a.entry; is_entry = a.is_entry; at = a.at; holds = refl })

  pointer_in : (t : ℕ) (d : ℤ) (via : Via) (y : ℕ) (a : Address) → V (EntryPtr t) y → IsReadAt top.instance held t via y → in_entry t None d via ≡ Some a → A a ((y + word_of d) % 2 ^ 64)
  pointer_in t (pos d) via y a v is e =
      let own = own_tag t y v in
      subst (λ z. A z ((y + word_of (pos d)) % 2 ^ 64)) (some_is e) (own.0, y, own.1, omega arith, tt, is)
  pointer_in t (negsuc d) via y a v is e = absurd (none_is e)

  typed_in : (t g : ℕ) (d : ℤ) (via : Via) (y : ℕ) (a : Address) → V (EntryTyped t g) y → IsReadAt top.instance held t via y → in_entry t (Some g) d via ≡ Some a → A a ((y + word_of d) % 2 ^ 64)
  typed_in t g (pos d) via y a v is e = subst (λ z. A z ((y + word_of (pos d)) % 2 ^ 64)) (some_is e) (g, y, v, omega arith, refl, is)
  typed_in t g (negsuc d) via y a v is e = absurd (none_is e)

  entry_stands : (v : Value) (d : ℤ) (via : Via) (y : ℕ) (a : Address) → V v y → ((t : ℕ) → (v ≡ EntryPtr t) ⊎ ((g : ℕ) × (v ≡ EntryTyped t g)) → IsReadAt top.instance held t via y) → in_table v d via ≡ Some a → A a ((y + word_of d) % 2 ^ 64)
  entry_stands (EntryPtr t) d via y a v is e = pointer_in t d via y a v (is t (inl refl)) e
  entry_stands (EntryTyped t g) d via y a v is e = typed_in t g d via y a v (is t (inr (g, refl))) e
  entry_stands v d via y a s is e = absurd (none_is e)

  image_stands : (a r : ℕ) (y : Value) (s : ℕ) (d : ℤ) (b i : ℕ) (x : Address) → b < 2 ^ 64 → i < 2 ^ 64 → held r ≡ i → b ≡ (top.instance.load + a) % 2 ^ 64 → V y i → by_image site a r (extent_of y) s d ≡ Some x → A x ((b + i * s + word_of d) % 2 ^ 64)
  image_stands a r (Const c) s d b i x fb fi at f v e = range_stands a s i c (word_of d) b (first_from (c + 1) site.bounds) x refl (omega (arith, v)) f e
  image_stands a r (Below k) s d b i x fb fi at f v e = subst (λ z. A z ((b + i * s + word_of d) % 2 ^ 64)) (some_is e) (within_range a s i k (word_of d) b v f)
  image_stands a r (Both k) s d b i x fb fi at f v e = subst (λ z. A z ((b + i * s + word_of d) % 2 ^ 64)) (some_is e) (within_range a s i (2 ^ 33) (word_of d) b v.0 f)
  image_stands a r (Index16 k m) s d b i x fb fi at f v e = by_scale (s == 1) refl e
    where
      sum : V (add (ImageAt a) (Index16 k m) site.tables) ((b + i) % 2 ^ 64)
      sum = add_stands top site held next laid laws bounds (ImageAt a) (Index16 k m) b i f v

      via : (t : ℕ) → (add (ImageAt a) (Index16 k m) site.tables ≡ EntryPtr t) ⊎ ((g : ℕ) × (add (ImageAt a) (Index16 k m) site.tables ≡ EntryTyped t g)) → IsReadAt top.instance held t (Idx r) ((b + i) % 2 ^ 64)
      via t o =
          let start = sum_entry top site next laid a k m t o in
          (start.0, start.1, omega (arith, start.2, at, f))

      by_scale : (q : Bool) → (s == 1) ≡ q → (if q then in_table (add (ImageAt a) (Index16 k m) site.tables) d (Idx r) else None) ≡ Some x → A x ((b + i * s + word_of d) % 2 ^ 64)
      by_scale true q e =
          let one : s ≡ 1 = eqb-true s 1 q in
          let P : ℕ → Type 0 = λ z. A x ((b + i * z + word_of d) % 2 ^ 64) in
          subst P (sym one) (subst (A x) (omega arith) (entry_stands _ d (Idx r) ((b + i) % 2 ^ 64) x sum via e))
      by_scale false q e = absurd (none_is e)
  image_stands a r y s d b i x fb fi at f v e = absurd (none_is e)

  pair_stands : (v : Value) (r : ℕ) (y : Value) (s : ℕ) (d : ℤ) (b i : ℕ) (x : Address) → b < 2 ^ 64 → i < 2 ^ 64 → held r ≡ i → V v b → V y i → by_pair site v r y s d ≡ Some x → A x ((b + i * s + word_of d) % 2 ^ 64)
  pair_stands HeapBase r y s d b i x fb fi at v u e = heap_stands (spread s (extent_of y)) (i * s) d 0 0 b x (spread_stands s y i u) (omega (arith, v)) (omega arith) e
  pair_stands HeapAddr r y s d b i x fb fi at v u e = heap_stands (spread s (extent_of y)) (i * s) d (2 ^ 32 - 1) v.0 b x (spread_stands s y i u) v.2 (omega (arith, v.1)) e
  pair_stands GlobalsBase r y s d b i x fb fi at v u e = globals_stands (spread s (extent_of y)) (i * s) d b x (spread_stands s y i u) v e
  pair_stands (ImageAt a) r y s d b i x fb fi at v u e = image_stands a r y s d b i x fb fi at v u e
  pair_stands v r y s d b i x fb fi at k u e = absurd (none_is e)

  known_stands : (a b : Option Address) (x : ℕ) → ((z : Address) → a ≡ Some z → A z x) → ((z : Address) → b ≡ Some z → A z x) → A (known_or a b) x
  known_stands (Some a) b x f g = f a refl
  known_stands None (Some b) x f g = g b refl
  known_stands None None x f g = tt

  register_stands : (r : ℕ) (v : Value) (d : ℤ) (y : ℕ) (a : Address) → y < 2 ^ 64 → held r ≡ y → V v y → by_value r v d ≡ Some a → A a ((y + word_of d) % 2 ^ 64)
  register_stands r HeapBase d y a fy at v e = subst (λ z. A z ((y + word_of d) % 2 ^ 64)) (some_is e) (d, omega (arith, ints), omega (arith, ints), ap (λ z. (z + word_of d) % 2 ^ 64) v)
  register_stands r HeapAddr d y a fy at v e =
      let is_mod : IsMod v.0 (pos v.0) = (0, 0, omega (arith, ints)) in
      subst (λ z. A z ((y + word_of d) % 2 ^ 64)) (some_is e)
      ((pos v.0 +ℤ d), omega (arith, ints), omega (arith, ints, v.1), ap (λ z. (z + word_of d) % 2 ^ 64) v.2 ∙ sum_words top.instance.heap v.0 d (pos v.0) is_mod)
  register_stands r GlobalsBase d y a fy at v e = subst (λ z. A z ((y + word_of d) % 2 ^ 64)) (some_is e) (d, omega (arith, ints), omega (arith, ints), ap (λ z. (z + word_of d) % 2 ^ 64) v)
  register_stands r (ImageAt b) d y a fy at v e = subst (λ z. A z ((y + word_of d) % 2 ^ 64)) (some_is e) (omega (arith, v))
  register_stands r (EntryPtr t) d y a fy at v e = pointer_in t d (At r) y a v (sym at) e
  register_stands r (EntryTyped t g) d y a fy at v e = typed_in t g d (At r) y a v (sym at) e
  register_stands r v d y a fy at k e = absurd (none_is e)

  base_stands : (r : ℕ) (o : Offset) (v : Value) (d : ℤ) (y : ℕ) → y < 2 ^ 64 → held r ≡ y → OffsetStands rsp0 o y → V v y → A (by_base r o v d) ((y + word_of d) % 2 ^ 64)
  base_stands r offset.Unknown v d y fy at so k = known_stands (by_value r v d) None _ (λ z e. register_stands r v d y z fy at k e) (λ z e. absurd (none_is e))
  base_stands r (offset.Known c) v d y fy at so k = offset_sum y rsp0 (word_of d) c d (c +ℤ d) (omega (arith, ints)) so (word_mod d)

  module _ (st : Abstract) (registers : Registers)
      (holds : (r : Reg) → held (number r) ≡ registers (number r)) (fits : (r : Reg) → registers (number r) < 2 ^ 64)
      (offsets : (r : Reg) → OffsetStands rsp0 (st.offsets (number r)) (registers (number r)))
      (values : (r : Reg) → V (value_of st (number r)) (registers (number r))) where
    index_stands : (r i : Reg) (s : ℕ) (d : ℤ) → A (by_index site st (number r) (number i) s d) ((registers (number r) + registers (number i) * s + word_of d) % 2 ^ 64)
    index_stands r i s d = by_scale (s == 1) refl
      where
        b : ℕ
        b = registers (number r)

        k : ℕ
        k = registers (number i)

        first : (z : Address) → by_pair site (value_of st (number r)) (number i) (value_of st (number i)) s d ≡ Some z → A z ((b + k * s + word_of d) % 2 ^ 64)
        first z e = pair_stands _ (number i) _ s d b k z (fits r) (fits i) (holds i) (values r) (values i) e

        second : s ≡ 1 → (z : Address) → by_pair site (value_of st (number i)) (number r) (value_of st (number r)) 1 d ≡ Some z → A z ((b + k * s + word_of d) % 2 ^ 64)
        second one z e =
            let got = pair_stands _ (number r) _ 1 d k b z (fits i) (fits r) (holds r) (values i) (values r) e in
            let P : ℕ → Type 0 = λ n. A z ((b + k * n + word_of d) % 2 ^ 64) in
            subst P (sym one) (subst (A z) (ap (λ n. (n + word_of d) % 2 ^ 64) (omega arith)) got)

        by_scale : (q : Bool) → (s == 1) ≡ q → A (known_or (by_pair site (value_of st (number r)) (number i) (value_of st (number i)) s d) (if q then by_pair site (value_of st (number i)) (number r) (value_of st (number r)) 1 d else None)) ((b + k * s + word_of d) % 2 ^ 64)
        by_scale true q = known_stands _ _ _ first (second (eqb-true s 1 q))
        by_scale false q = known_stands _ _ _ first (λ z e. absurd (none_is e))

    pub address_stands : (b : Base) (index : Option (Reg × ℕ)) (d : ℤ) → (b ≡ base.Rip → index ≡ None) → A (by_parts site st b index d) (address next registers (record { base = b; index = index; disp = d }))
    address_stands base.Rip None d rip = let n : next ≡ top.instance.load + site.next = laid.next_is in omega arith
    address_stands base.Rip (Some i) d rip = absurd (none_is (sym (rip refl)))
    address_stands base.None None d rip = tt
    address_stands base.None (Some (i, s)) d rip = by_scale (s == 1) refl
      where
        by_scale : (q : Bool) → (s == 1) ≡ q → A (if q then by_base (number i) (st.offsets (number i)) (value_of st (number i)) d else Unknown) ((0 + registers (number i) * s + word_of d) % 2 ^ 64)
        by_scale true q =
            let one : s ≡ 1 = eqb-true s 1 q in
            let P : ℕ → Type 0 = λ n. A (by_base (number i) (st.offsets (number i)) (value_of st (number i)) d) ((0 + registers (number i) * n + word_of d) % 2 ^ 64) in
            subst P (sym one) (subst (A (by_base (number i) (st.offsets (number i)) (value_of st (number i)) d)) (ap (λ n. (n + word_of d) % 2 ^ 64) (omega arith))
            (base_stands (number i) _ _ d _ (fits i) (holds i) (offsets i) (values i)))
        by_scale false q = tt
    address_stands (base.Reg r) None d rip = base_stands (number r) _ _ d _ (fits r) (holds r) (offsets r) (values r)
    address_stands (base.Reg r) (Some (i, s)) d rip = index_stands r i s d
