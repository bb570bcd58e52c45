-- Loads and stores are monotone.
use Rattle.std.proofs.Common.{◌≡◌, ℕ, ◌^◌, ◌<◌, ◌⊎◌, inl, inr, ⊎_elim, ◌==◌, refl, sym, ap, subst, arith}
use Rattle.std.specs.Prelude.{Option, Some, None, Bool, true, false, if◌then◌else◌, nat_le, ◌&&◌, ◌||◌, not, ℤ, pos, negsuc, int_lt}
use Rattle.std.proofs.lemmas.Int.{ints}
use Rattle.std.proofs.lemmas.Bool.{eqb-true, false≢true}
use Rattle.vw_insn.specs.declared.registers.Width.{Width}
use Rattle.vw_insn.specs.declared.registers.Width.TheVariants.{W8, W16, W32, W64}
use Rattle.vw_insn.specs.declared.operands.Mem.{Mem}
use Rattle.vw_stmt.specs.declared.operands.Var.{Var}
use Rattle.vw_stmt.specs.declared.operands.Operand.{Operand}
use Rattle.vw_stmt.specs.declared.statement.Stmt.TheVariants as stmt
use Rattle.vw_stmt.specs.Lifted.{IsLoad, IsWordSize}
use Rattle.vw_domain.proofs.ChangeLaws.{values_below, same_below, Agrees}
use Rattle.vw_domain.proofs.WriteLaws.{write_below, SourceBelow}
use Rattle.vw_domain.proofs.Statements.{operand_below, operand_valid, operand_valid_upper}
use Rattle.vw_domain.proofs.AddressOrder.{address_closer, Closer, alike, unknown, closer_heap, closer_globals, closer_range, tagged}
use Rattle.vw_domain.proofs.ValueLaws.{ValueLaws, narrow32_below, narrow32_under}
use Rattle.vw_names.specs.declared.spot.Spot.{Spot as Place}
use Rattle.vw_names.specs.declared.spot.Spot.TheVariants.{Reg as Register, Flags as Compared, Slot}
use Rattle.vw_stack.specs.declared.offset.Offset.TheVariants as offset
use Rattle.vw_values.specs.declared.value.Value.{Value}
use Rattle.vw_values.specs.declared.value.Value.TheVariants.{Any, Num, Const, Below, Globals as GlobalsBase, TagOf, TableFn, JumpOff}
use Rattle.vw_values.specs.Narrowing.{narrow32}
use Rattle.std.specs.Ordering.{int_eq}
use Rattle.vw_domain.specs.Abstract.{Abstract}
use Rattle.vw_domain.specs.Changes.{Change, forget, value_from, same_from, changed_value, overlaps, covers, store_from, fresh_slot, store_frame, lose_from, lose_slots}
use Rattle.vw_domain.specs.Sites.{Site, IsSite, Word, Plain, Based, Other}
use Rattle.vw_domain.specs.Operands.{index_of, operand_of}
use Rattle.vw_domain.specs.FormRanges.{IsForm, SlotFits}
use Rattle.vw_domain.proofs.Orders.{Under, same, to_any, Lower}
use Rattle.vw_domain.specs.Addresses.{Address, Frame, Heap, Image, Unknown}
use Rattle.std.proofs.lemmas.Bool.Decides.{Decides-int_eq}
use Rattle.vw_domain.proofs.Orders.{const_below, below_below, jump_off}
use Rattle.vw_domain.specs.State.{IsNarrow as IsNarrowSlot}
use Rattle.vw_domain.specs.Statements.{apply}
use Rattle.vw_domain.specs.Memory.{is_in_heap, wide_value, plain_kind, value_or, half_word_value, whole_value, half_value, offset_value, known_value, load_value, load_source, slot_size, stored_value, stored_source, store_at}

-- a number of 4 bytes
pub narrow_under : (v : Value) → IsNarrowSlot v → Under v (Below (2 ^ 32))
narrow_under (Const c) n = const_below n
narrow_under (Below k) n = below_below n
narrow_under v n = absurd n

-- ---- values of loads

wide_below : (a a' : Address) → Closer a a' → Under (wide_value a) (wide_value a')
wide_below a a' unknown = to_any
wide_below (Heap l h) (Heap l' h') (closer_heap i j k) = by_test (is_in_heap l' h') refl
  where
    still : is_in_heap l' h' ≡ true → is_in_heap l h ≡ true
    still e = grind (arith, ints)

    by_test : (b : Bool) → is_in_heap l' h' ≡ b → Under (if is_in_heap l h then Num else Any) (if b then Num else Any)
    by_test true e = let P : Bool → Type 0 = λ b. Under (if b then Num else Any) Num in subst P (sym (still e)) same
    by_test false e = to_any
wide_below a a' alike = same
wide_below a a' (closer_globals i j k) = same
wide_below a a' (closer_range k) = same
wide_below a a' tagged = same

abbrev heap_word : Bool → Bool → Value
heap_word x y = value_or (if x then Some GlobalsBase else None) (if y then Num else Any)

whole_below : (site : Site) (a a' : Address) → Closer a a' → Under (value_or (whole_value site a) (wide_value a)) (value_or (whole_value site a') (wide_value a'))
whole_below site a a' alike = same
whole_below site a a' unknown = to_any
whole_below site (Heap l h) (Heap l' h') (closer_heap i j k) = by_test (int_eq l' (negsuc 7) && int_eq h' (negsuc 7)) (is_in_heap l' h') refl refl
  where
    still : (int_eq l' (negsuc 7) && int_eq h' (negsuc 7)) ≡ true → (int_eq l (negsuc 7) && int_eq h (negsuc 7)) ≡ true
    still e = grind (arith, ints)

    inside : is_in_heap l' h' ≡ true → is_in_heap l h ≡ true
    inside e = grind (arith, ints)

    other : is_in_heap l' h' ≡ true → (int_eq l (negsuc 7) && int_eq h (negsuc 7)) ≡ false
    other e = grind (arith, ints)

    by_test : (x y : Bool) → (int_eq l' (negsuc 7) && int_eq h' (negsuc 7)) ≡ x → is_in_heap l' h' ≡ y
        → Under (heap_word (int_eq l (negsuc 7) && int_eq h (negsuc 7)) (is_in_heap l h)) (heap_word x y)
    by_test true y e f = let P : Bool → Type 0 = λ b. Under (heap_word b (is_in_heap l h)) GlobalsBase in subst P (sym (still e)) same
    by_test false false e f = to_any
    by_test false true e f =
        let P : Bool → Type 0 = λ b. Under (heap_word b (is_in_heap l h)) Num in
        let Q : Bool → Type 0 = λ b. Under (heap_word false b) Num in
        subst P (sym (other f)) (subst Q (sym (inside f)) same)
whole_below site a a' (closer_globals i j k) = same
whole_below site a a' (closer_range k) = same
whole_below site a a' (tagged {t = t} {g = g} {d = d} {via = via}) = by_test (d == 0) (d == 8)
  where
    by_test : (x y : Bool) → Under (value_or (if x then Some (TagOf t via) else (if y then Some (TableFn t g) else None)) Any) (value_or (if x then Some (TagOf t via) else (if y then None else None)) Any)
    by_test true y = same
    by_test false true = to_any
    by_test false false = same

part_below : (o : Word) (n : ℕ) → ((x : ℕ) → o ≡ Plain x → x < n) → Under (value_or (half_word_value o) (Below n)) (Below n)
part_below (Plain x) n f = const_below (f x refl)
part_below (Based a) n f = same
part_below Other n f = same

half_below : (site : Site) → IsSite site → (a a' : Address) → Closer a a' → Under (value_or (half_value site a) (Below (2 ^ 32))) (value_or (half_value site a') (Below (2 ^ 32)))
half_below site is a a' alike = same
half_below site is (Image a) a' unknown = part_below (site.word_at a 4) (2 ^ 32) (is.half a)
half_below site is a a' unknown = same
half_below site is a a' (closer_heap i j k) = same
half_below site is a a' (closer_globals i j k) = same
half_below site is a a' (closer_range k) = same
half_below site is a a' tagged = same

jump_below : (a a' : Address) → Closer a a' → Under (value_or (offset_value a) (wide_value a)) (value_or (offset_value a') (wide_value a'))
jump_below a a' alike = same
jump_below a a' unknown = to_any
jump_below a a' (closer_heap i j k) = wide_below a a' (closer_heap i j k)
jump_below a a' (closer_globals i j k) = same
jump_below x x' (closer_range {a = a} {s = s} {k = k} {k' = k'} h) = by_test ((s == 4) && nat_le k' 65536) refl
  where
    still : ((s == 4) && nat_le k' 65536) ≡ true → ((s == 4) && nat_le k 65536) ≡ true
    still e = grind arith

    by_test : (b : Bool) → ((s == 4) && nat_le k' 65536) ≡ b → Under (value_or (if ((s == 4) && nat_le k 65536) then Some (JumpOff a k) else None) Any) (value_or (if b then Some (JumpOff a k') else None) Any)
    by_test true e = let P : Bool → Type 0 = λ b. Under (value_or (if b then Some (JumpOff a k) else None) Any) (JumpOff a k') in subst P (sym (still e)) (jump_off h)
    by_test false e = to_any
jump_below a a' tagged = same

abbrev pub plain_load : Site → Address → ℕ → Width → Bool → Value
plain_load site a size to sg = value_or (known_value site a size to sg) (value_or (plain_kind size to sg) (wide_value a))

-- by the sizes that a load has
abbrev pub AtLoads : (ℕ → Width → Bool → Type 0) → Type 0
AtLoads P =
    P 1 W8 false × P 2 W16 false × P 1 W32 false × P 2 W32 false × P 4 W32 false × P 1 W32 true × P 2 W32 true × P 4 W32 true
    × P 1 W64 true × P 2 W64 true × P 4 W64 true × P 1 W64 false × P 2 W64 false × P 4 W64 false × P 8 W64 false

pub by_three : (size : ℕ) (P : ℕ → Type 0) → P 1 → P 2 → P 4 → (size ≡ 1) ⊎ (size ≡ 2) ⊎ (size ≡ 4) → P size
by_three size P a b c (inl e) = subst P (sym e) a
by_three size P a b c (inr (inl e)) = subst P (sym e) b
by_three size P a b c (inr (inr e)) = subst P (sym e) c

pub by_four : (size : ℕ) (P : ℕ → Type 0) → P 1 → P 2 → P 4 → P 8 → IsWordSize size → P size
by_four size P a b c d (inl e) = subst P (sym e) a
by_four size P a b c d (inr (inl e)) = subst P (sym e) b
by_four size P a b c d (inr (inr (inl e))) = subst P (sym e) c
by_four size P a b c d (inr (inr (inr e))) = subst P (sym e) d

pub by_load : (P : ℕ → Width → Bool → Type 0) → AtLoads P → (size : ℕ) (to : Width) (sg : Bool) → IsLoad size to sg → P size to sg
by_load P h size W8 sg i = let Q : ℕ → Type 0 = λ n. P n W8 sg in let R : Bool → Type 0 = λ b. P 1 W8 b in subst Q (sym i.0) (subst R (sym i.1) h.0)
by_load P h size W16 sg i = let Q : ℕ → Type 0 = λ n. P n W16 sg in let R : Bool → Type 0 = λ b. P 2 W16 b in subst Q (sym i.0) (subst R (sym i.1) h.1)
by_load P h size W32 false i = by_three size (λ n. P n W32 false) h.2 h.3 h.4 i
by_load P h size W32 true i = by_three size (λ n. P n W32 true) h.5 h.6 h.7 i
by_load P h size W64 true i = by_three size (λ n. P n W64 true) h.8 h.9 h.10 i
by_load P h size W64 false i = by_four size (λ n. P n W64 false) h.11 h.12 h.13 h.14 i

plain_load_below : (site : Site) → IsSite site → (size : ℕ) (to : Width) (sg : Bool) → IsLoad size to sg → (a a' : Address) → Closer a a' → Under (plain_load site a size to sg) (plain_load site a' size to sg)
plain_load_below site is size to sg i a a' c =
    by_load (λ size to sg. Under (plain_load site a size to sg) (plain_load site a' size to sg))
    (same, same, same, same, half_below site is a a' c, same, same, same, same, same, jump_below a a' c, same, same, half_below site is a a' c, whole_below site a a' c)
    size to sg i

module _ (site : Site) (laws : ValueLaws) (bounds : IsSite site) (s t : Abstract) (below_ : Lower s t) (vs : IsForm site.bounds s) (vt : IsForm site.bounds t) where
  -- the lower state's value of a load, its copy of a slot too
  abbrev got : Address → ℕ → Width → Bool → Value
  got a size to sg = value_from s.values (load_value site s a size to sg) (load_source s a size sg)

  slot_under : (c : ℤ) → (s.sizes c == 4) ≡ true → Under (s.values (Slot c)) (Below (2 ^ 32))
  slot_under c e = by_fit (eqb-true (s.sizes c) 4 e) (vs.slots c)
    where
      by_fit : s.sizes c ≡ 4 → SlotFits (s.sizes c) (s.values (Slot c)) → Under (s.values (Slot c)) (Below (2 ^ 32))
      by_fit f (inl a) = absurd (let z = a.0 in omega arith)
      by_fit f (inr (inl b)) = absurd (omega arith)
      by_fit f (inr (inr n)) = narrow_under (s.values (Slot c)) n.1

  half_slot : (c : ℤ) → Under (value_from s.values (value_or (if s.sizes c == 8 then Some (narrow32 (s.values (Slot c))) else None) (Below (2 ^ 32))) (if s.sizes c == 4 then Some (Slot c) else None)) (Below (2 ^ 32))
  half_slot c = by_test (s.sizes c == 4) (s.sizes c == 8) refl
    where
      by_test : (x y : Bool) → (s.sizes c == 4) ≡ x → Under (value_from s.values (value_or (if y then Some (narrow32 (s.values (Slot c))) else None) (Below (2 ^ 32))) (if x then Some (Slot c) else None)) (Below (2 ^ 32))
      by_test true y e = slot_under c e
      by_test false true e = narrow32_under site laws bounds (s.values (Slot c)) (vs.values (Slot c))
      by_test false false e = same

  -- nothing is known of the slot above
  lower_frame : (c : ℤ) (size : ℕ) (to : Width) (sg : Bool) → IsLoad size to sg → Under (got (Frame c) size to sg) (plain_load site Unknown size to sg)
  lower_frame c size to sg i =
      by_load (λ size to sg. Under (got (Frame c) size to sg) (plain_load site Unknown size to sg))
      (same, same, same, same, half_slot c, same, same, same, same, same, to_any, same, same, half_slot c, to_any)
      size to sg i

  -- a load from the frame by what is known of the slot there
  abbrev source_by : ℤ → ℕ → ℕ → Bool → Option Place
  source_by c n size sg = if ((size == 8) || ((size == 4) && not sg)) && (n == size) then Some (Slot c) else None

  abbrev value_by : ℤ → ℕ → Value → ℕ → Width → Bool → Value
  value_by c n v size to sg = value_or (if ((size == 4) && not sg) && (n == 8) then Some (narrow32 v) else None) (plain_load site (Frame c) size to sg)

  abbrev FrameBelow : ℤ → ℕ → ℕ → Width → Bool → Type 0
  FrameBelow c n size to sg = SourceBelow s (load_source s (Frame c) size sg) (load_value site s (Frame c) size to sg) (source_by c n size sg) (value_by c n (t.values (Slot c)) size to sg)

  half_alike : (c : ℤ) (x y : Bool) → SourceBelow s (if x then Some (Slot c) else None) (value_or (if y then Some (narrow32 (s.values (Slot c))) else None) (Below (2 ^ 32)))
      (if x then Some (Slot c) else None) (value_or (if y then Some (narrow32 (t.values (Slot c))) else None) (Below (2 ^ 32)))
  half_alike c true y = refl
  half_alike c false true = narrow32_below site laws bounds _ _ (vs.values (Slot c)) (vt.values (Slot c)) (below_.values (Slot c))
  half_alike c false false = same

  whole_alike : (c : ℤ) (x : Bool) → SourceBelow s (if x then Some (Slot c) else None) Any (if x then Some (Slot c) else None) Any
  whole_alike c true = refl
  whole_alike c false = same

  frame_below : (c : ℤ) (size : ℕ) (to : Width) (sg : Bool) → IsLoad size to sg → FrameBelow c (t.sizes c) size to sg
  frame_below c size to sg i = ⊎_elim
      (λ (z : t.sizes c ≡ 0). let P : ℕ → Type 0 = λ n. FrameBelow c n size to sg in
      subst P (sym z) (by_load (λ size to sg. FrameBelow c 0 size to sg) (same, same, same, same, half_slot c, same, same, same, same, same, to_any, same, same, half_slot c, to_any) size to sg i))
      (λ (z : s.sizes c ≡ t.sizes c). let P : ℕ → Type 0 = λ n. FrameBelow c n size to sg in
      let half = half_alike c (s.sizes c == 4) (s.sizes c == 8) in
      subst P z (by_load (λ size to sg. FrameBelow c (s.sizes c) size to sg) (same, same, same, same, half, same, same, same, same, same, same, same, same, half, whole_alike c (s.sizes c == 8)) size to sg i))
      (below_.sizes c)

  pub load_closer : (a a' : Address) (size : ℕ) (to : Width) (sg : Bool) → IsLoad size to sg → Closer a a'
      → SourceBelow s (load_source s a size sg) (load_value site s a size to sg) (load_source t a' size sg) (load_value site t a' size to sg)
  load_closer (Frame c) a' size to sg i alike = frame_below c size to sg i
  load_closer (Frame c) a' size to sg i unknown = lower_frame c size to sg i
  load_closer a a' size to sg i alike = plain_load_below site bounds size to sg i a a' alike
  load_closer a a' size to sg i unknown = plain_load_below site bounds size to sg i a a' unknown
  load_closer a a' size to sg i (closer_heap j k l) = plain_load_below site bounds size to sg i a a' (closer_heap j k l)
  load_closer a a' size to sg i (closer_globals j k l) = plain_load_below site bounds size to sg i a a' (closer_globals j k l)
  load_closer a a' size to sg i (closer_range k) = plain_load_below site bounds size to sg i a a' (closer_range k)
  load_closer a a' size to sg i tagged = plain_load_below site bounds size to sg i a a' tagged

  pub load_mono : (dst : Var) (size : ℕ) (to : Width) (sg : Bool) (mem : Mem) → IsLoad size to sg → Lower (apply site (stmt.Load dst size to sg mem) s) (apply site (stmt.Load dst size to sg mem) t)
  load_mono dst size to sg mem i =
      write_below s t (index_of dst) _ _ _ _ offset.Unknown offset.Unknown below_ vs.itself
      (load_closer _ _ size to sg i (address_closer site laws bounds s t below_ vs vt mem.base mem.index mem.disp)) tt

-- ---- stores

forget_none : (v : Value) → forget (λ r. false) v ≡ v
forget_none (TagOf t via) = refl
forget_none v = refl

module _ (s t : Abstract) (h : Lower s t) (itself : (p : Place) → s.same p p ≡ true) where
  abbrev lose_change : Change
  lose_change = record { from = lose_from; fresh = λ p. Any; gone = λ r. false }

  lose_agrees : (p : Place) → Agrees s lose_change lose_change p
  lose_agrees (Register r) = inr (Register r, refl, refl)
  lose_agrees Compared = inr (Compared, refl, refl)
  lose_agrees (Slot o) = inl (refl, to_any)

  lose_below : Lower (lose_slots s) (lose_slots t)
  lose_below =
      record {
        offsets = h.offsets;
        values = values_below s t lose_change lose_change refl lose_agrees h.values;
        sizes = λ o. inl refl;
        same = same_below s t lose_change lose_change refl lose_agrees itself h.same;
        fact = h.fact;
        probed = h.probed;
        written = h.written;
      }

  -- the lower state is left as it is
  under_lost : Lower s (lose_slots t)
  under_lost =
      record {
        offsets = h.offsets;
        values = value;
        sizes = λ o. inl refl;
        same = alike_places;
        fact = h.fact;
        probed = h.probed;
        written = h.written;
      }
    where
      value : (p : Place) → Under (s.values p) (changed_value t lose_change p)
      value (Register r) = subst (λ v. Under (s.values (Register r)) v) (sym (forget_none (t.values (Register r)))) (h.values (Register r))
      value Compared = to_any
      value (Slot o) = to_any

      slots_alike : (a b : ℤ) → int_eq a b ≡ true → s.same (Slot a) (Slot b) ≡ true
      slots_alike a b e = let same_offset : a ≡ b = is_offset a b e in subst (λ z. s.same (Slot a) (Slot z) ≡ true) same_offset (itself (Slot a))
        where
          is_offset : (a b : ℤ) → int_eq a b ≡ true → a ≡ b
          is_offset a b e = (Decides-int_eq a b).0 e

      alike_places : (p q : Place) → same_from t.same p q (lose_from p) (lose_from q) ≡ true → s.same p q ≡ true
      alike_places (Register a) (Register b) e = h.same (Register a) (Register b) e
      alike_places (Register a) Compared e = h.same (Register a) Compared e
      alike_places Compared (Register b) e = h.same Compared (Register b) e
      alike_places Compared Compared e = h.same Compared Compared e
      alike_places (Slot a) (Slot b) e = slots_alike a b e
      alike_places (Slot a) (Register b) e = absurd (false≢true e)
      alike_places (Slot a) Compared e = absurd (false≢true e)
      alike_places (Register a) (Slot b) e = absurd (false≢true e)
      alike_places Compared (Slot b) e = absurd (false≢true e)

  abbrev store_change : Abstract → ℤ → ℕ → Option Place → Value → Change
  store_change st c n src v = record { from = store_from st c n src; fresh = fresh_slot c v; gone = λ r. false }

  abbrev goes : ℤ → ℕ → ℤ → ℕ → Bool
  goes c n o m = (m == 0) || overlaps c n o m

  store_agrees : (c : ℤ) (n : ℕ) (src : Option Place) (v v' : Value) → Under v v' → (p : Place) → Agrees s (store_change s c n src v) (store_change t c n src v') p
  store_agrees c n src v v' u (Register r) = inr (Register r, refl, refl)
  store_agrees c n src v v' u Compared = inr (Compared, refl, refl)
  store_agrees c n src v v' u (Slot o) = by_offset (int_eq o c) src
    where
      zero_goes : (m : ℕ) → m ≡ 0 → (if goes c n o m then None else Some (Slot o)) ≡ None
      zero_goes m z = let P : ℕ → Type 0 = λ k. (if goes c n o k then None else Some (Slot o)) ≡ None in subst P (sym z) refl

      same_size : (b : Bool) → ((if b then None else Some (Slot o)) ≡ None) ⊎ ((q : Place) × ((if b then None else Some (Slot o)) ≡ Some q) × ((if b then None else Some (Slot o)) ≡ Some q))
      same_size true = inl refl
      same_size false = inr (Slot o, refl, refl)

      abbreviated : Option Place → Option Place → Type 0
      abbreviated a b = ((b ≡ None) × Under (value_from s.values Any a) Any) ⊎ ((q : Place) × (a ≡ Some q) × (b ≡ Some q))

      kept : (m m' : ℕ) → (m' ≡ 0) ⊎ (m ≡ m') → abbreviated (if goes c n o m then None else Some (Slot o)) (if goes c n o m' then None else Some (Slot o))
      kept m m' (inl z) = inl (zero_goes m' z, to_any)
      kept m m' (inr z) = let P : ℕ → Type 0 = λ k. abbreviated (if goes c n o m then None else Some (Slot o)) (if goes c n o k then None else Some (Slot o)) in
          subst P z (⊎_elim (λ (x : (if goes c n o m then None else Some (Slot o)) ≡ None). inl (x, to_any))
          (λ (y : (q : Place) × ((if goes c n o m then None else Some (Slot o)) ≡ Some q) × ((if goes c n o m then None else Some (Slot o)) ≡ Some q)). inr y) (same_size (goes c n o m)))

      by_offset : (b : Bool) (src : Option Place)
          → (((if b then src else (if goes c n o (t.sizes o) then None else Some (Slot o))) ≡ None)
          × Under (value_from s.values (if b then v else Any) (if b then src else (if goes c n o (s.sizes o) then None else Some (Slot o)))) (if b then v' else Any))
          ⊎ ((q : Place) × ((if b then src else (if goes c n o (s.sizes o) then None else Some (Slot o))) ≡ Some q) × ((if b then src else (if goes c n o (t.sizes o) then None else Some (Slot o))) ≡ Some q))
      by_offset true None = inl (refl, u)
      by_offset true (Some p) = inr (p, refl, refl)
      by_offset false src = kept (s.sizes o) (t.sizes o) (h.sizes o)

  store_frame_below : (c : ℤ) (n size : ℕ) (src : Option Place) (v v' : Value) → Under v v' → Lower (store_frame s c n size src v) (store_frame t c n size src v')
  store_frame_below c n size src v v' u =
      record {
        offsets = h.offsets;
        values = values_below s t (store_change s c n src v) (store_change t c n src v') refl (store_agrees c n src v v' u) h.values;
        sizes = λ o. by_offset o (int_eq o c) (s.sizes o) (t.sizes o) (h.sizes o);
        same = same_below s t (store_change s c n src v) (store_change t c n src v') refl (store_agrees c n src v v' u) itself h.same;
        fact = h.fact;
        probed = h.probed;
        written = λ o e. or_more (covers c n o && int_lt o (pos 0)) (t.written o) (s.written o) (h.written o) e;
      }
    where
      or_more : (a b b' : Bool) → (b ≡ true → b' ≡ true) → (a || b) ≡ true → (a || b') ≡ true
      or_more true b b' f e = refl
      or_more false b b' f e = f e

      sized : ℕ → ℕ → Type 0
      sized m m' = (m' ≡ 0) ⊎ (m ≡ m')

      gone_or : (o : ℤ) (m : ℕ) → ℕ
      gone_or o m = if goes c n o m then 0 else m

      by_offset : (o : ℤ) (b : Bool) (m m' : ℕ) → (m' ≡ 0) ⊎ (m ≡ m') → ((if b then size else (if goes c n o m' then 0 else m')) ≡ 0) ⊎ ((if b then size else (if goes c n o m then 0 else m)) ≡ (if b then size else (if goes c n o m' then 0 else m')))
      by_offset o true m m' k = inr refl
      by_offset o false m m' (inr z) = inr (ap (λ k. if goes c n o k then 0 else k) z)
      by_offset o false m m' (inl z) = inl (let P : ℕ → Type 0 = λ k. (if goes c n o k then 0 else k) ≡ 0 in subst P (sym z) refl)

  under_store : (a : Address) (n size : ℕ) (src : Option Place) (v : Value) → Lower (store_at s a n size src v) (lose_slots t)
  under_store Unknown n size src v = lose_below
  under_store (Frame c) n size src v =
      record {
        offsets = h.offsets;
        values = values_below s t (store_change s c n src v) lose_change refl agrees h.values;
        sizes = λ o. inl refl;
        same = same_below s t (store_change s c n src v) lose_change refl agrees itself h.same;
        fact = h.fact;
        probed = h.probed;
        written = λ o e. or_right (covers c n o && int_lt o (pos 0)) (s.written o) (h.written o e);
      }
    where
      agrees : (p : Place) → Agrees s (store_change s c n src v) lose_change p
      agrees (Register r) = inr (Register r, refl, refl)
      agrees Compared = inr (Compared, refl, refl)
      agrees (Slot o) = inl (refl, to_any)

      or_right : (a b : Bool) → b ≡ true → (a || b) ≡ true
      or_right true b e = refl
      or_right false b e = e
  under_store a n size src v = under_lost

  pub store_closer : (a a' : Address) (n size : ℕ) (src : Option Place) (v v' : Value) → Closer a a' → Under v v' → Lower (store_at s a n size src v) (store_at t a' n size src v')
  store_closer a a' n size src v v' unknown u = under_store a n size src v
  store_closer (Frame c) a' n size src v v' alike u = store_frame_below c n size src v v' u
  store_closer Unknown a' n size src v v' alike u = lose_below
  store_closer a a' n size src v v' k u = h

module _ (site : Site) (laws : ValueLaws) (bounds : IsSite site) (s t : Abstract) (below_ : Lower s t) (vs : IsForm site.bounds s) (vt : IsForm site.bounds t) where
  stored_below : (size : ℕ) (b : Operand) → Under (stored_value size (operand_of s b)) (stored_value size (operand_of t b))
  stored_below size b = by_test (size == 8) (size == 4)
    where
      by_test : (x y : Bool) → Under (if x then operand_of s b else (if y then narrow32 (operand_of s b) else Any)) (if x then operand_of t b else (if y then narrow32 (operand_of t b) else Any))
      by_test true y = operand_below site laws bounds s t below_ vs vt b
      by_test false true = narrow32_below site laws bounds _ _ (operand_valid site laws bounds s t below_ vs vt b) (operand_valid_upper site laws bounds s t below_ vs vt b) (operand_below site laws bounds s t below_ vs vt b)
      by_test false false = same

  pub store_mono : (mem : Mem) (size : ℕ) (src : Operand) → Lower (apply site (stmt.Store mem size src) s) (apply site (stmt.Store mem size src) t)
  store_mono mem size src =
      store_closer s t below_ vs.itself _ _ size (slot_size size) (stored_source size src) _ _ (address_closer site laws bounds s t below_ vs vt mem.base mem.index mem.disp) (stored_below size src)

  pub touch_mono : (mem : Mem) (size : ℕ) (write : Bool) → Lower (apply site (stmt.Touch mem size write) s) (apply site (stmt.Touch mem size write) t)
  touch_mono mem size true = store_closer s t below_ vs.itself _ _ size 0 None Any Any (address_closer site laws bounds s t below_ vs vt mem.base mem.index mem.disp) same
  touch_mono mem size false = below_
