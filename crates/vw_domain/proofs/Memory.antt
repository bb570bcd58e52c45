-- Loads and stores keep what the state stands for.
use Rattle.std.proofs.Common.{◌≡◌, ℕ, zero, suc, ◌+◌, ◌-◌, ◌*◌, ◌/◌, ◌%◌, ◌^◌, ◌<◌, ◌≤◌, ◌⊎◌, inl, inr, ⊎_elim, ◌==◌, refl, sym, ap, ◌∙◌, subst, arith, add-one}
use Rattle.std.specs.Prelude.{Option, Some, None, Bool, true, false, if◌then◌else◌, nat_le, nat_lt, ◌&&◌, ◌||◌, not, ℤ, pos, negsuc, ◌+ℤ◌, ◌≤ℤ◌, ◌<ℤ◌, int_lt}
use Rattle.std.proofs.lemmas.Int.{ints}
use Rattle.std.proofs.Math.Path.{fun_ext}
use Rattle.std.proofs.Math.Nat.{mod-eq_of_lt, mod-lt, mod-one, div-add-mod, add-mul-mod_self_left, div-div-eq-div-mul, pow-suc, pow-succ', one-le-pow}
use Rattle.std.proofs.lemmas.Bool.{eqb-true, ltb-true, ltb-false, true≢false}
use Rattle.std.proofs.lemmas.Nat.{mod_below}
use Rattle.std.proofs.lemmas.Bool.Decides.{nat_tests}
use Rattle.vw_insn.specs.Listed.{IsMem}
use Rattle.vw_insn.specs.declared.registers.Reg.{Reg}
use Rattle.vw_insn.specs.declared.registers.Width.{Width}
use Rattle.vw_insn.specs.declared.registers.Width.TheVariants.{W32, W64}
use Rattle.vw_insn.specs.declared.operands.Mem.{Mem}
use Rattle.vw_insn.specs.declared.operands.Base.{Base}
use Rattle.vw_insn.specs.declared.operands.Base.TheVariants as base
use Rattle.vw_insn.specs.Words.{Flags as StatusFlags, number, low, with_low, word_of}
use Rattle.vw_insn.specs.Arithmetic.{extended}
use Rattle.vw_insn.specs.Effect.{address}
use Rattle.vw_stmt.specs.declared.operands.Var.{Var}
use Rattle.vw_stmt.specs.declared.operands.Var.TheVariants as var
use Rattle.vw_stmt.specs.declared.operands.Operand.{Operand}
use Rattle.vw_stmt.specs.declared.operands.Operand.TheVariants as operand
use Rattle.vw_stmt.specs.declared.statement.Stmt.TheVariants as stmt
use Rattle.vw_stmt.specs.Environment.{Environment, Pick, var_value, operand_value}
use Rattle.vw_stmt.specs.Does.{does, width_of, reading}
use Rattle.vw_stmt.specs.Lifted.{IsLoad, IsWordSize, IsXmmSize}
use Rattle.vw_stmt.specs.Laws.{HasWords, AreBytes}
use Rattle.vw_domain.proofs.ChangeLaws.{MayTag, values_stand, classes_stand, stay_apart}
use Rattle.vw_domain.proofs.WriteLaws.{write_stands, SourceStands, some_is, none_is}
use Rattle.vw_domain.proofs.Statements.{held_var, untagged, var_stands, operand_stands, operand_fits, var_offset, may_place}
use Rattle.vw_domain.proofs.Addresses.{address_stands}
use Rattle.vw_domain.proofs.MemoryOrder.{by_load, plain_load, by_four}
use Rattle.vw_domain.proofs.ValueLaws.{ValueLaws, narrow32_stands, narrow32_no_tag}
use Rattle.vw_names.specs.declared.spot.Spot.{Spot as Place}
use Rattle.vw_names.specs.declared.spot.Spot.TheVariants.{Reg as Register, Flags as Compared, Slot}
use Rattle.vw_stack.specs.declared.offset.Offset.{Offset}
use Rattle.vw_stack.specs.declared.offset.Offset.TheVariants as offset
use Rattle.vw_values.specs.declared.value.Value.{Value}
use Rattle.vw_values.specs.declared.value.Value.TheVariants.{Any, Num, Const, Below, Both, HeapBase, HeapAddr, Globals as GlobalsBase, Image as ImageAt, Index16, EntryPtr, EntryTyped, TagOf, TableFn, JumpOff}
use Rattle.vw_values.specs.declared.value.Via.{Via}
use Rattle.vw_values.specs.declared.value.Via.TheVariants.{At, Idx}
use Rattle.vw_values.specs.Bounds.{first_from}
use Rattle.vw_values.specs.Sums.{add}
use Rattle.vw_values.specs.Narrowing.{narrow32}
use Rattle.vw_values.specs.Stands.{Stands, AtEntry, HasTag, IsFunction}
use Rattle.vw_bits.specs.Fields.{load}
use Rattle.std.specs.Ordering.{int_eq}
use Rattle.vw_domain.specs.Abstract.{Abstract}
use Rattle.vw_domain.specs.Changes.{Change, overlaps, covers, store_from, fresh_slot, store_frame}
use Rattle.vw_domain.specs.Sites.{Site, IsSite, AreReadable, Word, Plain, Based, Other}
use Rattle.vw_domain.specs.Operands.{index_of, operand_of, operand_place}
use Rattle.vw_domain.specs.Stands.{Machine, content, at_offset, is_index, tag_register, clashes}
use Rattle.vw_domain.specs.Soundness.{IsPlaced, held_of}
use Rattle.vw_domain.specs.FormRanges.{IsForm}
use Rattle.vw_domain.specs.Addresses.{Address, Frame, Heap, Globals, Image, Range, Entry, Unknown, value_of, in_entry, known_or, by_value, by_base, in_heap, in_globals, in_range, in_table, by_image, by_pair, by_parts, address_of}
use Rattle.std.proofs.lemmas.Bool.Decides.{Decides-int_eq}
use Rattle.vw_values.specs.Sums.{extent_of}
use Rattle.vw_domain.proofs.Standing.{Standing}
use Rattle.vw_domain.specs.Soundness.{AddressStands, IsTagOf, IsMemory, in_stack, in_span, store, marked, after_write, TouchesGuard}
use Rattle.vw_domain.specs.Checks.{MayRead, MayWrite, ReadsKnown}
use Rattle.vw_domain.specs.Statements.{apply}
use Rattle.vw_domain.specs.Memory.{is_in_heap, wide_value, value_or, word_value, half_word_value, function_value, whole_value, half_value, offset_value, load_value, load_source, slot_size, stored_value, stored_source, store_at}

-- ---- bytes

pub load_fits : (bytes : ℕ → ℕ) (a n : ℕ) → AreBytes bytes → load bytes a n < 256 ^ n
load_fits bytes a zero h = omega arith
load_fits bytes a (suc n) h = let rest = load_fits bytes (a + 1) n h in let here = h a in let p : 256 ^ suc n ≡ 256 ^ n * 256 = pow-suc 256 n in omega arith

pub load_half : (bytes : ℕ → ℕ) (a : ℕ) → AreBytes bytes → load bytes a 8 % 2 ^ 32 ≡ load bytes a 4
load_half bytes a h = let rest = load_fits bytes a 4 h in join (bytes a) (bytes (a + 1)) (bytes (a + 1 + 1)) (bytes (a + 1 + 1 + 1)) (load bytes (a + 1 + 1 + 1 + 1) 4) (h a) (h (a + 1)) (h (a + 1 + 1)) (h (a + 1 + 1 + 1))
  where
    join : (b0 b1 b2 b3 r : ℕ) → b0 < 256 → b1 < 256 → b2 < 256 → b3 < 256 → (b0 + 256 * (b1 + 256 * (b2 + 256 * (b3 + 256 * r)))) % 2 ^ 32 ≡ b0 + 256 * (b1 + 256 * (b2 + 256 * (b3 + 256 * 0)))
    join b0 b1 b2 b3 r h0 h1 h2 h3 = omega arith

-- ---- frame addresses

-- the address at an offset that is not below the address space
pub at_is : (rsp0 : ℕ) (c : ℤ) → (0 < at_offset rsp0 c) ⊎ (pos 0 ≤ℤ c) → pos (at_offset rsp0 c) ≡ pos rsp0 +ℤ c
at_is rsp0 (pos n) h = omega (arith, ints)
at_is rsp0 (negsuc n) (inl h) = omega (arith, ints)
at_is rsp0 (negsuc n) (inr h) = absurd (omega (arith, ints))

pub at_word : (rsp0 a : ℕ) (c : ℤ) → pos a ≡ pos rsp0 +ℤ c → a < 2 ^ 64 → rsp0 < 2 ^ 64 → (rsp0 + word_of c) % 2 ^ 64 ≡ a
at_word rsp0 a (pos n) e ha hr = let s : a ≡ rsp0 + n = omega (arith, ints) in let small : n % 2 ^ 64 ≡ n = omega arith in omega arith
at_word rsp0 a (negsuc n) e ha hr = let s : a + (n + 1) ≡ rsp0 = omega (arith, ints) in let small : n % 2 ^ 64 ≡ n = omega arith in omega arith

pub at_from : (rsp0 a : ℕ) (c : ℤ) → pos a ≡ pos rsp0 +ℤ c → at_offset rsp0 c ≡ a
at_from rsp0 a (pos n) e = omega (arith, ints)
at_from rsp0 a (negsuc n) e = omega (arith, ints)

module _ (top : Machine) (site : Site) (next : ℕ) (laid : IsPlaced top site next) (laws : ValueLaws) (bounds : IsSite site)
    (loads : (ℕ → ℕ) → ℕ → ℕ → ℕ) (memory : IsMemory top site loads) (pick : Pick)
    (st : Abstract) (e : Environment) (compared : ℕ) (words : HasWords e) (valid : IsForm site.bounds st) (are_bytes : AreBytes e.bytes)
    (h : Standing st top (held_of e) e.flags e.bytes compared) where
  abbrev V : Value → ℕ → Type 0
  V v x = Stands top.instance (held_of e) v x

  abbrev A : Address → ℕ → Type 0
  A a x = AddressStands top.instance top.entry_rsp (held_of e) a x

  -- a read that is permitted reads bytes of the stack
  pub read_here : (c : ℤ) (n : ℕ) → 0 < n → ReadsKnown st (Frame c) n → (top.stack_start ≤ at_offset top.entry_rsp c) × (at_offset top.entry_rsp c + n ≤ top.stack_end) × ((top.entry_rsp + word_of c) % 2 ^ 64 ≡ at_offset top.entry_rsp c)
  read_here c n some (inl k) =
      let first = h.written c (k c (omega (arith, ints)) (omega (arith, ints))) in
      let last_offset : ℤ = c +ℤ pos (n - 1) in
      let last = h.written last_offset (k last_offset (omega (arith, ints)) (omega (arith, ints))) in
      let low = h.inside _ first.1 in
      let high = h.inside _ last.1 in
      let room = laid.room in
      let here = at_is top.entry_rsp c (inl (omega arith)) in
      let there = at_is top.entry_rsp last_offset (inl (omega arith)) in
      (low.0, omega (arith, ints, h.high_end), at_word top.entry_rsp _ c here (omega (arith, laid.ends, h.high_end)) (omega (arith, laid.ends, h.high_end)))
  read_here c n some (inr k) =
      let here = at_is top.entry_rsp c (inr (omega (arith, ints, k.0))) in
      (omega (arith, ints, h.low_end, k.0), omega (arith, ints, h.high_end, k.1, k.0), at_word top.entry_rsp _ c here (omega (arith, ints, laid.ends, h.high_end, k.1, k.0)) (omega (arith, laid.ends, h.high_end)))

  frame_loads : (c : ℤ) (n x : ℕ) → 0 < n → ReadsKnown st (Frame c) n → A (Frame c) x → loads e.bytes x n ≡ load e.bytes (at_offset top.entry_rsp c) n
  frame_loads c n x some may at =
      let r = read_here c n some may in
      let here : x ≡ at_offset top.entry_rsp c = at ∙ r.2 in
      ap (λ y. loads e.bytes y n) here ∙ memory.in_stack e.bytes (at_offset top.entry_rsp c) n r.0 r.1

  -- ---- numbers by their size alone

  wide_stands : (a : Address) (x : ℕ) → V (wide_value a) x
  wide_stands (Heap l h) x = by_test (is_in_heap l h)
    where
      by_test : (b : Bool) → V (if b then Num else Any) x
      by_test true = tt
      by_test false = tt
  wide_stands (Globals l h) x = tt
  wide_stands a x = tt

  signed_fits : (b : Bool) (x n : ℕ) → x < n → n ≤ 2 ^ 32 → (if b then (x + (2 ^ 64 - n)) % 2 ^ 32 else x) < 2 ^ 32
  signed_fits true x n f g = mod_below _ (2 ^ 32) (omega arith)
  signed_fits false x n f g = omega arith

  whole_stands : (a : Address) (x : ℕ) → A a x → V (value_or (whole_value site a) (wide_value a)) (loads e.bytes x 8)
  whole_stands (Heap l u) x at = by_test (int_eq l (negsuc 7) && int_eq u (negsuc 7)) refl
    where
      is_minus : (int_eq l (negsuc 7) && int_eq u (negsuc 7)) ≡ true → at.0 ≡ negsuc 7
      is_minus t = let both = both_ends l u t in omega (arith, ints, both.0, both.1, at.1, at.2)
        where
          both_ends : (l u : ℤ) → (int_eq l (negsuc 7) && int_eq u (negsuc 7)) ≡ true → (l ≡ negsuc 7) × (u ≡ negsuc 7)
          both_ends l u t = (grind (arith, ints, Decides-int_eq), grind (arith, ints, Decides-int_eq))

      by_test : (b : Bool) → (int_eq l (negsuc 7) && int_eq u (negsuc 7)) ≡ b → V (value_or (if b then Some GlobalsBase else None) (wide_value (Heap l u))) (loads e.bytes x 8)
      by_test true t =
          let here : x ≡ top.instance.heap - 8 = at.3 ∙ ap (λ z. (top.instance.heap + word_of z) % 2 ^ 64) (is_minus t) ∙ omega (arith, laid.heap_ends, laid.heap_room) in
          ap (λ y. loads e.bytes y 8) here ∙ memory.globals e.bytes
      by_test false t = wide_stands (Heap l u) (loads e.bytes x 8)
  whole_stands (Image a) x at = by_word (site.word_at a 8) refl
    where
      by_word : (o : Word) → site.word_at a 8 ≡ o → V (value_or (word_value o) Any) (loads e.bytes x 8)
      by_word (Plain y) q = ap (λ z. loads e.bytes z 8) at ∙ memory.plain e.bytes a 8 y q
      by_word (Based b) q = ap (λ z. loads e.bytes z 8) at ∙ memory.based e.bytes a b q
      by_word Other q = tt
  whole_stands (Entry t tag d via) x at = by_tests (d == 0) (d == 8) refl refl
    where
      is_tag : d ≡ 0 → loads e.bytes x 8 ≡ at.0
      is_tag z =
          let within : at.1 ≡ at.1 % 2 ^ 64 = let y_is = at.2.at in omega arith in
          let here : x ≡ at.1 = at.3 ∙ ap (λ k. (at.1 + k) % 2 ^ 64) z ∙ ap (λ k. k % 2 ^ 64) (omega arith) ∙ sym within in
          ap (λ k. loads e.bytes k 8) here ∙ memory.tag e.bytes t at.1 at.0 at.2

      by_via : d ≡ 0 → V (TagOf t via) (loads e.bytes x 8)
      by_via z = let Q : ℕ → Type 0 = λ g. AtEntry top.instance t (HasTag g) at.1 in (at.1, at.5, subst Q (sym (is_tag z)) at.2)

      by_tag : (tag : Option ℕ) → d ≡ 8 → IsTagOf tag at.0 → V (value_or (function_value t tag) Any) (loads e.bytes x 8)
      by_tag None z k = tt
      by_tag (Some g) z k =
          let here : x ≡ (at.1 + 8) % 2 ^ 64 = at.3 ∙ ap (λ k. (at.1 + k) % 2 ^ 64) z in
          let P : ℕ → Type 0 = λ y. AtEntry top.instance t (IsFunction g (loads e.bytes y 8)) at.1 in
          let Q : ℕ → Type 0 = λ y. AtEntry top.instance t (IsFunction y (loads e.bytes ((at.1 + 8) % 2 ^ 64) 8)) at.1 in
          (at.1, subst P (sym here) (subst Q k (memory.pointer e.bytes t at.1 at.0 at.2)))

      by_tests : (p q : Bool) → (d == 0) ≡ p → (d == 8) ≡ q → V (value_or (if p then Some (TagOf t via) else (if q then function_value t tag else None)) Any) (loads e.bytes x 8)
      by_tests true q k l = by_via (eqb-true d 0 k)
      by_tests false true k l = by_tag tag (eqb-true d 8 l) at.4
      by_tests false false k l = tt
  whole_stands (Globals l u) x at = tt
  whole_stands a x at = tt

  half_stands : (a : Address) (x : ℕ) → A a x → V (value_or (half_value site a) (Below (2 ^ 32))) (loads e.bytes x 4 % 2 ^ 32)
  half_stands (Image a) x at = by_word (site.word_at a 4) refl
    where
      by_word : (o : Word) → site.word_at a 4 ≡ o → V (value_or (half_word_value o) (Below (2 ^ 32))) (loads e.bytes x 4 % 2 ^ 32)
      by_word (Plain y) q =
          let got : loads e.bytes x 4 ≡ y = ap (λ z. loads e.bytes z 4) at ∙ memory.plain e.bytes a 4 y q in
          let small : y < 2 ^ 32 = bounds.half a y q in
          omega arith
      by_word (Based b) q = mod_below _ (2 ^ 32) (omega arith)
      by_word Other q = mod_below _ (2 ^ 32) (omega arith)
  half_stands a x at = mod_below _ (2 ^ 32) (omega arith)

  offset_stands : (a : Address) (x : ℕ) → A a x → MayRead site st a 4 → V (value_or (offset_value a) (wide_value a)) (extended true W32 W64 (low W32 (loads e.bytes x 4)))
  offset_stands (Range a s k) x at m = by_test ((s == 4) && nat_le k 65536) refl
    where
      four : ((s == 4) && nat_le k 65536) ≡ true → s ≡ 4
      four t = grind arith

      by_test : (b : Bool) → ((s == 4) && nat_le k 65536) ≡ b → V (value_or (if b then Some (JumpOff a k) else None) Any) (extended true W32 W64 (low W32 (loads e.bytes x 4)))
      by_test true t =
          let here : x ≡ (top.instance.load + a + 4 * at.0) % 2 ^ 64 = at.2 ∙ ap (λ k. (top.instance.load + a + k * at.0) % 2 ^ 64) (four t) in
          (at.0, at.1, ap (λ y. extended true W32 W64 (low W32 (loads e.bytes y 4))) here ∙ memory.jump e.bytes a at.0 (subst (λ n. AreReadable site (a + n * at.0) 4) (four t) (m.0 at.0 at.1)))
      by_test false t = tt
  offset_stands a x at m = wide_stands a (extended true W32 W64 (low W32 (loads e.bytes x 4)))

  abbrev result : ℕ → ℕ → ℕ → Width → Bool → ℕ
  result x old size to sg = with_low to old (extended sg (width_of size) to (low (width_of size) (loads e.bytes x size)))

  plain_stands : (a : Address) (x old : ℕ) → A a x → (size : ℕ) (to : Width) (sg : Bool) → IsLoad size to sg → MayRead site st a size → V (plain_load site a size to sg) (result x old size to sg)
  plain_stands a x old at =
      by_load (λ size to sg. MayRead site st a size → V (plain_load site a size to sg) (result x old size to sg)) (
        (λ m. tt),
        (λ m. tt),
        (λ m. mod_below _ (2 ^ 8) (omega arith)),
        (λ m. mod_below _ (2 ^ 16) (omega arith)),
        (λ m. half_stands a x at),
        (λ m. signed_fits _ _ (2 ^ 8) (mod_below _ (2 ^ 8) (omega arith)) (omega arith)),
        (λ m. signed_fits _ _ (2 ^ 16) (mod_below _ (2 ^ 16) (omega arith)) (omega arith)),
        (λ m. signed_fits _ _ (2 ^ 32) (mod_below _ (2 ^ 32) (omega arith)) (omega arith)),
        (λ m. tt),
        (λ m. tt),
        (λ m. offset_stands a x at m),
        (λ m. mod_below _ (2 ^ 8) (omega arith)),
        (λ m. mod_below _ (2 ^ 16) (omega arith)),
        (λ m. half_stands a x at),
        (λ m. whole_stands a x at),
      )

  -- ---- a load, of a slot too

  abbrev From : Option Place → Value → ℕ → Type 0
  From src v x = SourceStands top site st (held_of e) e.bytes compared src v x

  abbrev there : ℤ → ℕ
  there c = at_offset top.entry_rsp c

  size_content : (c : ℤ) (n : ℕ) → (st.sizes c == n) ≡ true → content top.entry_rsp st.sizes (held_of e) e.bytes compared (Slot c) ≡ load e.bytes (there c) n
  size_content c n t = ap (λ k. load e.bytes (there c) k) (eqb-true (st.sizes c) n t)

  half_slot : (c : ℤ) (x y : Bool) → (st.sizes c == 4) ≡ x → (st.sizes c == 8) ≡ y
      → From (if x then Some (Slot c) else None) (value_or (if y then Some (narrow32 (st.values (Slot c))) else None) (Below (2 ^ 32))) (load e.bytes (there c) 4)
  half_slot c true y f g = sym (size_content c 4 f)
  half_slot c false true f g =
      let P : ℕ → Type 0 = λ k. V (st.values (Slot c)) k in
      subst (V (narrow32 (st.values (Slot c)))) (load_half e.bytes (there c) are_bytes)
      (narrow32_stands top site (held_of e) next laid laws bounds (st.values (Slot c)) _ (subst P (size_content c 8 g) (h.values (Slot c))))
  half_slot c false false f g = load_fits e.bytes (there c) 4 are_bytes

  whole_slot : (c : ℤ) (x : Bool) → (st.sizes c == 8) ≡ x → From (if x then Some (Slot c) else None) Any (load e.bytes (there c) 8)
  whole_slot c true f = sym (size_content c 8 f)
  whole_slot c false f = tt

  abbrev frame_at : ℤ → ℕ → ℕ → Width → Bool → Type 0
  frame_at c old size to sg =
      From (load_source st (Frame c) size sg) (load_value site st (Frame c) size to sg) (with_low to old (extended sg (width_of size) to (low (width_of size) (load e.bytes (there c) size))))

  frame_stands : (c : ℤ) (old size : ℕ) (to : Width) (sg : Bool) → IsLoad size to sg → frame_at c old size to sg
  frame_stands c old =
      let half = half_slot c (st.sizes c == 4) (st.sizes c == 8) refl refl in
      let fits : load e.bytes (there c) 4 < 2 ^ 32 = load_fits e.bytes (there c) 4 are_bytes in
      let cut : load e.bytes (there c) 4 ≡ load e.bytes (there c) 4 % 2 ^ 32 = omega arith in
      let half' = subst (λ x. From (if st.sizes c == 4 then Some (Slot c) else None) (value_or (if st.sizes c == 8 then Some (narrow32 (st.values (Slot c))) else None) (Below (2 ^ 32))) x) cut half in
      by_load (frame_at c old) (
        tt,
        tt,
        mod_below _ (2 ^ 8) (omega arith),
        mod_below _ (2 ^ 16) (omega arith),
        half',
        signed_fits _ _ (2 ^ 8) (mod_below _ (2 ^ 8) (omega arith)) (omega arith),
        signed_fits _ _ (2 ^ 16) (mod_below _ (2 ^ 16) (omega arith)) (omega arith),
        signed_fits _ _ (2 ^ 32) (mod_below _ (2 ^ 32) (omega arith)) (omega arith),
        tt,
        tt,
        tt,
        mod_below _ (2 ^ 8) (omega arith),
        mod_below _ (2 ^ 16) (omega arith),
        half',
        whole_slot c (st.sizes c == 8) refl,
      )

  some_size : (size : ℕ) (to : Width) (sg : Bool) → IsLoad size to sg → 0 < size
  some_size = by_load (λ size to sg. 0 < size)
      (omega arith, omega arith, omega arith, omega arith, omega arith, omega arith, omega arith, omega arith, omega arith, omega arith, omega arith, omega arith, omega arith, omega arith, omega arith)

  loaded : (a : Address) (x old size : ℕ) (to : Width) (sg : Bool) → IsLoad size to sg → A a x → MayRead site st a size
      → From (load_source st a size sg) (load_value site st a size to sg) (result x old size to sg)
  loaded (Frame c) x old size to sg i at may =
      let same_bytes = frame_loads c size x (some_size size to sg i) may.1 at in
      let P : ℕ → Type 0 = λ y. From (load_source st (Frame c) size sg) (load_value site st (Frame c) size to sg) (with_low to old (extended sg (width_of size) to (low (width_of size) y))) in
      subst P (sym same_bytes) (frame_stands c old size to sg i)
  loaded a x old size to sg i at may = plain_stands a x old at size to sg i may

  -- ---- a tag may be given to the register that is loaded

  abbrev via_tag : Via → Bool
  via_tag (At r) = true
  via_tag (Idx r) = false

  abbrev via_register : Via → ℕ
  via_register (At r) = r
  via_register (Idx r) = r

  -- the register of an entry's address holds an entry's address, or an index
  abbrev GivesTag : Address → Type 0
  GivesTag (Entry t tag d via) = clashes (not (via_tag via)) (st.values (Register (via_register via))) ≡ true
  GivesTag a = Unit {0}

  entry_at : (t : ℕ) (tag : Option ℕ) (d : ℤ) (via : Via) (a : Address) → clashes (not (via_tag via)) (st.values (Register (via_register via))) ≡ true → in_entry t tag d via ≡ Some a → GivesTag a
  entry_at t tag (pos d) via a k f = subst GivesTag (some_is f) k
  entry_at t tag (negsuc d) via a k f = absurd (none_is f)

  alone_gives : (r : ℕ) (v : Value) (d : ℤ) → v ≡ value_of st r → (a : Address) → by_value r v d ≡ Some a → GivesTag a
  alone_gives r HeapBase d e a f = subst GivesTag (some_is f) tt
  alone_gives r HeapAddr d e a f = subst GivesTag (some_is f) tt
  alone_gives r GlobalsBase d e a f = subst GivesTag (some_is f) tt
  alone_gives r (ImageAt b) d e a f = subst GivesTag (some_is f) tt
  alone_gives r (EntryPtr t) d e a f = entry_at t None d (At r) a (ap (λ v. clashes false v) (sym e)) f
  alone_gives r (EntryTyped t g) d e a f = entry_at t (Some g) d (At r) a (ap (λ v. clashes false v) (sym e)) f
  alone_gives r v d e a f = absurd (none_is f)

  known_gives : (a b : Option Address) → ((z : Address) → a ≡ Some z → GivesTag z) → ((z : Address) → b ≡ Some z → GivesTag z) → GivesTag (known_or a b)
  known_gives (Some a) b f g = f a refl
  known_gives None (Some b) f g = g b refl
  known_gives None None f g = tt

  base_gives : (r : ℕ) (o : Offset) (d : ℤ) → GivesTag (by_base r o (value_of st r) d)
  base_gives r (offset.Known c) d = tt
  base_gives r offset.Unknown d = known_gives (by_value r (value_of st r) d) None (λ a f. alone_gives r (value_of st r) d refl a f) (λ z f. absurd (none_is f))

  heap_gives : (o : Option (ℤ × ℤ)) (d m : ℤ) (a : Address) → in_heap o d m ≡ Some a → GivesTag a
  heap_gives None d m a f = absurd (none_is f)
  heap_gives (Some b) d m a f = subst GivesTag (some_is f) tt

  globals_gives : (o : Option (ℤ × ℤ)) (d : ℤ) (a : Address) → in_globals o d ≡ Some a → GivesTag a
  globals_gives None d a f = absurd (none_is f)
  globals_gives (Some b) d a f = subst GivesTag (some_is f) tt

  range_gives : (a s : ℕ) (u : Option ℕ) (x : Address) → in_range a s u ≡ Some x → GivesTag x
  range_gives a s None x f = absurd (none_is f)
  range_gives a s (Some k) x f = subst GivesTag (some_is f) tt

  entry_gives : (v : Value) (d : ℤ) (r : ℕ) (a : Address) → is_index (value_of st r) ≡ true → in_table v d (Idx r) ≡ Some a → GivesTag a
  entry_gives (EntryPtr t) d r a i f = entry_at t None d (Idx r) a i f
  entry_gives (EntryTyped t g) d r a i f = entry_at t (Some g) d (Idx r) a i f
  entry_gives v d r a i f = absurd (none_is f)

  image_gives : (a r : ℕ) (y : Value) (s : ℕ) (d : ℤ) (x : Address) → y ≡ value_of st r → by_image site a r (extent_of y) s d ≡ Some x → GivesTag x
  image_gives a r (Const c) s d x e f = range_gives _ s (first_from (c + 1) site.bounds) x f
  image_gives a r (Below k) s d x e f = subst GivesTag (some_is f) tt
  image_gives a r (Both k) s d x e f = subst GivesTag (some_is f) tt
  image_gives a r (Index16 k m) s d x e f = by_scale (s == 1) f
    where
      by_scale : (b : Bool) → (if b then in_table (add (ImageAt a) (Index16 k m) site.tables) d (Idx r) else None) ≡ Some x → GivesTag x
      by_scale true f = entry_gives _ d r x (ap is_index (sym e)) f
      by_scale false f = absurd (none_is f)
  image_gives a r y s d x e f = absurd (none_is f)

  pair_gives : (v : Value) (r s : ℕ) (d : ℤ) (x : Address) → by_pair site v r (value_of st r) s d ≡ Some x → GivesTag x
  pair_gives HeapBase r s d x f = heap_gives _ d (pos 0) x f
  pair_gives HeapAddr r s d x f = heap_gives _ d (pos (2 ^ 32 - 1)) x f
  pair_gives GlobalsBase r s d x f = globals_gives _ d x f
  pair_gives (ImageAt a) r s d x f = image_gives a r (value_of st r) s d x refl f
  pair_gives v r s d x f = absurd (none_is f)

  address_gives : (b : Base) (index : Option (Reg × ℕ)) (d : ℤ) → GivesTag (by_parts site st b index d)
  address_gives base.Rip index d = tt
  address_gives base.None None d = tt
  address_gives base.None (Some (i, s)) d = by_scale (s == 1)
    where
      by_scale : (q : Bool) → GivesTag (if q then by_base (number i) (st.offsets (number i)) (value_of st (number i)) d else Unknown)
      by_scale true = base_gives (number i) _ d
      by_scale false = tt
  address_gives (base.Reg r) None d = base_gives (number r) _ d
  address_gives (base.Reg r) (Some (i, s)) d = by_scale (s == 1)
    where
      by_scale : (q : Bool) → GivesTag (known_or (by_pair site (value_of st (number r)) (number i) (value_of st (number i)) s d) (if q then by_pair site (value_of st (number i)) (number r) (value_of st (number r)) 1 d else None))
      by_scale true = known_gives _ _ (pair_gives _ (number i) s d) (pair_gives _ (number r) 1 d)
      by_scale false = known_gives _ _ (pair_gives _ (number i) s d) (λ z f. absurd (none_is f))

  abbrev may : Value → Type 0
  may v = MayTag st.values st.same v

  no_tag_may : (v : Value) → tag_register v ≡ None → may v
  no_tag_may v n = untagged st.values st.same v n

  tag_may : (t : ℕ) (via : Via) → clashes (not (via_tag via)) (st.values (Register (via_register via))) ≡ true → may (TagOf t via)
  tag_may t (At r) k q g e s c =
      let at : true ≡ g.at = cc in
      let reg : r ≡ g.register = cc in
      h.kinds.apart true (Register r) q (subst (λ n. st.same (Register n) q ≡ true) (sym reg) s) k (subst (λ b. clashes b (st.values q) ≡ true) (sym at) c)
  tag_may t (Idx r) k q g e s c =
      let at : false ≡ g.at = cc in
      let reg : r ≡ g.register = cc in
      h.kinds.apart false (Register r) q (subst (λ n. st.same (Register n) q ≡ true) (sym reg) s) k (subst (λ b. clashes b (st.values q) ≡ true) (sym at) c)

  wide_may : (a : Address) → may (wide_value a)
  wide_may (Heap l h) = by_test (is_in_heap l h)
    where
      by_test : (b : Bool) → may (if b then Num else Any)
      by_test true = no_tag_may Num refl
      by_test false = no_tag_may Any refl
  wide_may (Globals l h) = no_tag_may Num refl
  wide_may a = no_tag_may Any refl

  whole_may : (a : Address) → GivesTag a → may (value_or (whole_value site a) (wide_value a))
  whole_may (Heap l u) k = by_test (int_eq l (negsuc 7) && int_eq u (negsuc 7))
    where
      by_test : (b : Bool) → may (value_or (if b then Some GlobalsBase else None) (wide_value (Heap l u)))
      by_test true = no_tag_may GlobalsBase refl
      by_test false = wide_may (Heap l u)
  whole_may (Image a) k = by_word (site.word_at a 8)
    where
      by_word : (o : Word) → may (value_or (word_value o) Any)
      by_word (Plain y) = no_tag_may (Const y) refl
      by_word (Based b) = no_tag_may (ImageAt b) refl
      by_word Other = no_tag_may Any refl
  whole_may (Entry t tag d via) k = by_tests (d == 0) (d == 8)
    where
      by_tag : (tag : Option ℕ) → may (value_or (function_value t tag) Any)
      by_tag None = no_tag_may Any refl
      by_tag (Some g) = no_tag_may (TableFn t g) refl

      by_tests : (p q : Bool) → may (value_or (if p then Some (TagOf t via) else (if q then function_value t tag else None)) Any)
      by_tests true q = tag_may t via k
      by_tests false true = by_tag tag
      by_tests false false = no_tag_may Any refl
  whole_may (Globals l u) k = no_tag_may Num refl
  whole_may a k = no_tag_may Any refl

  half_may : (a : Address) → may (value_or (half_value site a) (Below (2 ^ 32)))
  half_may (Image a) = by_word (site.word_at a 4)
    where
      by_word : (o : Word) → may (value_or (half_word_value o) (Below (2 ^ 32)))
      by_word (Plain y) = no_tag_may (Const y) refl
      by_word (Based b) = no_tag_may (Below (2 ^ 32)) refl
      by_word Other = no_tag_may (Below (2 ^ 32)) refl
  half_may a = no_tag_may (Below (2 ^ 32)) refl

  offset_may : (a : Address) → may (value_or (offset_value a) (wide_value a))
  offset_may (Range a s k) = by_test ((s == 4) && nat_le k 65536)
    where
      by_test : (b : Bool) → may (value_or (if b then Some (JumpOff a k) else None) Any)
      by_test true = no_tag_may (JumpOff a k) refl
      by_test false = no_tag_may Any refl
  offset_may a = wide_may a

  slot_may : (c : ℤ) (b : Bool) → may (value_or (if b then Some (narrow32 (st.values (Slot c))) else None) (Below (2 ^ 32)))
  slot_may c true = no_tag_may _ (narrow32_no_tag (st.values (Slot c)))
  slot_may c false = no_tag_may (Below (2 ^ 32)) refl

  load_may : (a : Address) → GivesTag a → (size : ℕ) (to : Width) (sg : Bool) → IsLoad size to sg → may (load_value site st a size to sg)
  load_may (Frame c) k = by_load (λ size to sg. may (load_value site st (Frame c) size to sg)) (
    no_tag_may Num refl,
    no_tag_may Num refl,
    no_tag_may (Below 256) refl,
    no_tag_may (Below 65536) refl,
    slot_may c (st.sizes c == 8),
    no_tag_may (Below (2 ^ 32)) refl,
    no_tag_may (Below (2 ^ 32)) refl,
    no_tag_may (Below (2 ^ 32)) refl,
    no_tag_may Num refl,
    no_tag_may Num refl,
    no_tag_may Any refl,
    no_tag_may (Below 256) refl,
    no_tag_may (Below 65536) refl,
    slot_may c (st.sizes c == 8),
    no_tag_may Any refl,
  )
  load_may a k = by_load (λ size to sg. may (plain_load site a size to sg)) (
    no_tag_may Num refl,
    no_tag_may Num refl,
    no_tag_may (Below 256) refl,
    no_tag_may (Below 65536) refl,
    half_may a,
    no_tag_may (Below (2 ^ 32)) refl,
    no_tag_may (Below (2 ^ 32)) refl,
    no_tag_may (Below (2 ^ 32)) refl,
    no_tag_may Num refl,
    no_tag_may Num refl,
    offset_may a,
    no_tag_may (Below 256) refl,
    no_tag_may (Below 65536) refl,
    half_may a,
    whole_may a k,
  )

  address_here : (mem : Mem) → IsMem mem → A (address_of site st mem) (address next e.registers mem)
  address_here mem m =
      address_stands top site (held_of e) next laid laws bounds top.entry_rsp st e.registers (λ r. held_var e (var.Reg r)) (λ r. words.in_registers (number r))
      (λ r. var_offset top site next laid laws bounds loads (store top) pick st e compared words valid h (var.Reg r))
      (λ r. var_stands top site next laid laws bounds loads (store top) pick st e compared words valid h (var.Reg r)) mem.base mem.index mem.disp m.rip

  pub load_stands : (dst : Var) (size : ℕ) (to : Width) (sg : Bool) (mem : Mem) → IsLoad size to sg → IsMem mem
      → MayRead site st (address_of site st mem) size
      → let e' = does loads (store top) next (stmt.Load dst size to sg mem) pick e in Standing (apply site (stmt.Load dst size to sg mem) st) top (held_of e') e'.flags e'.bytes compared
  load_stands dst size to sg mem i m allowed =
      write_stands top site st (reading loads (store top) next e (address next e.registers mem) size) compared dst _ _ offset.Unknown _ h
      (loaded (address_of site st mem) (address next e.registers mem) _ size to sg i (address_here mem m) allowed) tt
      (load_may (address_of site st mem) (address_gives mem.base mem.index mem.disp) size to sg i)

-- ---- what was stored is loaded

split_mod : (y m : ℕ) → 0 < m → y % (256 * m) ≡ y % 256 + 256 * (y / 256 % m)
split_mod y m h =
    let s = y % 256 + 256 * (y / 256 % m) in
    let r : y % 256 < 256 = omega arith in
    let q : y / 256 % m < m = mod-lt (y / 256) h in
    let fits : s < 256 * m = omega arith in
    let whole : y ≡ s + (256 * m) * (y / 256 / m) = omega (arith, div-add-mod (y / 256) m, div-add-mod y 256) in
    ap (λ t. t % (256 * m)) whole ∙ add-mul-mod_self_left s (256 * m) (y / 256 / m) ∙ mod-eq_of_lt fits

stored_test : (lo hi a n q : ℕ) → lo ≤ a → a + n ≤ hi → a ≤ q → q < a + n → ((nat_le lo q && nat_lt q hi) && (nat_le a q && nat_lt q (a + n))) ≡ true
stored_test lo hi a n q h1 h2 h3 h4 = grind (arith, nat_tests)

apart_test : (lo hi a n q : ℕ) → (q < a) ⊎ (a + n ≤ q) → ((nat_le lo q && nat_lt q hi) && (nat_le a q && nat_lt q (a + n))) ≡ false
apart_test lo hi a n q h = grind (arith, nat_tests)

outside_test : (lo hi a n q : ℕ) → (a + n ≤ lo) ⊎ (hi ≤ a) → ((nat_le lo q && nat_lt q hi) && (nat_le a q && nat_lt q (a + n))) ≡ false
outside_test lo hi a n q h = grind (arith, nat_tests)

byte_stored : (top : Machine) (bytes : ℕ → ℕ) (a n v i : ℕ) → i < n → top.stack_start ≤ a → a + n ≤ top.stack_end → store top bytes a n v (a + i) ≡ v / 256 ^ i % 256
byte_stored top bytes a n v i h low high =
    let there : a + i - a ≡ i = omega arith in
    ap (λ t. if t then v / 256 ^ (a + i - a) % 256 else bytes (a + i)) (stored_test top.stack_start top.stack_end a n (a + i) low high (omega arith) (omega arith)) ∙ ap (λ k. v / 256 ^ k % 256) there

part_stored : (top : Machine) (bytes : ℕ → ℕ) (a n v i m : ℕ) → i + m ≤ n → top.stack_start ≤ a → a + n ≤ top.stack_end → load (store top bytes a n v) (a + i) m ≡ v / 256 ^ i % 256 ^ m
part_stored top bytes a n v i zero h low high = sym (mod-one (v / 256 ^ i))
part_stored top bytes a n v i (suc m) h low high =
    let on : a + i + 1 ≡ a + (i + 1) = omega arith in
    let power : 256 ^ (i + 1) ≡ 256 ^ i * 256 = ap (λ k. 256 ^ k) (add-one i) ∙ pow-suc 256 i in
    ap (λ x. x + 256 * load (store top bytes a n v) (a + i + 1) m) (byte_stored top bytes a n v i (omega arith) low high)
    ∙ ap (λ k. v / 256 ^ i % 256 + 256 * load (store top bytes a n v) k m) on
    ∙ ap (λ x. v / 256 ^ i % 256 + 256 * x) (part_stored top bytes a n v (i + 1) m (omega arith) low high)
    ∙ ap (λ p. v / 256 ^ i % 256 + 256 * (v / p % 256 ^ m)) power
    ∙ ap (λ x. v / 256 ^ i % 256 + 256 * (x % 256 ^ m)) (sym (div-div-eq-div-mul v (256 ^ i) 256))
    ∙ sym (split_mod (v / 256 ^ i) (256 ^ m) (one-le-pow m 256 (omega arith)))
    ∙ ap (λ p. v / 256 ^ i % p) (sym (pow-succ' 256 m))

-- all n bytes of a number
pub whole_stored : (top : Machine) (bytes : ℕ → ℕ) (a n v : ℕ) → top.stack_start ≤ a → a + n ≤ top.stack_end → load (store top bytes a n v) a n ≡ v % 256 ^ n
whole_stored top bytes a n v low high =
    let here : a + 0 ≡ a = omega arith in
    let one : v / 256 ^ 0 ≡ v = omega arith in
    ap (λ k. load (store top bytes a n v) k n) (sym here) ∙ part_stored top bytes a n v 0 n (omega arith) low high ∙ ap (λ k. k % 256 ^ n) one

pub load_apart : (top : Machine) (bytes : ℕ → ℕ) (a n v b m : ℕ) → (b + m ≤ a) ⊎ (a + n ≤ b) → load (store top bytes a n v) b m ≡ load bytes b m
load_apart top bytes a n v b zero h = refl
load_apart top bytes a n v b (suc m) h =
    let here : store top bytes a n v b ≡ bytes b = ap (λ t. if t then v / 256 ^ (b - a) % 256 else bytes b) (apart_test top.stack_start top.stack_end a n b (first h)) in
    ap (λ x. x + 256 * load (store top bytes a n v) (b + 1) m) here ∙ ap (λ x. bytes b + 256 * x) (load_apart top bytes a n v (b + 1) m (rest h))
  where
    first : (b + suc m ≤ a) ⊎ (a + n ≤ b) → (b < a) ⊎ (a + n ≤ b)
    first (inl k) = inl (omega arith)
    first (inr k) = inr k

    rest : (b + suc m ≤ a) ⊎ (a + n ≤ b) → (b + 1 + m ≤ a) ⊎ (a + n ≤ b + 1)
    rest (inl k) = inl (omega arith)
    rest (inr k) = inr (omega arith)

-- ---- stores

module _ (top : Machine) (site : Site) (st : Abstract) (held : ℕ → ℕ) (flags : StatusFlags) (bytes : ℕ → ℕ) (compared : ℕ)
    (room : 8192 ≤ top.stack_start) (small : (o : ℤ) → st.sizes o ≤ 8)
    (h : Standing st top held flags bytes compared) where
  -- a write outside the stack changes nothing that the state speaks of
  pub elsewhere : (a n v : ℕ) → (a + n ≤ top.stack_start) ⊎ (top.stack_end ≤ a) → Standing st (after_write top a n) held flags (store top bytes a n v) compared
  elsewhere a n v out =
      let P : (ℕ → Bool) → Type 0 = λ written. Standing st (record top { is_written = written }) held flags (store top bytes a n v) compared in
      let Q : (ℕ → ℕ) → Type 0 = λ b. Standing st top held flags b compared in
      subst P (sym (fun_ext (λ q. unmarked q))) (subst Q (sym (fun_ext (λ q. unchanged q))) h)
    where
      unchanged : (q : ℕ) → store top bytes a n v q ≡ bytes q
      unchanged q = ap (λ t. if t then v / 256 ^ (q - a) % 256 else bytes q) (outside_test top.stack_start top.stack_end a n q out)

      drop : (i s r t : Bool) → (i && s) ≡ false → ((i && (s && r)) || t) ≡ t
      drop true true r t e = absurd (true≢false e)
      drop true false r t e = refl
      drop false s r t e = refl

      unmarked : (q : ℕ) → marked top top.is_written a n q ≡ top.is_written q
      unmarked q = drop (in_stack top q) (in_span a n q) (nat_lt q top.entry_rsp) (top.is_written q) (outside_test top.stack_start top.stack_end a n q out)

  -- n bytes of x are written in the own frame, and a slot of `size` of them stands there
  pub frame_stored : (c : ℤ) (a n size x : ℕ) (src : Option Place) (v : Value)
      → pos a ≡ pos top.entry_rsp +ℤ c → (c +ℤ pos n) ≤ℤ pos 0 → top.stack_start ≤ a → size ≤ n
      → SourceStands top site st held bytes compared src v (x % 256 ^ size)
      → (load (store top bytes a n x) a size ≡ x % 256 ^ size)
      → MayTag st.values st.same v
      → Standing (store_frame st c n size src v) (after_write top a n) held flags (store top bytes a n x) compared
  frame_stored c a n size x src v at below low fits source got may =
      record {
        low_end = h.low_end;
        high_end = h.high_end;
        depth = h.depth;
        offsets = h.offsets;
        values = values_stand top.instance held held st change old new (λ r g. refl) keeps makes h.values;
        classes = classes_stand top.instance held held st change old new (λ r g. refl) keeps makes h.classes;
        inside = is_inside;
        written = is_written;
        word = h.word;
        facts = h.facts;
        kinds = stay_apart st change (λ r g. refl) fresh_may h.kinds;
      }
    where
      change : Change
      change = record { from = store_from st c n src; fresh = fresh_slot c v; gone = λ r. false }

      old : Place → ℕ
      old = content top.entry_rsp st.sizes held bytes compared

      new_sizes : ℤ → ℕ
      new_sizes = λ o. if int_eq o c then size else (if (st.sizes o == 0) || overlaps c n o (st.sizes o) then 0 else st.sizes o)

      new : Place → ℕ
      new = content top.entry_rsp new_sizes held (store top bytes a n x) compared

      is_offset : (o : ℤ) → int_eq o c ≡ true → o ≡ c
      is_offset o e = offsets_equal o c e
        where
          offsets_equal : (o c : ℤ) → int_eq o c ≡ true → o ≡ c
          offsets_equal o c e = (Decides-int_eq o c).0 e

      here : at_offset top.entry_rsp c ≡ a
      here = at_from top.entry_rsp a c at

      at_slot : (o : ℤ) → int_eq o c ≡ true → load (store top bytes a n x) (at_offset top.entry_rsp o) size ≡ x % 256 ^ size
      at_slot o e = ap (λ k. load (store top bytes a n x) (at_offset top.entry_rsp k) size) (is_offset o e) ∙ ap (λ k. load (store top bytes a n x) k size) here ∙ got

      not_over : (o : ℤ) (m : ℕ) → ((m == 0) || overlaps c n o m) ≡ false → ((o +ℤ pos m) ≤ℤ c) ⊎ ((c +ℤ pos n) ≤ℤ o)
      not_over o m e = not_overlapping c o n m e
        where
          not_overlapping : (c o : ℤ) (n m : ℕ) → ((m == 0) || overlaps c n o m) ≡ false → ((o +ℤ pos m) ≤ℤ c) ⊎ ((c +ℤ pos n) ≤ℤ o)
          not_overlapping c o n m e = grind (arith, ints)

      apart : (o : ℤ) (m : ℕ) → m ≤ 8 → ((o +ℤ pos m) ≤ℤ c) ⊎ ((c +ℤ pos n) ≤ℤ o) → (at_offset top.entry_rsp o + m ≤ a) ⊎ (a + n ≤ at_offset top.entry_rsp o)
      apart (pos k) m s (inl b) = inl (omega (arith, ints))
      apart (pos k) m s (inr b) = inr (omega (arith, ints))
      apart (negsuc k) m s (inl b) = inl (omega (arith, ints))
      apart (negsuc k) m s (inr b) = inr (omega (arith, ints))

      other_slot : (o : ℤ) → ((st.sizes o == 0) || overlaps c n o (st.sizes o)) ≡ false → load (store top bytes a n x) (at_offset top.entry_rsp o) (st.sizes o) ≡ load bytes (at_offset top.entry_rsp o) (st.sizes o)
      other_slot o e = load_apart top bytes a n x (at_offset top.entry_rsp o) (st.sizes o) (apart o (st.sizes o) (small o) (not_over o (st.sizes o) e))

      from_source : (s : Option Place) (q : Place) (y : ℕ) → SourceStands top site st held bytes compared s v (x % 256 ^ size) → s ≡ Some q → y ≡ x % 256 ^ size → y ≡ old q
      from_source None q y k e f = absurd (none_is e)
      from_source (Some p) q y k e f = f ∙ k ∙ ap old (some_is e)

      keeps_slot : (o : ℤ) (b g : Bool) → int_eq o c ≡ b → ((st.sizes o == 0) || overlaps c n o (st.sizes o)) ≡ g → (q : Place) → (if b then src else (if g then None else Some (Slot o))) ≡ Some q
          → load (store top bytes a n x) (at_offset top.entry_rsp o) (if b then size else (if g then 0 else st.sizes o)) ≡ old q
      keeps_slot o true g e f q k = from_source src q _ source k (at_slot o e)
      keeps_slot o false true e f q k = absurd (none_is k)
      keeps_slot o false false e f q k = other_slot o f ∙ ap old (some_is k)

      keeps : (p q : Place) → store_from st c n src p ≡ Some q → new p ≡ old q
      keeps (Register r) q e = ap old (some_is e)
      keeps Compared q e = ap old (some_is e)
      keeps (Slot o) q e = keeps_slot o (int_eq o c) ((st.sizes o == 0) || overlaps c n o (st.sizes o)) refl refl q e

      fresh_source : (s : Option Place) (y : ℕ) → SourceStands top site st held bytes compared s v (x % 256 ^ size) → s ≡ None → y ≡ x % 256 ^ size → Stands top.instance held v y
      fresh_source None y k e f = subst (Stands top.instance held v) (sym f) k
      fresh_source (Some p) y k e f = absurd (none_is (sym e))

      makes_slot : (o : ℤ) (b g : Bool) → int_eq o c ≡ b → (if b then src else (if g then None else Some (Slot o))) ≡ None → Stands top.instance held (if b then v else Any) (load (store top bytes a n x) (at_offset top.entry_rsp o) (if b then size else (if g then 0 else st.sizes o)))
      makes_slot o true g e k = fresh_source src _ source k (at_slot o e)
      makes_slot o false g e k = tt

      makes : (p : Place) → store_from st c n src p ≡ None → Stands top.instance held (fresh_slot c v p) (new p)
      makes (Register r) e = absurd (none_is (sym e))
      makes Compared e = absurd (none_is (sym e))
      makes (Slot o) e = makes_slot o (int_eq o c) ((st.sizes o == 0) || overlaps c n o (st.sizes o)) refl e

      fresh_may : (p : Place) → store_from st c n src p ≡ None → MayTag st.values st.same (fresh_slot c v p)
      fresh_may (Register r) e = untagged st.values st.same Any refl
      fresh_may Compared e = untagged st.values st.same Any refl
      fresh_may (Slot o) e = by_test (int_eq o c)
        where
          by_test : (b : Bool) → MayTag st.values st.same (if b then v else Any)
          by_test true = may
          by_test false = untagged st.values st.same Any refl

      or_is : (a b : Bool) → (a || b) ≡ true → (a ≡ true) ⊎ (b ≡ true)
      or_is true b e = inl refl
      or_is false b e = inr e

      or_right : (a b : Bool) → b ≡ true → (a || b) ≡ true
      or_right true b e = refl
      or_right false b e = e

      or_left : (a b : Bool) → a ≡ true → (a || b) ≡ true
      or_left a b e = ap (λ t. t || b) e

      in_own : (lo hi a n r q : ℕ) → ((nat_le lo q && nat_lt q hi) && ((nat_le a q && nat_lt q (a + n)) && nat_lt q r)) ≡ true → (lo ≤ q) × (q < r)
      in_own lo hi a n r q e = (grind (arith, nat_tests), grind (arith, nat_tests))

      own : (lo hi a n r q : ℕ) → lo ≤ q → q < hi → a ≤ q → q < a + n → q < r → ((nat_le lo q && nat_lt q hi) && ((nat_le a q && nat_lt q (a + n)) && nat_lt q r)) ≡ true
      own lo hi a n r q h1 h2 h3 h4 h5 = grind (arith, nat_tests)

      is_inside : (q : ℕ) → marked top top.is_written a n q ≡ true → (top.stack_start ≤ q) × (q < top.entry_rsp)
      is_inside q e = ⊎_elim (λ (m : (in_stack top q && (in_span a n q && nat_lt q top.entry_rsp)) ≡ true). in_own top.stack_start top.stack_end a n top.entry_rsp q m) (λ (m : top.is_written q ≡ true). h.inside q m) (or_is _ _ e)

      covered : (o : ℤ) → (covers c n o && int_lt o (pos 0)) ≡ true → (c ≤ℤ o) × (o <ℤ (c +ℤ pos n)) × (o <ℤ pos 0)
      covered o e = three c n o e
        where
          three : (c : ℤ) (n : ℕ) (o : ℤ) → (covers c n o && int_lt o (pos 0)) ≡ true → (c ≤ℤ o) × (o <ℤ (c +ℤ pos n)) × (o <ℤ pos 0)
          three c n o e = (grind (arith, ints), grind (arith, ints), grind (arith, ints))

      marked_at : (o : ℤ) → c ≤ℤ o → o <ℤ (c +ℤ pos n) → o <ℤ pos 0 → (in_stack top (at_offset top.entry_rsp o) && (in_span a n (at_offset top.entry_rsp o) && nat_lt (at_offset top.entry_rsp o) top.entry_rsp)) ≡ true
      marked_at (pos k) l u z = absurd (omega (arith, ints))
      marked_at (negsuc k) l u z = own top.stack_start top.stack_end a n top.entry_rsp (top.entry_rsp - suc k) (omega (arith, ints)) (omega (arith, ints, h.high_end)) (omega (arith, ints)) (omega (arith, ints)) (omega (arith, ints))

      is_written : (o : ℤ) → ((covers c n o && int_lt o (pos 0)) || st.written o) ≡ true → (o <ℤ pos 0) × (marked top top.is_written a n (at_offset top.entry_rsp o) ≡ true)
      is_written o e = ⊎_elim
          (λ (m : (covers c n o && int_lt o (pos 0)) ≡ true). let r = covered o m in (r.2, or_left _ _ (marked_at o r.0 r.1 r.2)))
          (λ (m : st.written o ≡ true). let r = h.written o m in (r.0, or_right _ _ r.1))
          (or_is _ _ e)

module _ (top : Machine) (site : Site) (next : ℕ) (laid : IsPlaced top site next) (laws : ValueLaws) (bounds : IsSite site)
    (loads : (ℕ → ℕ) → ℕ → ℕ → ℕ) (pick : Pick)
    (st : Abstract) (e : Environment) (compared : ℕ) (words : HasWords e) (valid : IsForm site.bounds st)
    (small : (o : ℤ) → st.sizes o ≤ 8)
    (h : Standing st top (held_of e) e.flags e.bytes compared) where
  abbrev Written : Abstract → ℕ → ℕ → ℕ → Type 0
  Written st' a n x = Standing st' (after_write top a n) (held_of e) e.flags (store top e.bytes a n x) compared

  -- what a write leaves, if it is permitted and does not touch the guard
  write_at : (addr : Address) (a n size x : ℕ) (src : Option Place) (v : Value) → 0 < n → size ≤ n → AddressStands top.instance top.entry_rsp (held_of e) addr a → MayWrite st addr n
      → SourceStands top site st (held_of e) e.bytes compared src v (x % 256 ^ size) → ((b : ℕ → ℕ) → top.stack_start ≤ a → a + n ≤ top.stack_end → load (store top b a n x) a size ≡ x % 256 ^ size)
      → MayTag st.values st.same v
      → TouchesGuard top a ⊎ Written (store_at st addr n size src v) a n x
  write_at (Frame c) a n size x src v some fits at may source got tag = by_guard (nat_lt a top.stack_start) refl
    where
      is_at : (a rsp0 d : ℕ) (c : ℤ) → a ≡ (rsp0 + word_of c) % 2 ^ 64 → rsp0 < 2 ^ 64 → pos 0 ≤ℤ (pos rsp0 +ℤ c) → c ≤ℤ pos 0 → pos a ≡ pos rsp0 +ℤ c
      is_at a rsp0 d (pos k) e f l u = omega (arith, ints)
      is_at a rsp0 d (negsuc k) e f l u = let s : k % 2 ^ 64 ≡ k = omega (arith, ints) in omega (arith, ints)

      exact : pos a ≡ pos top.entry_rsp +ℤ c
      exact = is_at a top.entry_rsp 0 c at (omega (arith, h.high_end, laid.ends)) (omega (arith, ints, h.depth, laid.room, may.0)) (omega (arith, ints, may.2))

      by_guard : (b : Bool) → nat_lt a top.stack_start ≡ b → TouchesGuard top a ⊎ Written (store_at st (Frame c) n size src v) a n x
      by_guard true g = inl (omega (arith, ints, exact, h.depth, may.0), ltb-true a top.stack_start g)
      by_guard false g =
          let low : top.stack_start ≤ a = ltb-false a top.stack_start g in
          inr (frame_stored top site st (held_of e) e.flags e.bytes compared laid.room small h c a n size x src v exact may.2 low fits source
          (got e.bytes low (omega (arith, ints, exact, may.2, h.high_end))) tag)
  write_at (Heap l u) a n size x src v some fits at may source got tag =
      inr (elsewhere top site st (held_of e) e.flags e.bytes compared laid.room small h a n x (away at.0 at.3 (omega (arith, ints, at.1, may.1.0)) (omega (arith, ints, at.2, may.1.1))))
    where
      away : (z : ℤ) → a ≡ (top.instance.heap + word_of z) % 2 ^ 64 → pos 0 ≤ℤ z → (z +ℤ pos n) ≤ℤ pos (2 ^ 33) → (a + n ≤ top.stack_start) ⊎ (top.stack_end ≤ a)
      away (pos k) e l u =
          let k_small : k + n ≤ 2 ^ 33 = omega (arith, ints) in
          let exact : a ≡ top.instance.heap + k = omega (arith, e, laid.heap_ends) in
          ⊎_elim (λ (b : top.instance.heap + 2 ^ 33 ≤ top.stack_start). inl (omega arith)) (λ (b : top.stack_end ≤ top.instance.heap). inr (omega arith)) laid.heap_apart
      away (negsuc k) e l u = absurd (omega (arith, ints))
  write_at (Globals l u) a n size x src v some fits at may source got tag =
      inr (elsewhere top site st (held_of e) e.flags e.bytes compared laid.room small h a n x (away at.0 at.3 (omega (arith, ints, at.1, may.1.0)) (omega (arith, ints, at.2, may.1.1))))
    where
      away : (z : ℤ) → a ≡ (top.instance.globals + word_of z) % 2 ^ 64 → pos 0 ≤ℤ z → (z +ℤ pos n) ≤ℤ pos 4096 → (a + n ≤ top.stack_start) ⊎ (top.stack_end ≤ a)
      away (pos k) e l u =
          let k_small : k + n ≤ 4096 = omega (arith, ints) in
          let exact : a ≡ top.instance.globals + k = omega (arith, e, laid.globals_end) in
          ⊎_elim (λ (b : top.instance.globals + 4096 ≤ top.stack_start). inl (omega arith)) (λ (b : top.stack_end ≤ top.instance.globals). inr (omega arith)) laid.globals_apart
      away (negsuc k) e l u = absurd (omega (arith, ints))
  write_at (Image b) a n size x src v some fits at may source got tag = absurd may.2
  write_at (Range b k m) a n size x src v some fits at may source got tag = absurd may.2
  write_at (Entry t g d via) a n size x src v some fits at may source got tag = absurd may.2
  write_at Unknown a n size x src v some fits at may source got tag = absurd may.1

  abbrev Holds : Value → ℕ → Type 0
  Holds v x = Stands top.instance (held_of e) v x

  -- the number that is stored, of its size
  abbrev stored_number : ℕ → Operand → ℕ
  stored_number size src = low (width_of size) (operand_value e src)

  stored_stands : (size : ℕ) (src : Operand) → IsWordSize size
      → SourceStands top site st (held_of e) e.bytes compared (stored_source size src) (stored_value size (operand_of st src)) (stored_number size src % 256 ^ slot_size size)
  stored_stands size src =
      by_four size (λ size. SourceStands top site st (held_of e) e.bytes compared (stored_source size src) (stored_value size (operand_of st src)) (stored_number size src % 256 ^ slot_size size))
      tt tt half (whole src)
    where
      x : ℕ
      x = operand_value e src

      fits : (src : Operand) → operand_value e src < 2 ^ 64
      fits src = operand_fits top site next laid laws bounds loads (store top) pick st e compared words valid h src

      half : Holds (narrow32 (operand_of st src)) (operand_value e src % 2 ^ 32 % 2 ^ 32)
      half = subst (Holds (narrow32 (operand_of st src))) (omega arith) (narrow32_stands top site (held_of e) next laid laws bounds _ _ (operand_stands top site next laid laws bounds loads (store top) pick st e compared words valid h src))

      whole : (src : Operand) → SourceStands top site st (held_of e) e.bytes compared (operand_place src) (operand_of st src) (operand_value e src % 2 ^ 64)
      whole (operand.Var v) = let f = fits (operand.Var v) in let k : var_value e v % 2 ^ 64 ≡ var_value e v = omega arith in k ∙ sym (held_var e v)
      whole (operand.Imm i) = let f = fits (operand.Imm i) in omega arith

  stored_got : (size x : ℕ) → IsWordSize size → (a : ℕ) (b : ℕ → ℕ) → top.stack_start ≤ a → a + size ≤ top.stack_end → load (store top b a size x) a (slot_size size) ≡ x % 256 ^ slot_size size
  stored_got size x =
      by_four size (λ size. (a : ℕ) (b : ℕ → ℕ) → top.stack_start ≤ a → a + size ≤ top.stack_end → load (store top b a size x) a (slot_size size) ≡ x % 256 ^ slot_size size)
      (λ a b l u. sym (mod-one x)) (λ a b l u. sym (mod-one x)) (λ a b l u. whole_stored top b a 4 x l u) (λ a b l u. whole_stored top b a 8 x l u)

  stored_may : (size : ℕ) (src : Operand) → IsWordSize size → MayTag st.values st.same (stored_value size (operand_of st src))
  stored_may size src = by_four size (λ size. MayTag st.values st.same (stored_value size (operand_of st src)))
      (untagged st.values st.same Any refl) (untagged st.values st.same Any refl) (untagged st.values st.same _ (narrow32_no_tag (operand_of st src))) (whole src)
    where
      whole : (src : Operand) → MayTag st.values st.same (operand_of st src)
      whole (operand.Var v) = may_place top site next laid laws bounds loads (store top) pick st e compared words valid h (Register (index_of v))
      whole (operand.Imm i) = untagged st.values st.same (Const (word_of i)) refl

  pub at_address : (mem : Mem) → IsMem mem → AddressStands top.instance top.entry_rsp (held_of e) (address_of site st mem) (address next e.registers mem)
  at_address mem m =
      address_stands top site (held_of e) next laid laws bounds top.entry_rsp st e.registers (λ r. held_var e (var.Reg r)) (λ r. words.in_registers (number r))
      (λ r. var_offset top site next laid laws bounds loads (store top) pick st e compared words valid h (var.Reg r))
      (λ r. var_stands top site next laid laws bounds loads (store top) pick st e compared words valid h (var.Reg r)) mem.base mem.index mem.disp m.rip

  pub store_stands : (mem : Mem) (size : ℕ) (src : Operand) → IsWordSize size → IsMem mem → MayWrite st (address_of site st mem) size
      → let a = address next e.registers mem in
      let e' = does loads (store top) next (stmt.Store mem size src) pick e in
      TouchesGuard top a ⊎ Standing (apply site (stmt.Store mem size src) st) (after_write top a size) (held_of e') e'.flags e'.bytes compared
  store_stands mem size src i m may =
      write_at (address_of site st mem) (address next e.registers mem) size (slot_size size) (stored_number size src) _ _ (some_bytes i) (no_more i) (at_address mem m) may
      (stored_stands size src i) (stored_got size (stored_number size src) i (address next e.registers mem)) (stored_may size src i)
    where
      some_bytes : IsWordSize size → 0 < size
      some_bytes = by_four size (λ size. 0 < size) (omega arith) (omega arith) (omega arith) (omega arith)

      no_more : IsWordSize size → slot_size size ≤ size
      no_more = by_four size (λ size. slot_size size ≤ size) (omega arith) (omega arith) (omega arith) (omega arith)

  pub touch_stands : (mem : Mem) (size : ℕ) → IsXmmSize size → IsMem mem → MayWrite st (address_of site st mem) size
      → let a = address next e.registers mem in
      let e' = does loads (store top) next (stmt.Touch mem size true) pick e in
      TouchesGuard top a ⊎ Standing (apply site (stmt.Touch mem size true) st) (after_write top a size) (held_of e') e'.flags e'.bytes compared
  touch_stands mem size i m may =
      write_at (address_of site st mem) (address next e.registers mem) size 0 _ None Any (some_bytes i) (omega arith) (at_address mem m) may tt (λ b l u. sym (mod-one _)) (untagged st.values st.same Any refl)
    where
      some_bytes : IsXmmSize size → 0 < size
      some_bytes (inl e) = omega arith
      some_bytes (inr (inl e)) = omega arith
      some_bytes (inr (inr e)) = omega arith
