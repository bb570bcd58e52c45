-- Every statement leaves a state a state.
use Rattle.std.proofs.Common.{◌≡◌, ℕ, zero, suc, ◌+◌, ◌-◌, ◌%◌, ◌^◌, ◌<◌, ◌≤◌, inl, inr, ◌==◌, refl, subst, arith}
use Rattle.std.specs.Prelude.{List, Option, Some, None, Bool, true, false, if◌then◌else◌, nat_le, ◌&&◌, ℤ, pos, negsuc, ◌+ℤ◌, ◌-ℤ◌}
use Rattle.std.proofs.lemmas.Bool.{eqb-true}
use Rattle.std.proofs.lemmas.Nat.{mod_below}
use Rattle.std.proofs.lemmas.Int.{ints}
use Rattle.std.proofs.Math.Nat.{one-le-pow, pow-le-pow_right}
use Rattle.vw_insn.specs.declared.registers.Reg.{Reg}
use Rattle.vw_insn.specs.declared.registers.Width.{Width}
use Rattle.vw_insn.specs.declared.registers.Width.TheVariants.{W8, W16, W32, W64}
use Rattle.vw_insn.specs.declared.operands.Base.{Base}
use Rattle.vw_insn.specs.declared.operands.Base.TheVariants as base
use Rattle.vw_insn.specs.Words.{number, word_of}
use Rattle.vw_stmt.specs.declared.operands.Var.{Var}
use Rattle.vw_stmt.specs.declared.operands.Operand.{Operand}
use Rattle.vw_stmt.specs.declared.operands.Operand.TheVariants as operand
use Rattle.vw_stmt.specs.declared.operands.Compare.{Compare}
use Rattle.vw_stmt.specs.declared.statement.Stmt.{Stmt}
use Rattle.vw_stmt.specs.declared.statement.Stmt.TheVariants as stmt
use Rattle.vw_stmt.specs.Lifted.{IsFact as IsComparison, IsLifted, IsLoad, IsWordSize}
use Rattle.vw_domain.proofs.WriteLaws.{some_is, none_is}
use Rattle.vw_domain.proofs.Statements.{word_fits}
use Rattle.vw_domain.proofs.MemoryOrder.{by_load, by_four, plain_load}
use Rattle.vw_domain.proofs.Valid.{write_valid, set_flags_valid, lose_valid, store_valid, IsThere, IsRegister}
use Rattle.vw_domain.proofs.MoreBounds.{own_bounds, and_in, shl4_in, join_in}
use Rattle.vw_domain.proofs.ValueLaws.{ValueLaws, NoSymbol, add_plain, join_plain, narrow32_under}
use Rattle.vw_names.specs.declared.spot.Spot.{Spot as Place}
use Rattle.vw_names.specs.declared.spot.Spot.TheVariants.{Reg as Register, Slot}
use Rattle.vw_stack.specs.declared.offset.Offset.{Offset}
use Rattle.vw_stack.specs.declared.offset.Offset.TheVariants as offset
use Rattle.vw_values.specs.Joins.{join}
use Rattle.vw_values.specs.declared.value.Value.{Value}
use Rattle.vw_values.specs.declared.value.Value.TheVariants.{Any, Num, Const, Below, Both, HeapBase, HeapAddr, Globals as GlobalsBase, Image as ImageAt, Index16, EntryPtr, EntryTyped, TagOf, JumpOff}
use Rattle.vw_values.specs.declared.value.Via.{Via}
use Rattle.vw_values.specs.declared.value.Via.TheVariants.{At, Idx}
use Rattle.vw_values.specs.Bounds.{first_from, IsMember}
use Rattle.vw_values.specs.Values.{IsValue, IsValid}
use Rattle.vw_values.specs.Sums.{add}
use Rattle.vw_values.specs.Scales.{scale}
use Rattle.vw_values.specs.Narrowing.{narrow32, any_number}
use Rattle.std.specs.Ordering.{int_eq}
use Rattle.vw_domain.specs.declared.parts.Fact.TheVariants as fact
use Rattle.vw_domain.specs.Registers.{OffsetFits, IsWithin}
use Rattle.vw_domain.specs.Abstract.{Abstract}
use Rattle.vw_domain.specs.Changes.{value_from, write}
use Rattle.vw_domain.specs.Sites.{Site, IsSite, Word, Plain, Based, Other}
use Rattle.vw_domain.specs.Operands.{index_of, operand_of, operand_offset, operand_place}
use Rattle.vw_domain.specs.FormLaws.{HoldsBounds}
use Rattle.vw_domain.specs.FormRanges.{IsForm, SlotFits}
use Rattle.vw_domain.proofs.Orders.{Under, same}
use Rattle.vw_domain.specs.Addresses.{Address, Frame, Heap, Globals, Image, Range, Entry, Unknown, value_of, signed, in_entry, known_or, by_value, by_base, in_heap, in_globals, in_range, in_table, by_image, by_pair, by_parts, address_of}
use Rattle.vw_insn.specs.Listed.{IsWide}
use Rattle.vw_values.specs.Values.{IsTable, IsTag, IsVia}
use Rattle.vw_values.specs.Sums.{extent_of}
use Rattle.vw_domain.proofs.Ups.{first_member}
use Rattle.vw_domain.proofs.WriteLaws.{below_16}
use Rattle.vw_domain.proofs.Orders.{const_below, below_below, both_below}
use Rattle.vw_domain.specs.State.{IsNarrow as IsNarrowSlot}
use Rattle.vw_domain.specs.Statements.{apply, sum_value, moved, small, is_small, plus_disp, lea_by, lea_offset_by, lea_offset_of, chosen_value, chosen_offset, compared_with, flags_after}
use Rattle.vw_domain.specs.Memory.{is_in_heap, wide_value, value_or, word_value, half_word_value, function_value, whole_value, half_value, offset_value, load_value, load_source, slot_size, stored_value, stored_source, store_at}

-- The bounds that the state names are among these, and those of the site too.
module _ (site : Site) (laws : ValueLaws) (bounds : IsSite site) (members : List ℕ) (holds : HoldsBounds members site.bounds) (st : Abstract) (valid : IsForm members st) where
  abbrev G : Value → Type 0
  G v = IsValid members v

  narrow32_good : (v : Value) → G v → G (narrow32 v)
  narrow32_good v i = laws.lows_valid members v holds.are i

  add_good : (x y : Value) → G x → G y → G (add x y site.tables)
  add_good x y i j = laws.sums_valid members site.tables x y holds.are bounds.few i j

  scaled_good : (s : ℕ) (v : Value) → G v → G (scale v s)
  scaled_good s v i = laws.scales_valid members v s holds.are i

  joined_good : (x y : Value) → G x → G y → G (join site.bounds x y)
  joined_good = join_in site.bounds members bounds.bounds holds laws.joins_least

  var_good : (v : Var) → G (value_of st (index_of v))
  var_good v = (valid.values (Register (index_of v)), valid.among (Register (index_of v)))

  operand_good : (b : Operand) → G (operand_of st b)
  operand_good (operand.Var v) = var_good v
  operand_good (operand.Imm i) = (word_fits i, tt)

  put : (dst : Var) (v : Value) (o : Offset) → G v → OffsetFits o v → IsForm members (write st (index_of dst) None v o)
  put dst v o g n = write_valid members st (index_of dst) None v o valid tt g.0 g.1 n

  const_good : (c : ℕ) → c < 2 ^ 64 → G (Const c)
  const_good c f = (f, tt)

  sum_good : (minus : Bool) (x y : Value) → G x → G y → G (sum_value site minus x y)
  sum_good false x y gx gy = add_good x y gx gy
  sum_good true x y gx gy = laws.differences_valid members site.tables x y holds.are bounds.few gx

  is_within : (c : ℤ) → is_small c ≡ true → IsWithin (2 ^ 31) c
  is_within c e = (grind (arith, ints), grind (arith, ints))

  small_beside : (c : ℤ) (v : Value) → NoSymbol site laws bounds v → OffsetFits (small c) v
  small_beside c v k = by_test (is_small c) refl
    where
      by_test : (b : Bool) → is_small c ≡ b → OffsetFits (if b then offset.Known c else offset.Unknown) v
      by_test true e = (is_within c e, k)
      by_test false e = tt

  sum_beside : (minus : Bool) (o : Offset) (x y : Value) → OffsetFits o x → OffsetFits (moved minus o y) (sum_value site minus x y)
  sum_beside minus offset.Unknown x y n = tt
  sum_beside true (offset.Known c) x (Const d) n = small_beside (c -ℤ signed d) _ (add_plain site laws bounds x ((2 ^ 64 - d) % 2 ^ 64) n.1)
  sum_beside false (offset.Known c) x (Const d) n = small_beside (c +ℤ signed d) _ (add_plain site laws bounds x d n.1)
  sum_beside true (offset.Known c) x y n = tt
  sum_beside false (offset.Known c) x y n = tt

  plus_good : (v : Value) (d : ℤ) → G v → G (plus_disp site v d)
  plus_good v (pos zero) g = g
  plus_good v (pos (suc n)) g = add_good v (Const (word_of (pos (suc n)))) g (const_good _ (word_fits (pos (suc n))))
  plus_good v (negsuc n) g = add_good v (Const (word_of (negsuc n))) g (const_good _ (word_fits (negsuc n)))

  reg_good : (r : Reg) → G (value_of st (number r))
  reg_good r = (valid.values (Register (number r)), valid.among (Register (number r)))

  lea_good : (b : Base) (index : Option (Reg × ℕ)) (d : ℤ) → G (lea_by site st d b index)
  lea_good base.Rip index d = (mod_below _ (2 ^ 64) (omega arith), tt)
  lea_good base.None None d = const_good _ (word_fits d)
  lea_good base.None (Some (i, s)) d = plus_good _ d (scaled_good s _ (reg_good i))
  lea_good (base.Reg r) None d = plus_good _ d (reg_good r)
  lea_good (base.Reg r) (Some (i, s)) d = plus_good _ d (add_good _ _ (reg_good r) (scaled_good s _ (reg_good i)))

  plus_beside : (v : Value) (d : ℤ) → NoSymbol site laws bounds v → NoSymbol site laws bounds (plus_disp site v d)
  plus_beside v (pos zero) n = n
  plus_beside v (pos (suc k)) n = add_plain site laws bounds v (word_of (pos (suc k))) n
  plus_beside v (negsuc k) n = add_plain site laws bounds v (word_of (negsuc k)) n

  lea_beside : (b : Base) (index : Option (Reg × ℕ)) (d : ℤ) → OffsetFits (lea_offset_by st b index d) (lea_by site st d b index)
  lea_beside base.Rip i d = tt
  lea_beside base.None i d = tt
  lea_beside (base.Reg r) (Some i) d = tt
  lea_beside (base.Reg r) None d = by_offset (st.offsets (number r)) (valid.offsets (number r))
    where
      by_offset : (o : Offset) → OffsetFits o (value_of st (number r)) → OffsetFits (lea_offset_of o d) (plus_disp site (value_of st (number r)) d)
      by_offset offset.Unknown n = tt
      by_offset (offset.Known c) n = small_beside (c +ℤ d) _ (plus_beside _ d n.1)

  chosen_good : (w : Width) (x y : Value) → G x → G y → G (chosen_value site w x y)
  chosen_good W8 x y gx gy = (tt, tt)
  chosen_good W16 x y gx gy = (tt, tt)
  chosen_good W32 x y gx gy = joined_good _ _ (narrow32_good x gx) (narrow32_good y gy)
  chosen_good W64 x y gx gy = joined_good x y gx gy

  chosen_beside : (w : Width) (a b : Offset) (x y : Value) → G x → G y → OffsetFits a x → OffsetFits b y → OffsetFits (chosen_offset w a b) (chosen_value site w x y)
  chosen_beside W8 a b x y gx gy n m = tt
  chosen_beside W16 a b x y gx gy n m = tt
  chosen_beside W32 a b x y gx gy n m = tt
  chosen_beside W64 offset.Unknown b x y gx gy n m = tt
  chosen_beside W64 (offset.Known c) offset.Unknown x y gx gy n m = tt
  chosen_beside W64 (offset.Known c) (offset.Known d) x y gx gy n m = by_test (int_eq c d)
    where
      by_test : (t : Bool) → OffsetFits (if t then offset.Known c else offset.Unknown) (join site.bounds x y)
      by_test true = (n.0, join_plain site laws bounds x y gx.0 gy.0 n.1 m.1)
      by_test false = tt

  operand_beside : (b : Operand) → OffsetFits (operand_offset st b) (operand_of st b)
  operand_beside (operand.Var v) = valid.offsets (index_of v)
  operand_beside (operand.Imm i) = tt

  -- ---- loads: the k of a range is in K(f)

  abbrev TagFits : Option ℕ → Type 0
  TagFits None = Unit {0}
  TagFits (Some g) = IsTag g

  abbrev AddressFits : Address → Type 0
  AddressFits (Range a s k) = (a < 2 ^ 64) × IsMember members k
  AddressFits (Entry t tag d via) = IsTable t × TagFits tag × IsVia via
  AddressFits a = Unit {0}

  entry_in : (t : ℕ) (tag : Option ℕ) (d : ℤ) (via : Via) (a : Address) → IsTable t → TagFits tag → IsVia via → in_entry t tag d via ≡ Some a → AddressFits a
  entry_in t tag (pos d) via a x y z f = subst AddressFits (some_is f) (x, y, z)
  entry_in t tag (negsuc d) via a x y z f = absurd (none_is f)

  alone_by : (r : ℕ) → r < 16 → (v : Value) (d : ℤ) → IsValue v → (a : Address) → by_value r v d ≡ Some a → AddressFits a
  alone_by r small HeapBase d i a f = subst AddressFits (some_is f) tt
  alone_by r small HeapAddr d i a f = subst AddressFits (some_is f) tt
  alone_by r small GlobalsBase d i a f = subst AddressFits (some_is f) tt
  alone_by r small (ImageAt b) d i a f = subst AddressFits (some_is f) tt
  alone_by r small (EntryPtr t) d i a f = entry_in t None d (At r) a i tt small f
  alone_by r small (EntryTyped t g) d i a f = entry_in t (Some g) d (At r) a i.0 i.1 small f
  alone_by r small v d i a f = absurd (none_is f)

  known_fits : (a b : Option Address) → ((z : Address) → a ≡ Some z → AddressFits z) → ((z : Address) → b ≡ Some z → AddressFits z) → AddressFits (known_or a b)
  known_fits (Some a) b f g = f a refl
  known_fits None (Some b) f g = g b refl
  known_fits None None f g = tt

  base_fits : (r : ℕ) → r < 16 → (o : Offset) (v : Value) (d : ℤ) → IsValue v → AddressFits (by_base r o v d)
  base_fits r small (offset.Known c) v d i = tt
  base_fits r small offset.Unknown v d i = known_fits (by_value r v d) None (λ a f. alone_by r small v d i a f) (λ z f. absurd (none_is f))

  heap_fits : (o : Option (ℤ × ℤ)) (d m : ℤ) (a : Address) → in_heap o d m ≡ Some a → AddressFits a
  heap_fits None d m a f = absurd (none_is f)
  heap_fits (Some b) d m a f = subst AddressFits (some_is f) tt

  globals_fits : (o : Option (ℤ × ℤ)) (d : ℤ) (a : Address) → in_globals o d ≡ Some a → AddressFits a
  globals_fits None d a f = absurd (none_is f)
  globals_fits (Some b) d a f = subst AddressFits (some_is f) tt

  range_fits : (a s c : ℕ) (u : Option ℕ) (x : Address) → a < 2 ^ 64 → first_from c site.bounds ≡ u → in_range a s u ≡ Some x → AddressFits x
  range_fits a s c None x i e f = absurd (none_is f)
  range_fits a s c (Some k) x i e f = subst AddressFits (some_is f) (i, holds.holds k (first_member site.bounds c k e))

  table_fits : (v : Value) (d : ℤ) (via : Via) (a : Address) → IsValue v → IsVia via → in_table v d via ≡ Some a → AddressFits a
  table_fits (EntryPtr t) d via a i r f = entry_in t None d via a i tt r f
  table_fits (EntryTyped t g) d via a i r f = entry_in t (Some g) d via a i.0 i.1 r f
  table_fits v d via a i r f = absurd (none_is f)

  image_fits : (a r : ℕ) → a < 2 ^ 64 → r < 16 → (y : Value) (s : ℕ) (d : ℤ) (x : Address) → G y → by_image site a r (extent_of y) s d ≡ Some x → AddressFits x
  image_fits a r ia small (Const c) s d x g f = range_fits _ s (c + 1) (first_from (c + 1) site.bounds) x (mod_below _ (2 ^ 64) (omega arith)) refl f
  image_fits a r ia small (Below k) s d x g f = subst AddressFits (some_is f) (mod_below _ (2 ^ 64) (omega arith), g.1)
  image_fits a r ia small (Both k) s d x g f = subst AddressFits (some_is f) (mod_below _ (2 ^ 64) (omega arith), holds.are.powers 33 (omega arith))
  image_fits a r ia small (Index16 k m) s d x g f = by_scale (s == 1) f
    where
      by_scale : (b : Bool) → (if b then in_table (add (ImageAt a) (Index16 k m) site.tables) d (Idx r) else None) ≡ Some x → AddressFits x
      by_scale true f = table_fits _ d (Idx r) x (add_good (ImageAt a) (Index16 k m) (ia, tt) g).0 small f
      by_scale false f = absurd (none_is f)
  image_fits a r ia small y s d x g f = absurd (none_is f)

  pair_fits : (v : Value) (r : ℕ) → r < 16 → (y : Value) (s : ℕ) (d : ℤ) (x : Address) → G v → G y → by_pair site v r y s d ≡ Some x → AddressFits x
  pair_fits HeapBase r small y s d x h g f = heap_fits _ d (pos 0) x f
  pair_fits HeapAddr r small y s d x h g f = heap_fits _ d (pos (2 ^ 32 - 1)) x f
  pair_fits GlobalsBase r small y s d x h g f = globals_fits _ d x f
  pair_fits (ImageAt a) r small y s d x h g f = image_fits a r h.0 small y s d x g f
  pair_fits v r small y s d x h g f = absurd (none_is f)

  address_fits : (b : Base) (index : Option (Reg × ℕ)) (d : ℤ) → AddressFits (by_parts site st b index d)
  address_fits base.Rip index d = tt
  address_fits base.None None d = tt
  address_fits base.None (Some (i, s)) d = by_scale (s == 1)
    where
      by_scale : (q : Bool) → AddressFits (if q then by_base (number i) (st.offsets (number i)) (value_of st (number i)) d else Unknown)
      by_scale true = base_fits (number i) (below_16 i) (st.offsets (number i)) (value_of st (number i)) d (reg_good i).0
      by_scale false = tt
  address_fits (base.Reg r) None d = base_fits (number r) (below_16 r) _ _ d (reg_good r).0
  address_fits (base.Reg r) (Some (i, s)) d = by_scale (s == 1)
    where
      first : (z : Address) → by_pair site (value_of st (number r)) (number i) (value_of st (number i)) s d ≡ Some z → AddressFits z
      first z f = pair_fits (value_of st (number r)) (number i) (below_16 i) (value_of st (number i)) s d z (reg_good r) (reg_good i) f

      second : (z : Address) → by_pair site (value_of st (number i)) (number r) (value_of st (number r)) 1 d ≡ Some z → AddressFits z
      second z f = pair_fits (value_of st (number i)) (number r) (below_16 r) (value_of st (number r)) 1 d z (reg_good i) (reg_good r) f

      by_scale : (q : Bool) → AddressFits (known_or (by_pair site (value_of st (number r)) (number i) (value_of st (number i)) s d) (if q then by_pair site (value_of st (number i)) (number r) (value_of st (number r)) 1 d else None))
      by_scale true = known_fits _ _ first second
      by_scale false = known_fits _ _ first (λ z f. absurd (none_is f))

  power_good : (n : ℕ) → n ≤ 32 → G (Below (2 ^ n))
  power_good n h = ((one-le-pow n 2 (omega arith), inl (pow-le-pow_right (omega arith) h)), holds.are.powers n (omega arith))

  wide_good : (a : Address) → G (wide_value a)
  wide_good (Heap l h) = by_test (is_in_heap l h)
    where
      by_test : (b : Bool) → G (if b then Num else Any)
      by_test true = (tt, tt)
      by_test false = (tt, tt)
  wide_good (Globals l h) = (tt, tt)
  wide_good a = (tt, tt)

  whole_good : (a : Address) → AddressFits a → G (value_or (whole_value site a) (wide_value a))
  whole_good (Heap l u) m = by_test (int_eq l (negsuc 7) && int_eq u (negsuc 7))
    where
      by_test : (b : Bool) → G (value_or (if b then Some GlobalsBase else None) (wide_value (Heap l u)))
      by_test true = (tt, tt)
      by_test false = wide_good (Heap l u)
  whole_good (Image a) m = by_word (site.word_at a 8) refl
    where
      by_word : (o : Word) → site.word_at a 8 ≡ o → G (value_or (word_value o) Any)
      by_word (Plain y) e = const_good y (bounds.whole a y e)
      by_word (Based b) e = (bounds.based a b e, tt)
      by_word Other e = (tt, tt)
  whole_good (Entry t tag d via) m = by_tests (d == 0) (d == 8)
    where
      by_tag : (tag : Option ℕ) → TagFits tag → G (value_or (function_value t tag) Any)
      by_tag None k = (tt, tt)
      by_tag (Some g) k = ((m.0, k), tt)

      by_tests : (p q : Bool) → G (value_or (if p then Some (TagOf t via) else (if q then function_value t tag else None)) Any)
      by_tests true q = ((m.0, m.2), tt)
      by_tests false true = by_tag tag m.1
      by_tests false false = (tt, tt)
  whole_good (Globals l u) m = (tt, tt)
  whole_good a m = (tt, tt)

  half_good : (a : Address) → G (value_or (half_value site a) (Below (2 ^ 32)))
  half_good (Image a) = by_word (site.word_at a 4) refl
    where
      by_word : (o : Word) → site.word_at a 4 ≡ o → G (value_or (half_word_value o) (Below (2 ^ 32)))
      by_word (Plain y) e = const_good y (omega (arith, bounds.half a y e))
      by_word (Based b) e = power_good 32 (omega arith)
      by_word Other e = power_good 32 (omega arith)
  half_good a = power_good 32 (omega arith)

  offset_good : (a : Address) → AddressFits a → G (value_or (offset_value a) (wide_value a))
  offset_good (Range a s k) m = by_test ((s == 4) && nat_le k 65536) refl
    where
      most : ((s == 4) && nat_le k 65536) ≡ true → k ≤ 65536
      most e = grind arith

      by_test : (b : Bool) → ((s == 4) && nat_le k 65536) ≡ b → G (value_or (if b then Some (JumpOff a k) else None) Any)
      by_test true e = ((m.0, (holds.are.positive k m.1, most e)), m.1)
      by_test false e = (tt, tt)
  offset_good a m = wide_good a

  slot_good : (c : ℤ) (b : Bool) → G (value_or (if b then Some (narrow32 (st.values (Slot c))) else None) (Below (2 ^ 32)))
  slot_good c true = narrow32_good _ (valid.values (Slot c), valid.among (Slot c))
  slot_good c false = power_good 32 (omega arith)

  load_good : (a : Address) → AddressFits a → (size : ℕ) (to : Width) (sg : Bool) → IsLoad size to sg → G (load_value site st a size to sg)
  load_good (Frame c) m = by_load (λ size to sg. G (load_value site st (Frame c) size to sg)) (
    (tt, tt),
    (tt, tt),
    power_good 8 (omega arith),
    power_good 16 (omega arith),
    slot_good c (st.sizes c == 8),
    power_good 32 (omega arith),
    power_good 32 (omega arith),
    power_good 32 (omega arith),
    (tt, tt),
    (tt, tt),
    (tt, tt),
    power_good 8 (omega arith),
    power_good 16 (omega arith),
    slot_good c (st.sizes c == 8),
    (tt, tt),
  )
  load_good a m = by_load (λ size to sg. G (plain_load site a size to sg)) (
    (tt, tt),
    (tt, tt),
    power_good 8 (omega arith),
    power_good 16 (omega arith),
    half_good a,
    power_good 32 (omega arith),
    power_good 32 (omega arith),
    power_good 32 (omega arith),
    (tt, tt),
    (tt, tt),
    offset_good a m,
    power_good 8 (omega arith),
    power_good 16 (omega arith),
    half_good a,
    whole_good a m,
  )

  load_there : (a : Address) (size : ℕ) (to : Width) (sg : Bool) → IsLoad size to sg → IsThere members st (load_source st a size sg)
  load_there (Frame c) size to sg i = by_load (λ size to sg. IsThere members st (load_source st (Frame c) size sg))
      (tt, tt, tt, tt, there 4 (st.sizes c == 4) refl (omega arith), tt, tt, tt, tt, tt, tt, tt, tt, there 4 (st.sizes c == 4) refl (omega arith), there 8 (st.sizes c == 8) refl (omega arith)) size to sg i
    where
      there : (n : ℕ) (b : Bool) → (st.sizes c == n) ≡ b → 0 < n → IsThere members st (if b then Some (Slot c) else None)
      there n true e h = λ z. let k = eqb-true (st.sizes c) n e in omega arith
      there n false e h = tt
  load_there a size to sg i = tt

  -- ---- stores and flags

  stored_good : (size : ℕ) (v : Value) → G v → G (stored_value size v)
  stored_good size v g = by_tests (size == 8) (size == 4)
    where
      by_tests : (x y : Bool) → G (if x then v else (if y then narrow32 v else Any))
      by_tests true y = g
      by_tests false true = narrow32_good v g
      by_tests false false = (tt, tt)

  place_register : (b : Operand) → IsRegister members (operand_place b)
  place_register (operand.Var v) = tt
  place_register (operand.Imm i) = tt

  source_register : (size : ℕ) (b : Operand) → IsRegister members (stored_source size b)
  source_register size b = by_test (size == 8)
    where
      by_test : (x : Bool) → IsRegister members (if x then operand_place b else None)
      by_test true = place_register b
      by_test false = tt

  narrow_slot : (v : Value) → IsValue v → IsNarrowSlot (narrow32 v)
  narrow_slot v i = of_under (narrow32 v) (narrow32_under site laws bounds v i)
    where
      of_under : (u : Value) → Under u (Below (2 ^ 32)) → IsNarrowSlot u
      of_under u same = omega arith
      of_under u (const_below h) = h
      of_under u (below_below h) = h
      of_under u (both_below e) = absurd (omega arith)

  stored_slot : (size : ℕ) (b : Operand) → IsWordSize size → SlotFits (slot_size size) (value_from st.values (stored_value size (operand_of st b)) (stored_source size b))
  stored_slot size b = by_four size (λ size. SlotFits (slot_size size) (value_from st.values (stored_value size (operand_of st b)) (stored_source size b)))
      (inl (refl, refl)) (inl (refl, refl)) (inr (inr (refl, narrow_slot (operand_of st b) (operand_good b).0))) (inr (inl refl))

  stored_none : (size : ℕ) (b : Operand) → IsWordSize size → slot_size size ≡ 0 → stored_source size b ≡ None
  stored_none size b = by_four size (λ size. slot_size size ≡ 0 → stored_source size b ≡ None) (λ z. refl) (λ z. refl) (λ z. refl) (λ z. absurd (omega arith))

  store_at_valid : (a : Address) (n size : ℕ) (src : Option Place) (v : Value) → IsRegister members src → G v → SlotFits size (value_from st.values v src) → (size ≡ 0 → src ≡ None) → IsForm members (store_at st a n size src v)
  store_at_valid (Frame c) n size src v i g s z = store_valid members st c n size src v valid i g.0 g.1 s z
  store_at_valid Unknown n size src v i g s z = lose_valid members st valid
  store_at_valid a n size src v i g s z = valid

  compared_valid : (w : Width) → IsWide w → (a : ℕ) (y : Value) → IsValue y → IsForm members (compared_with st w a y)
  compared_valid W8 wide a (Const c) i = absurd wide
  compared_valid W16 wide a (Const c) i = absurd wide
  compared_valid W32 wide a (Const c) i = set_flags_valid members st _ _ valid tt (inl refl, mod_below c (2 ^ 32) (omega arith))
  compared_valid W64 wide a (Const c) i = set_flags_valid members st _ _ valid tt (inr refl, i)
  compared_valid w wide a y i = set_flags_valid members st None fact.Unknown valid tt tt

  flags_valid : (f : Option Compare) → IsComparison f → IsForm members (flags_after st f)
  flags_valid None i = set_flags_valid members st None fact.Unknown valid tt tt
  flags_valid (Some c) i = compared_valid c.w i (index_of c.a) (operand_of st c.b) (operand_good c.b).0

  opened_good : (w : Width) → G (any_number w)
  opened_good W8 = (tt, tt)
  opened_good W16 = (tt, tt)
  opened_good W32 = power_good 32 (omega arith)
  opened_good W64 = (tt, tt)

  copy_valid : (dst src : Var) → IsForm members (apply site (stmt.Copy dst src) st)
  copy_valid dst src = write_valid members st (index_of dst) _ _ _ valid (there (index_of src == index_of dst)) (var_good src).0 (var_good src).1 (number_beside (index_of src == index_of dst))
    where
      there : (b : Bool) → IsThere members st (if b then None else Some (Register (index_of src)))
      there true = tt
      there false = tt

      number_beside : (b : Bool) → OffsetFits (st.offsets (index_of src)) (value_from st.values (value_of st (index_of src)) (if b then None else Some (Register (index_of src))))
      number_beside true = valid.offsets (index_of src)
      number_beside false = valid.offsets (index_of src)

  pub stmt_valid_in : (x : Stmt) → IsLifted x → IsForm members (apply site x st)
  stmt_valid_in (stmt.Set dst c) i = put dst (Const c) offset.Unknown (const_good c i) tt
  stmt_valid_in (stmt.Copy dst src) i = copy_valid dst src
  stmt_valid_in (stmt.Narrow dst src from to sg) i = put dst _ offset.Unknown (laws.narrows_valid members _ from to sg holds.are (var_good src)) tt
  stmt_valid_in (stmt.Sum dst a b minus) i = put dst _ _ (sum_good minus _ _ (var_good a) (operand_good b)) (sum_beside minus _ _ (operand_of st b) (valid.offsets (index_of a)))
  stmt_valid_in (stmt.Lea dst mem) i = put dst _ _ (lea_good mem.base mem.index mem.disp) (lea_beside mem.base mem.index mem.disp)
  stmt_valid_in (stmt.And dst width a b) i = put dst _ offset.Unknown (and_in site.bounds members bounds.bounds holds laws.lows_valid width _ _ (var_good a) (operand_good b)) tt
  stmt_valid_in (stmt.Shl dst) i = put dst _ offset.Unknown (shl4_in site.bounds members bounds.bounds holds _ (var_good dst)) tt
  stmt_valid_in (stmt.Open dst width) i = put dst _ offset.Unknown (opened_good width) tt
  stmt_valid_in (stmt.Choose dst width a b) i = put dst _ _ (chosen_good width _ _ (var_good a) (operand_good b)) (chosen_beside width _ _ _ _ (var_good a) (operand_good b) (valid.offsets (index_of a)) (operand_beside b))
  stmt_valid_in (stmt.Load dst size to sg mem) i =
      let g = load_good (address_of site st mem) (address_fits mem.base mem.index mem.disp) size to sg i.0 in
      write_valid members st (index_of dst) _ _ offset.Unknown valid (load_there (address_of site st mem) size to sg i.0) g.0 g.1 tt
  stmt_valid_in (stmt.Store mem size src) i =
      store_at_valid (address_of site st mem) size (slot_size size) (stored_source size src) _ (source_register size src) (stored_good size _ (operand_good src)) (stored_slot size src i.0) (stored_none size src i.0)
  stmt_valid_in (stmt.Touch mem size true) i = store_at_valid (address_of site st mem) size 0 None Any tt (tt, tt) (inl (refl, refl)) (λ z. refl)
  stmt_valid_in (stmt.Touch mem size false) i = valid
  stmt_valid_in (stmt.Flags f) i = flags_valid f i
  stmt_valid_in (stmt.Flow f) i = valid

-- and so where it names the bounds of the site alone
pub stmt_valid : (site : Site) (laws : ValueLaws) (is : IsSite site) (st : Abstract) → IsForm site.bounds st → (x : Stmt) → IsLifted x → IsForm site.bounds (apply site x st)
stmt_valid site laws is st valid x lifted = stmt_valid_in site laws is site.bounds (own_bounds site.bounds is.bounds) st valid x lifted
