-- What the equations make of the form of a state is the form of a state.
use Rattle.std.proofs.Common.{◌≡◌, ℕ, ◌+◌, ◌-◌, ◌^◌, ◌<◌, ◌≤◌, ◌⊎◌, inl, inr, ◌==◌, refl, sym, ap, ◌∙◌, arith}
use Rattle.std.specs.Prelude.{List, [], ◌∷◌, Option, Some, None, Bool, true, false, if◌then◌else◌, ◌&&◌, nat_lt, ℤ, pos, negsuc, ◌+ℤ◌}
use Rattle.std.proofs.lemmas.Int.{ints}
use Rattle.std.proofs.lemmas.Bool.{false≢true, ltb-true}
use Rattle.vw_insn.specs.Listed.{IsWide}
use Rattle.vw_insn.specs.declared.registers.Reg.{Reg}
use Rattle.vw_insn.specs.declared.registers.Width.{Width}
use Rattle.vw_insn.specs.declared.operands.Base.{Base}
use Rattle.vw_insn.specs.declared.operands.Base.TheVariants as base
use Rattle.vw_insn.specs.Words.{number}
use Rattle.vw_stmt.specs.declared.operands.Var.{Var}
use Rattle.vw_stmt.specs.declared.operands.Var.TheVariants as var
use Rattle.vw_stmt.specs.declared.operands.Operand.{Operand}
use Rattle.vw_stmt.specs.declared.operands.Operand.TheVariants as operand
use Rattle.vw_stmt.specs.declared.operands.Compare.{Compare}
use Rattle.vw_stmt.specs.declared.statement.Stmt.{Stmt}
use Rattle.vw_stmt.specs.declared.statement.Stmt.TheVariants as stmt
use Rattle.vw_names.specs.declared.spot.Spot.{Spot as Place}
use Rattle.vw_names.specs.declared.spot.Spot.TheVariants.{Reg as Register, Flags as Compared, Slot}
use Rattle.vw_stack.specs.declared.offset.Offset.{Offset}
use Rattle.vw_stack.specs.declared.offset.Offset.TheVariants as offset
use Rattle.vw_values.specs.declared.value.Value.{Value}
use Rattle.vw_values.specs.declared.value.Value.TheVariants.{Any, Const, HeapBase, HeapAddr, Globals as GlobalsBase, Image as ImageAt, Index16, EntryPtr, EntryTyped}
use Rattle.vw_values.specs.declared.value.Via.{Via}
use Rattle.vw_values.specs.declared.value.Via.TheVariants.{At, Idx}
use Rattle.vw_values.specs.declared.extent.Extent.{Extent}
use Rattle.vw_values.specs.declared.extent.Extent.TheVariants.{Exactly, Under as UnderBound, Unbounded, Other}
use Rattle.vw_values.specs.Bounds.{first_from}
use Rattle.vw_values.specs.Sums.{extent_of, add}
use Rattle.vw_values.specs.Values.{IsValid, IsNumber, IsTag}
use Rattle.vw_domain.specs.declared.parts.Fact.{Fact}
use Rattle.vw_domain.specs.declared.parts.Fact.TheVariants as fact
use Rattle.vw_domain.specs.declared.refines.Comparison.TheVariants as comparison
use Rattle.vw_domain.specs.Registers.{IsWithin, OffsetFits}
use Rattle.vw_domain.specs.State.{IsFact, IsNarrow}
use Rattle.vw_domain.specs.Abstract.{Abstract}
use Rattle.vw_domain.specs.Changes.{refined_by, refine, write, mark, retag, tagged_by, call, is_register}
use Rattle.vw_domain.specs.Sites.{Site, IsSite}
use Rattle.vw_domain.specs.Operands.{index_of, operand_of, operand_place}
use Rattle.vw_domain.specs.Addresses.{Address, Frame, Heap, Globals, Image, Range, Entry, Unknown, value_of, in_entry, known_or, by_value, by_base, in_heap, in_globals, in_range, in_table, by_symbol, by_image, by_pair, by_parts, address_of}
use Rattle.vw_domain.specs.Memory.{load_source, stored_source, store_at}
use Rattle.vw_domain.specs.Statements.{apply, compared_with, flags_after}
use Rattle.vw_domain.specs.Branches.{Rule, IsLess, Is, rule_of, refiner, with_width, rule_at, tags_by, rule_number, edge_state}
use Rattle.vw_domain.specs.Calls.{deeper}
use Rattle.vw_domain.specs.FormRanges.{IsForm, SlotFits, IsStateForm}
use Rattle.vw_domain.specs.FormLaws
use Rattle.vw_domain.specs.FormLaws.{IsDisplacement, HasDisplacement}
use Rattle.vw_domain.specs.Stands.{width_of}
use Rattle.vw_domain.proofs.ValueLaws.{ValueLaws}
use Rattle.vw_domain.proofs.Branches.{RuleFits}
use Rattle.vw_domain.proofs.Edges.{wide_of, fits_of, fact_fits}
use Rattle.vw_domain.proofs.EveryValid.{stmt_valid_in}
use Rattle.vw_domain.proofs.Lists.{finish_valid}
use Rattle.vw_domain.proofs.MoreBounds.{own_bounds}
use Rattle.vw_domain.proofs.RefineLemmas.{Refining, refining, refined_keeps}
use Rattle.vw_domain.proofs.StateForms.{IsInside, write_form, set_flags_form, lose_form, store_form, call_form, deeper_low}
use Rattle.vw_domain.proofs.Valid.{call_valid}
use Rattle.vw_domain.proofs.WriteLaws.{below_16}

-- ---- addresses

-- a place in the frame is near its start
abbrev IsNear : Address → Type 0
IsNear (Frame c) = IsWithin (2 ^ 32) c
IsNear (Heap l h) = Unit {0}
IsNear (Globals l h) = Unit {0}
IsNear (Image a) = Unit {0}
IsNear (Range a s k) = Unit {0}
IsNear (Entry t tag d via) = Unit {0}
IsNear Unknown = Unit {0}

abbrev IsNearWhere : Option Address → Type 0
IsNearWhere None = Unit {0}
IsNearWhere (Some a) = IsNear a

near_or : (a b : Option Address) → IsNearWhere a → IsNearWhere b → IsNear (known_or a b)
near_or (Some a) b f g = f
near_or None (Some b) f g = g
near_or None None f g = tt

near_entry : (t : ℕ) (tag : Option ℕ) (d : ℤ) (via : Via) → IsNearWhere (in_entry t tag d via)
near_entry t tag (pos d) via = tt
near_entry t tag (negsuc d) via = tt

near_value : (r : ℕ) (v : Value) (d : ℤ) → IsNearWhere (by_value r v d)
near_value r (EntryPtr t) d = near_entry t None d (At r)
near_value r (EntryTyped t g) d = near_entry t (Some g) d (At r)
near_value r v d = tt

near_sum : (c d : ℤ) → IsWithin (2 ^ 31) c → IsDisplacement d → IsWithin (2 ^ 32) (c +ℤ d)
near_sum c d near small = let a = near.0 in let b = near.1 in let e = small.0 in let f = small.1 in (omega (arith, ints), omega (arith, ints))

near_base : (r : ℕ) (o : Offset) (v : Value) (d : ℤ) → OffsetFits o v → IsDisplacement d → IsNear (by_base r o v d)
near_base r (offset.Known c) v d fits small = near_sum c d fits.0 small
near_base r offset.Unknown v d fits small = near_or (by_value r v d) None (near_value r v d) tt

near_heap : (z : Option (ℤ × ℤ)) (d more : ℤ) → IsNearWhere (in_heap z d more)
near_heap None d more = tt
near_heap (Some z) d more = tt

near_globals : (z : Option (ℤ × ℤ)) (d : ℤ) → IsNearWhere (in_globals z d)
near_globals None d = tt
near_globals (Some z) d = tt

near_range : (a s : ℕ) (k : Option ℕ) → IsNearWhere (in_range a s k)
near_range a s None = tt
near_range a s (Some k) = tt

near_table : (v : Value) (d : ℤ) (via : Via) → IsNearWhere (in_table v d via)
near_table (EntryPtr t) d via = near_entry t None d via
near_table (EntryTyped t g) d via = near_entry t (Some g) d via
near_table v d via = tt

module _ (site : Site) where
  near_symbol : (a i : ℕ) (v : Value) (s : ℕ) (d : ℤ) → IsNearWhere (by_symbol site a i v s d)
  near_symbol a i (Index16 k m) s d = by_test (s == 1)
    where
      by_test : (b : Bool) → IsNearWhere (if b then in_table (add (ImageAt a) (Index16 k m) site.tables) d (Idx i) else None)
      by_test true = near_table (add (ImageAt a) (Index16 k m) site.tables) d (Idx i)
      by_test false = tt
  near_symbol a i v s d = tt

  near_image : (a i : ℕ) (e : Extent) (s : ℕ) (d : ℤ) → IsNearWhere (by_image site a i e s d)
  near_image a i (Exactly c) s d = near_range _ s (first_from (c + 1) site.bounds)
  near_image a i (UnderBound k) s d = tt
  near_image a i Unbounded s d = tt
  near_image a i (Other v) s d = near_symbol a i v s d

  near_pair : (v : Value) (i : ℕ) (y : Value) (s : ℕ) (d : ℤ) → IsNearWhere (by_pair site v i y s d)
  near_pair HeapBase i y s d = near_heap _ d (pos 0)
  near_pair HeapAddr i y s d = near_heap _ d (pos (2 ^ 32 - 1))
  near_pair GlobalsBase i y s d = near_globals _ d
  near_pair (ImageAt a) i y s d = near_image a i (extent_of y) s d
  near_pair v i y s d = tt

  near_address : (bounds : List ℕ) (st : Abstract) → IsForm bounds st → (b : Base) (index : Option (Reg × ℕ)) (d : ℤ) → IsDisplacement d → IsNear (by_parts site st b index d)
  near_address bounds st form base.Rip index d small = tt
  near_address bounds st form base.None None d small = tt
  near_address bounds st form base.None (Some (i, s)) d small = by_scale (s == 1)
    where
      by_scale : (q : Bool) → IsNear (if q then by_base (number i) (st.offsets (number i)) (value_of st (number i)) d else Unknown)
      by_scale true = near_base (number i) (st.offsets (number i)) (value_of st (number i)) d (form.offsets (number i)) small
      by_scale false = tt
  near_address bounds st form (base.Reg r) None d small = near_base (number r) (st.offsets (number r)) (value_of st (number r)) d (form.offsets (number r)) small
  near_address bounds st form (base.Reg r) (Some (i, s)) d small = by_scale (s == 1)
    where
      first : (s : ℕ) (d : ℤ) → IsNearWhere (by_pair site (value_of st (number r)) (number i) (value_of st (number i)) s d)
      first s d = near_pair (value_of st (number r)) (number i) (value_of st (number i)) s d

      by_scale : (q : Bool) → IsNear (known_or (by_pair site (value_of st (number r)) (number i) (value_of st (number i)) s d) (if q then by_pair site (value_of st (number i)) (number r) (value_of st (number r)) 1 d else None))
      by_scale true = near_or _ _ (first s d) (near_pair (value_of st (number i)) (number r) (value_of st (number r)) 1 d)
      by_scale false = near_or _ None (first s d) tt

-- ---- statements

low_index : (v : Var) → index_of v < 17
low_index (var.Reg r) = let less = below_16 r in omega arith
low_index var.Tmp = omega arith

module _ (site : Site) (members : List ℕ) (st : Abstract) (valid : IsStateForm members st) where
  abbrev Kept : Abstract → Type 0
  Kept after = IsForm members after → IsStateForm members after

  abbrev Inside : Option Place → Type 0
  Inside p = IsInside members st valid p

  load_inside : (a : Address) (size : ℕ) (signed : Bool) → Inside (load_source st a size signed)
  load_inside (Frame c) size signed = by_test _
    where
      by_test : (b : Bool) → Inside (if b then Some (Slot c) else None)
      by_test true = tt
      by_test false = tt
  load_inside a size signed = tt

  operand_inside : (b : Operand) → Inside (operand_place b)
  operand_inside (operand.Var v) = low_index v
  operand_inside (operand.Imm i) = tt

  source_inside : (size : ℕ) (b : Operand) → Inside (stored_source size b)
  source_inside size b = by_test (size == 8)
    where
      by_test : (x : Bool) → Inside (if x then operand_place b else None)
      by_test true = operand_inside b
      by_test false = tt

  copy_inside : (src : Var) (b : Bool) → Inside (if b then None else Some (Register (index_of src)))
  copy_inside src true = tt
  copy_inside src false = low_index src

  kept_store : (a : Address) (n size : ℕ) (src : Option Place) (v : Value) → IsNear a → Inside src → Kept (store_at st a n size src v)
  kept_store (Frame c) n size src v near inside = store_form members st valid c n size src v near inside
  kept_store Unknown n size src v near inside = lose_form members st valid
  kept_store a n size src v near inside = λ form. valid

  kept_compared : (w : Width) (a : ℕ) (y : Value) → a < 17 → Kept (compared_with st w a y)
  kept_compared w a (Const c) low = set_flags_form members st valid (Some (Register a)) _ low
  kept_compared w a y low = set_flags_form members st valid None fact.Unknown tt

  kept_flags : (f : Option Compare) → Kept (flags_after st f)
  kept_flags None = set_flags_form members st valid None fact.Unknown tt
  kept_flags (Some c) = kept_compared c.w (index_of c.a) (operand_of st c.b) (low_index c.a)

  kept_write : (dst : Var) (src : Option Place) (v : Value) (o : Offset) → Inside src → Kept (write st (index_of dst) src v o)
  kept_write dst src v o inside = write_form members st valid (index_of dst) src v o (low_index dst) inside

  kept : (x : Stmt) → HasDisplacement x → Kept (apply site x st)
  kept (stmt.Set dst c) d = kept_write dst None _ _ tt
  kept (stmt.Copy dst src) d = kept_write dst _ _ _ (copy_inside src (index_of src == index_of dst))
  kept (stmt.Narrow dst src from to sg) d = kept_write dst None _ _ tt
  kept (stmt.Sum dst a b minus) d = kept_write dst None _ _ tt
  kept (stmt.Lea dst mem) d = kept_write dst None _ _ tt
  kept (stmt.And dst w a b) d = kept_write dst None _ _ tt
  kept (stmt.Shl dst) d = kept_write dst None _ _ tt
  kept (stmt.Open dst w) d = kept_write dst None _ _ tt
  kept (stmt.Choose dst w a b) d = kept_write dst None _ _ tt
  kept (stmt.Load dst size to sg mem) d = kept_write dst _ _ _ (load_inside (address_of site st mem) size sg)
  kept (stmt.Store mem size src) d = kept_store (address_of site st mem) size _ _ _ (near_address site members st valid.form mem.base mem.index mem.disp d) (source_inside size src)
  kept (stmt.Touch mem size true) d = kept_store (address_of site st mem) size _ _ _ (near_address site members st valid.form mem.base mem.index mem.disp d) tt
  kept (stmt.Touch mem size false) d = λ form. valid
  kept (stmt.Flags f) d = kept_flags f
  kept (stmt.Flow f) d = λ form. valid

pub statements_keep : ValueLaws → FormLaws.StatementsKeepStateForms
statements_keep laws site members st x is holds valid lifted d = kept site members st valid x d (stmt_valid_in site laws is members holds st valid.form x lifted)

pub lists_keep : ValueLaws → FormLaws.ListsKeepStateForms
lists_keep laws site st [] is valid lifted d = valid
lists_keep laws site st (x ∷ rest) is valid lifted d = lists_keep laws site (apply site x st) rest is (statements_keep laws site site.bounds st x is (own_bounds site.bounds is.bounds) valid lifted.0 d.0) lifted.1 d.1

pub ends_keep : ValueLaws → FormLaws.EndsKeepStateForms
ends_keep laws site st is valid = write_form site.bounds st valid 16 None Any offset.Unknown (omega arith) tt (finish_valid site laws is st valid.form)

-- ---- calls

pub calls_keep : FormLaws.CallsKeepStateForms
calls_keep bounds st kept valid = call_form bounds st valid kept (st.offsets 4) (st.values (Register 4)) (valid.form.offsets 4) (call_valid bounds st kept (st.offsets 4) valid.form)

with_depth : (bounds : List ℕ) (st : Abstract) (n : ℕ) → n ≤ 2 ^ 32 → IsStateForm bounds st → IsStateForm bounds (record st { probed = n })
with_depth bounds st n deep valid = record {
  form = record {
    values = valid.form.values;
    among = valid.form.among;
    offsets = valid.form.offsets;
    slots = valid.form.slots;
    fact = valid.form.fact;
    written = valid.form.written;
    itself = valid.form.itself;
    alone_left = valid.form.alone_left;
    alone_right = valid.form.alone_right;
  };
  probed = deep;
  frame = valid.frame;
  slots = valid.slots;
  compared = valid.compared;
  registers = λ r far. record { offset = (valid.registers r far).offset; value = (valid.registers r far).value; alone = (valid.registers r far).alone };
  symmetric = valid.symmetric;
  transitive = valid.transitive;
}

pub probes_keep : FormLaws.ProbesKeepStateForms
probes_keep bounds st valid =
    with_depth bounds (call st is_register (st.offsets 4)) (deeper (value_of st 0) (st.offsets 4) st.probed)
    (deeper_low (value_of st 0) (st.offsets 4) (st.values (Register 4)) st.probed (valid.form.offsets 4) valid.probed)
    (calls_keep bounds st is_register valid)

-- ---- edges

some_same : (v w : Value) → Some v ≡ Some w → v ≡ w
some_same v w same = cc

module _ (bounds : List ℕ) (st : Abstract) (valid : IsStateForm bounds st) where
  -- the values become others in their ranges
  with_values : (values : Place → Value)
      → ((p : Place) → IsValid bounds (st.values p) → IsValid bounds (values p))
      → ((p : Place) → st.values p ≡ Any → values p ≡ Any)
      → ((p : Place) → IsNumber (st.values p) → IsNumber (values p))
      → ((p : Place) → IsNarrow (st.values p) → IsNarrow (values p))
      → IsStateForm bounds (record st { values = values })
  with_values values in_range any numbers narrow = record {
    form = record {
      values = λ p. (in_range p (valid.form.values p, valid.form.among p)).0;
      among = λ p. (in_range p (valid.form.values p, valid.form.among p)).1;
      offsets = λ r. beside (st.offsets r) r (valid.form.offsets r);
      slots = λ o. slot (st.sizes o) o (valid.form.slots o);
      fact = valid.form.fact;
      written = valid.form.written;
      itself = valid.form.itself;
      alone_left = valid.form.alone_left;
      alone_right = valid.form.alone_right;
    };
    probed = valid.probed;
    frame = valid.frame;
    slots = valid.slots;
    compared = any Compared valid.compared;
    registers = λ r far. record { offset = (valid.registers r far).offset; value = any (Register r) (valid.registers r far).value; alone = (valid.registers r far).alone };
    symmetric = valid.symmetric;
    transitive = valid.transitive;
  }
    where
      beside : (o : Offset) (r : ℕ) → OffsetFits o (st.values (Register r)) → OffsetFits o (values (Register r))
      beside offset.Unknown r fits = tt
      beside (offset.Known c) r fits = (fits.0, plain fits.1)
        where
          plain : (st.values (Register r) ≡ Any) ⊎ IsNumber (st.values (Register r)) → (values (Register r) ≡ Any) ⊎ IsNumber (values (Register r))
          plain (inl e) = inl (any (Register r) e)
          plain (inr n) = inr (numbers (Register r) n)

      slot : (size : ℕ) (o : ℤ) → SlotFits size (st.values (Slot o)) → SlotFits size (values (Slot o))
      slot size o (inl k) = inl (k.0, any (Slot o) k.1)
      slot size o (inr (inl k)) = inr (inl k)
      slot size o (inr (inr k)) = inr (inr (k.0, narrow (Slot o) k.1))

  refine_form : (f : Value → Option Value) → Refining bounds f → IsStateForm bounds (refine st f)
  refine_form f keeps = with_values (λ p. refined_by (st.same Compared p) f (st.values p))
      (λ p v. refined_keeps (λ (x : Value). IsValid bounds x) (st.same Compared p) f (st.values p) v (λ u found. keeps.valid (st.values p) u v found))
      (λ p e. refined_keeps (λ (x : Value). x ≡ Any) (st.same Compared p) f (st.values p) e (λ u found. some_same u Any (sym found ∙ ap f e ∙ keeps.any)))
      (λ p n. refined_keeps (λ (x : Value). IsNumber x) (st.same Compared p) f (st.values p) n (λ u found. keeps.numbers (st.values p) u (here p) n found))
      (λ p n. refined_keeps (λ (x : Value). IsNarrow x) (st.same Compared p) f (st.values p) n (λ u found. keeps.narrow (st.values p) u (here p) n found))
    where
      here : (p : Place) → IsValid bounds (st.values p)
      here p = (valid.form.values p, valid.form.among p)

  mark_valid : (k : ℕ) (tagged : ℕ → Bool) → ((t : ℕ) → tagged t ≡ true → IsTag k) → (v : Value) → IsValid bounds v → IsValid bounds (mark k tagged v)
  mark_valid k tagged tags (Index16 j m) i = by_test (tagged 0) refl
    where
      by_test : (b : Bool) → tagged 0 ≡ b → IsValid bounds (if b then Index16 j (Some (0, k)) else Index16 j m)
      by_test true e = ((i.0.0, (refl, tags 0 e)), i.1)
      by_test false e = i
  mark_valid k tagged tags (EntryPtr t) i = by_test (tagged t) refl
    where
      by_test : (b : Bool) → tagged t ≡ b → IsValid bounds (if b then EntryTyped t k else EntryPtr t)
      by_test true e = ((i.0, tags t e), tt)
      by_test false e = i
  mark_valid k tagged tags (EntryTyped t g) i = by_test (tagged t) refl
    where
      by_test : (b : Bool) → tagged t ≡ b → IsValid bounds (if b then EntryTyped t k else EntryTyped t g)
      by_test true e = ((i.0.0, tags t e), tt)
      by_test false e = i
  mark_valid k tagged tags v i = i

  mark_number : (k : ℕ) (tagged : ℕ → Bool) (v : Value) → IsNumber v → IsNumber (mark k tagged v)
  mark_number k tagged (Index16 j m) n = absurd n
  mark_number k tagged (EntryPtr t) n = absurd n
  mark_number k tagged (EntryTyped t g) n = absurd n
  mark_number k tagged v n = n

  mark_narrow : (k : ℕ) (tagged : ℕ → Bool) (v : Value) → IsNarrow v → IsNarrow (mark k tagged v)
  mark_narrow k tagged (Index16 j m) n = absurd n
  mark_narrow k tagged (EntryPtr t) n = absurd n
  mark_narrow k tagged (EntryTyped t g) n = absurd n
  mark_narrow k tagged v n = n

  retag_form : (k : ℕ) (tagged : Place → ℕ → Bool) → ((p : Place) (t : ℕ) → tagged p t ≡ true → IsTag k) → IsStateForm bounds (retag st k tagged)
  retag_form k tagged tags = with_values (λ p. mark k (tagged p) (st.values p))
      (λ p v. mark_valid k (tagged p) (tags p) (st.values p) v)
      (λ p e. ap (mark k (tagged p)) e)
      (λ p n. mark_number k (tagged p) (st.values p) n)
      (λ p n. mark_narrow k (tagged p) (st.values p) n)

refiner_keeps : ValueLaws → (site : Site) → IsSite site → (w : Width) (rule : Rule) → IsWide w → RuleFits rule → Refining site.bounds (refiner site w rule)
refiner_keeps laws site is w (IsLess k) wide fits =
    let keeps = refining laws.below_rises laws.equal_rises site.bounds is.bounds site.bounds (own_bounds site.bounds is.bounds) (comparison.Below w k) wide in
    record { any = keeps.any; valid = keeps.valid; numbers = keeps.numbers; narrow = keeps.narrow }
refiner_keeps laws site is w (Is k) wide fits =
    let keeps = refining laws.below_rises laws.equal_rises site.bounds is.bounds site.bounds (own_bounds site.bounds is.bounds) (comparison.Equal w k) (wide, fits) in
    record { any = keeps.any; valid = keeps.valid; numbers = keeps.numbers; narrow = keeps.narrow }

tags_small : (st : Abstract) (rule : Rule) (places : List Place) (p : Place) (t : ℕ) → tags_by st rule places p t ≡ true → IsTag (rule_number rule)
tags_small st (IsLess k) places p t e = absurd (false≢true e)
tags_small st (Is k) places p t e = by_test (nat_lt k (2 ^ 32 - 1)) refl (tagged_by st places p t) e
  where
    by_test : (b : Bool) → nat_lt k (2 ^ 32 - 1) ≡ b → (x : Bool) → (b && x) ≡ true → IsTag k
    by_test true small x e = ltb-true k (2 ^ 32 - 1) small
    by_test false small x e = absurd (false≢true e)

pub edges_keep : ValueLaws → FormLaws.EdgesKeepStateForms
edges_keep laws site st places cond taken is valid = by_fact st.fact valid.form.fact
  where
    by_rule : (w : Width) (o : Option Rule) → IsWide w → ((rule : Rule) → o ≡ Some rule → RuleFits rule) → IsStateForm site.bounds (edge_state site places st (with_width w o))
    by_rule w None wide fits = valid
    by_rule w (Some rule) wide fits =
        retag_form site.bounds (refine st (refiner site w rule)) (refine_form site.bounds st valid (refiner site w rule) (refiner_keeps laws site is w rule wide (fits rule refl)))
        (rule_number rule) (tags_by st rule places) (tags_small st rule places)

    by_fact : (f : Fact) → IsFact f → IsStateForm site.bounds (edge_state site places st (rule_at cond taken f))
    by_fact fact.Unknown i = valid
    by_fact (fact.Compare w k) i = by_rule (width_of w) (rule_of cond taken k) (wide_of w) (λ rule e. fits_of cond taken k rule (fact_fits w k i).1 e)
