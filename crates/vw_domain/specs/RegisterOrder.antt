-- The laws of the order of registers.
use Rattle.std.specs.Prelude.{◌≡◌, ℕ, suc, ◌<◌, ◌≤◌, ◌⊎◌, ⊤, List, [], ◌∷◌, length, refl}
use Rattle.std.proofs.Common.{ap, ◌∙◌, arith, inl, inr, sym}
use Rattle.vw_lattice.specs.Order.{IsJoin}
use Rattle.vw_stack.specs.Stack.{offset_below}
use Rattle.vw_stack.specs.StackOrder.{offset_reflexive, offset_transitive, offset_antisymmetric, offset_falls, offset_strict}
use Rattle.vw_stack.specs.declared.offset.Offset.{Offset}
use Rattle.vw_stack.specs.declared.offset.Offset.TheVariants.{Known, Unknown}
use Rattle.vw_values.specs.declared.value.Value.{Value}
use Rattle.vw_values.specs.declared.value.Value.TheVariants.{Any, Num, Const, Below, Low, Both, HeapBase, HeapAddr, Globals, Entry, Image, Index16, EntryPtr, EntryTyped, TagOf, TableFn, JumpOff, JumpDest}
use Rattle.vw_values.specs.Values.{IsValid, IsNumber, value_below}
use Rattle.vw_values.specs.OrderLaws as laws
use Rattle.vw_domain.specs.declared.registers.Register.{Register}
use Rattle.vw_domain.specs.Registers.{OffsetFits, IsRegister, IsValidRegister, register_below, register_rank, register_at, row_below, row_rank, IsValidRow}

pub valid_value : (bounds : List ℕ) (r : Register) → IsValidRegister bounds r → IsValid bounds r.value
valid_value bounds r v = (v.register.value, v.among)

pub register_same : (x y : Register) → x.offset ≡ y.offset → x.value ≡ y.value → x ≡ y
register_same x y offset value =
    let with_offset : Offset → Register = λ o. record { offset = o; value = x.value } in
    let with_value : Value → Register = λ v. record { offset = y.offset; value = v } in
    ap with_offset offset ∙ ap with_value value

-- what is above Any is Any
pub above_any : (v : Value) → value_below Any v → v ≡ Any
above_any Any f = refl
above_any Num f = absurd f
above_any (Const c) f = absurd (cc)
above_any (Below k) f = absurd f
above_any (Low k) f = absurd f
above_any (Both k) f = absurd f
above_any HeapBase f = absurd (cc)
above_any HeapAddr f = absurd f
above_any Globals f = absurd (cc)
above_any (Entry r) f = absurd (cc)
above_any (Image a) f = absurd (cc)
above_any (Index16 k mark) f = absurd f
above_any (EntryPtr t) f = absurd f
above_any (EntryTyped t g) f = absurd (cc)
above_any (TagOf t via) f = absurd (cc)
above_any (TableFn t g) f = absurd (cc)
above_any (JumpOff a k) f = absurd f
above_any (JumpDest a k) f = absurd f

-- the join of numbers is a number, and that with Any is Any
pub plain_join : (bounds : List ℕ) (x y j : Value) → IsJoin value_below (IsValid bounds) x y j → (x ≡ Any) ⊎ IsNumber x → (y ≡ Any) ⊎ IsNumber y → (j ≡ Any) ⊎ IsNumber j
plain_join bounds x y j join (inl any) second = inl (above_any j (rw any at join.above_left))
plain_join bounds x y j join (inr number) (inl any) = inl (above_any j (rw any at join.above_right))
plain_join bounds x y j join (inr number) (inr other) = inr (join.least Num (tt, tt) number other)

-- a join keeps a distance that both have, and a number there
fits_join : (bounds : List ℕ) (a b o : Offset) (x y j : Value) → IsJoin value_below (IsValid bounds) x y j → offset_below a o → offset_below b o → OffsetFits a x → OffsetFits b y → OffsetFits o j
fits_join bounds a b Unknown x y j join f g first second = tt
fits_join bounds Unknown b (Known c) x y j join f g first second = absurd f
fits_join bounds (Known d) Unknown (Known c) x y j join f g first second = absurd g
fits_join bounds (Known d) (Known e) (Known c) x y j join f g first second =
    (rw (← f) first.0, plain_join bounds x y j join first.1 second.1)

pub register_join : (bounds : List ℕ) (x y j : Register) → IsRegister x → IsRegister y → IsJoin offset_below (λ offset. ⊤) x.offset y.offset j.offset → IsJoin value_below (IsValid bounds) x.value y.value j.value → IsJoin register_below (IsValidRegister bounds) x y j
register_join bounds x y j v w offset value = record {
  valid = record {
    register = record { value = value.valid.0; offset = fits_join bounds x.offset y.offset j.offset x.value y.value j.value value offset.above_left offset.above_right v.offset w.offset };
    among = value.valid.1;
  };
  above_left = record { offset = offset.above_left; value = value.above_left };
  above_right = record { offset = offset.above_right; value = value.above_right };
  least = λ bound u over_left over_right. record {
    offset = offset.least bound.offset tt over_left.offset over_right.offset;
    value = value.least bound.value (valid_value bounds bound u) over_left.value over_right.value;
  };
}

module _ (bounds : List ℕ) where
  pub register_reflexive : (x : Register) → IsValidRegister bounds x → register_below x x
  register_reflexive x v = record { offset = offset_reflexive x.offset; value = laws.reflexive bounds x.value (valid_value bounds x v) }

  pub register_transitive : (x y z : Register) → IsValidRegister bounds x → IsValidRegister bounds y → IsValidRegister bounds z → register_below x y → register_below y z → register_below x z
  register_transitive x y z u v w f g = record {
    offset = offset_transitive x.offset y.offset z.offset f.offset g.offset;
    value = laws.transitive bounds x.value y.value z.value (valid_value bounds x u) (valid_value bounds y v) (valid_value bounds z w) f.value g.value;
  }

  pub register_antisymmetric : (x y : Register) → IsValidRegister bounds x → IsValidRegister bounds y → register_below x y → register_below y x → x ≡ y
  register_antisymmetric x y v w f g = register_same x y (offset_antisymmetric x.offset y.offset f.offset g.offset) (laws.antisymmetric bounds x.value y.value (valid_value bounds x v) (valid_value bounds y w) f.value g.value)

  pub register_falls : (x y : Register) → IsValidRegister bounds x → IsValidRegister bounds y → register_below x y → register_rank bounds y ≤ register_rank bounds x
  register_falls x y v w f =
      let offset = offset_falls x.offset y.offset f.offset in
      let value = laws.rank_falls bounds x.value y.value (valid_value bounds x v) (valid_value bounds y w) f.value in
      omega arith

  pub register_strict : (x y : Register) → IsValidRegister bounds x → IsValidRegister bounds y → register_below x y → register_rank bounds x ≡ register_rank bounds y → x ≡ y
  register_strict x y v w f same =
      let offset = offset_falls x.offset y.offset f.offset in
      let value = laws.rank_falls bounds x.value y.value (valid_value bounds x v) (valid_value bounds y w) f.value in
      register_same x y (offset_strict x.offset y.offset f.offset (omega arith)) (laws.rank_strict bounds x.value y.value (valid_value bounds x v) (valid_value bounds y w) f.value (omega arith))

  -- ---- rows

  -- each register of the first list is valid
  abbrev pub AreValid : List Register → Type 0
  AreValid row = (r : ℕ) → r < length row → IsValidRegister bounds (register_at row r)

  abbrev pub Ranked : List Register → List Register → Type 0
  Ranked low high = (row_rank bounds high ≤ row_rank bounds low) × (row_rank bounds low ≡ row_rank bounds high → low ≡ high)

  cons_same : (x y : Register) (xs ys : List Register) → x ≡ y → xs ≡ ys → x ∷ xs ≡ y ∷ ys
  cons_same x y xs ys first rest = cc

  pub ranked : (low high : List Register) → length low ≡ length high → AreValid low → AreValid high → ((r : ℕ) → r < length low → register_below (register_at low r) (register_at high r)) → Ranked low high
  ranked [] [] same v w f = (omega arith, λ ranks. refl)
  ranked [] (y ∷ ys) same v w f = absurd (omega arith)
  ranked (x ∷ xs) [] same v w f = absurd (omega arith)
  ranked (x ∷ xs) (y ∷ ys) same v w f =
      let valid_x : IsValidRegister bounds x = v 0 (omega arith) in
      let valid_y : IsValidRegister bounds y = w 0 (omega arith) in
      let below : register_below x y = f 0 (omega arith) in
      let head = register_falls x y valid_x valid_y below in
      let rest : Ranked xs ys = ranked xs ys (omega arith) (λ r h. v (suc r) (omega arith)) (λ r h. w (suc r) (omega arith)) (λ r h. f (suc r) (omega arith)) in
      let fewer = rest.0 in
      (omega arith, λ ranks. cons_same x y xs ys (register_strict x y valid_x valid_y below (omega arith)) (rest.1 (omega arith)))

  pub row_ranked : (low high : List Register) → length low ≡ 17 → length high ≡ 17 → IsValidRow bounds low → IsValidRow bounds high → row_below low high → Ranked low high
  row_ranked low high a b v w f = ranked low high (a ∙ sym b) (λ r h. v r) (λ r h. w r) (λ r h. f r)

  pub row_antisymmetric : (x y : List Register) → length x ≡ 17 → length y ≡ 17 → IsValidRow bounds x → IsValidRow bounds y → row_below x y → row_below y x → x ≡ y
  row_antisymmetric x y a b v w f g =
      let over = row_ranked x y a b v w f in
      let under = row_ranked y x b a w v g in
      let first = over.0 in
      let second = under.0 in
      over.1 (omega arith)
