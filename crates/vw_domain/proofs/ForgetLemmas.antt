-- Values that are left where registers are written.
use Rattle.std.proofs.Common.{◌≡◌, ℕ, ◌^◌, ◌≤◌, ◌⊎◌, List, length, refl, sym, ap, subst, ◌∙◌, arith, Some, None, inl, inr, Bool, true, false, is_some}
use Rattle.std.proofs.lemmas.Int.{ints}
use Rattle.std.specs.Prelude.{ℤ, pos, negsuc, ◌-ℤ◌, ◌≤ℤ◌, Option, if◌then◌else◌}
use Rattle.std.specs.Option.{option_map}
use Rattle.vw_lattice.specs.Entries.{IsAscending, value_at, HasKey}
use Rattle.vw_names.specs.Spot.{slot_number}
use Rattle.vw_values.specs.declared.value.Value.{Value}
use Rattle.vw_values.specs.declared.value.Value.TheVariants.{Any, Num, Const, Below, Low, Both, HeapBase, HeapAddr, Globals, Entry, Image, Index16, EntryPtr, EntryTyped, TagOf, TableFn, JumpOff, JumpDest}
use Rattle.vw_values.specs.Values.{IsValue, IsAmong, IsNumber}
use Rattle.vw_values.specs.Stands.{register_of}
use Rattle.vw_stack.specs.declared.offset.Offset.{Offset}
use Rattle.vw_stack.specs.declared.offset.Offset.TheVariants as offset
use Rattle.vw_domain.specs.declared.gone.Gone.{Gone}
use Rattle.vw_domain.specs.declared.registers.Register as row
use Rattle.vw_domain.specs.Registers.{OffsetFits, IsRegister}
use Rattle.vw_domain.specs.State.{wide_key, narrow_key, IsNarrow, AreSlots, AreSlotsAmong}
use Rattle.vw_domain.specs.Abstract.{slot_key, slot_size, value_or_any}
use Rattle.vw_domain.specs.Changes.{forget}
use Rattle.vw_domain.specs.Writes.{is_gone, forgotten_register, ForgetsSlots}
use Rattle.vw_domain.proofs.Updates.{updated, updated_ascending, updated_values}

either : (b : Bool) (x y : Value) → ((if b then x else y) ≡ y) ⊎ ((if b then x else y) ≡ x)
either true x y = inr refl
either false x y = inl refl

-- a value stays or becomes Any
pub forget_cases : (gone : ℕ → Bool) (v : Value) → (forget gone v ≡ v) ⊎ (forget gone v ≡ Any)
forget_cases gone Any = inl refl
forget_cases gone Num = inl refl
forget_cases gone (Const c) = inl refl
forget_cases gone (Below k) = inl refl
forget_cases gone (Low k) = inl refl
forget_cases gone (Both k) = inl refl
forget_cases gone HeapBase = inl refl
forget_cases gone HeapAddr = inl refl
forget_cases gone Globals = inl refl
forget_cases gone (Entry r) = inl refl
forget_cases gone (Image a) = inl refl
forget_cases gone (Index16 k mark) = inl refl
forget_cases gone (EntryPtr t) = inl refl
forget_cases gone (EntryTyped t g) = inl refl
forget_cases gone (TagOf t via) = either (gone (register_of via)) Any (TagOf t via)
forget_cases gone (TableFn t g) = inl refl
forget_cases gone (JumpOff a k) = inl refl
forget_cases gone (JumpDest a k) = inl refl

pub forget_keeps : (P : Value → Type 0) (gone : ℕ → Bool) (v : Value) → P Any → P v → P (forget gone v)
forget_keeps P gone v any holds = elim (forget_cases gone v) [
  | inl same ↦ subst P (sym same) holds
  | inr is ↦ subst P (sym is) any
]

narrow_stays : (gone : ℕ → Bool) (v : Value) → IsNarrow v → forget gone v ≡ v
narrow_stays gone (Const c) n = refl
narrow_stays gone (Below k) n = refl
narrow_stays gone Any n = absurd n
narrow_stays gone Num n = absurd n
narrow_stays gone (Low k) n = absurd n
narrow_stays gone (Both k) n = absurd n
narrow_stays gone HeapBase n = absurd n
narrow_stays gone HeapAddr n = absurd n
narrow_stays gone Globals n = absurd n
narrow_stays gone (Entry r) n = absurd n
narrow_stays gone (Image a) n = absurd n
narrow_stays gone (Index16 k mark) n = absurd n
narrow_stays gone (EntryPtr t) n = absurd n
narrow_stays gone (EntryTyped t g) n = absurd n
narrow_stays gone (TagOf t via) n = absurd n
narrow_stays gone (TableFn t g) n = absurd n
narrow_stays gone (JumpOff a k) n = absurd n
narrow_stays gone (JumpDest a k) n = absurd n

fits_left : (o : Offset) (gone : ℕ → Bool) (v : Value) → OffsetFits o v → OffsetFits o (forget gone v)
fits_left offset.Unknown gone v fits = tt
fits_left (offset.Known c) gone v fits = (fits.0, forget_keeps (λ (u : Value). (u ≡ Any) ⊎ IsNumber u) gone v (inl refl) fits.1)

pub register_left : (gone : Gone) (r : row.Register) → IsRegister r → IsRegister (forgotten_register gone r)
register_left gone r is = record {
  value = forget_keeps (λ (v : Value). IsValue v) (is_gone gone) r.value tt is.value;
  offset = fits_left r.offset (is_gone gone) r.value is.offset;
}

-- ---- slots

pub mapped_some : (f : Value → Value) (x : Option Value) → is_some (option_map f x) ≡ is_some x
mapped_some f None = refl
mapped_some f (Some v) = refl

pub mapped_or : (f : Value → Value) (x : Option Value) → f Any ≡ Any → value_or_any (option_map f x) ≡ f (value_or_any x)
mapped_or f None any = sym any
mapped_or f (Some v) any = refl

pub unmapped : (f : Value → Value) (x : Option Value) (w : Value) → option_map f x ≡ Some w → (v : Value) × (x ≡ Some v) × (f v ≡ w)
unmapped f None w found = absurd (cc)
unmapped f (Some v) w found = (v, refl, cc)

-- the number of a slot's key is above those of registers and of the flags
pub slot_above : (key : ℤ) → (pos 0 -ℤ pos (2 ^ 33)) ≤ℤ key → 257 ≤ slot_number key
slot_above (pos n) within = omega arith
slot_above (negsuc n) within = omega (arith, ints)

module _ (gone : Gone) (old new : List (ℤ × Value)) (forgets : ForgetsSlots gone old new) where
  pub left_some : (key : ℤ) → is_some (value_at new key) ≡ is_some (value_at old key)
  left_some key = ap is_some (forgets.values key) ∙ mapped_some (forget (is_gone gone)) (value_at old key)

  pub left_key : (o : ℤ) → slot_key new o ≡ slot_key old o
  left_key o = ap (λ (b : Bool). if b then narrow_key o else wide_key o) (left_some (narrow_key o))

  pub left_size : (o : ℤ) → slot_size new o ≡ slot_size old o
  left_size o =
      ap (λ (b : Bool). if b then 4 else (if is_some (value_at new (wide_key o)) then 8 else 0)) (left_some (narrow_key o))
      ∙ ap (λ (b : Bool). if is_some (value_at old (narrow_key o)) then 4 else (if b then 8 else 0)) (left_some (wide_key o))

  pub left_there : (o : ℤ) → is_some (value_at new (slot_key new o)) ≡ is_some (value_at old (slot_key old o))
  left_there o = ap (λ (k : ℤ). is_some (value_at new k)) (left_key o) ∙ left_some (slot_key old o)

  pub left_value : (o : ℤ) → value_or_any (value_at new (slot_key new o)) ≡ forget (is_gone gone) (value_or_any (value_at old (slot_key old o)))
  left_value o =
      ap (λ (k : ℤ). value_or_any (value_at new k)) (left_key o)
      ∙ ap value_or_any (forgets.values (slot_key old o))
      ∙ mapped_or (forget (is_gone gone)) (value_at old (slot_key old o)) refl

  pub left_has : (key : ℤ) → HasKey new key → HasKey old key
  left_has key has =
      let from = unmapped (forget (is_gone gone)) (value_at old key) has.0 (sym (forgets.values key) ∙ has.1) in
      (from.0, from.1)

  pub still_has : (key : ℤ) → HasKey old key → HasKey new key
  still_has key has = (forget (is_gone gone) has.0, forgets.values key ∙ ap (option_map (forget (is_gone gone))) has.1)

  pub slots_among_left : (b : List ℕ) → AreSlotsAmong b old → AreSlotsAmong b new
  slots_among_left b among key w found =
      let from = unmapped (forget (is_gone gone)) (value_at old key) w (sym (forgets.values key) ∙ found) in
      let P : Value → Type 0 = λ v. IsAmong b v in
      subst P from.2 (forget_keeps P (is_gone gone) from.0 tt (among key from.0 from.1))

  pub slots_left : AreSlots old → AreSlots new
  slots_left are = record {
    ascending = forgets.ascending;
    within = λ key has. are.within key (left_has key has);
    values = λ key w found.
        let from = unmapped (forget (is_gone gone)) (value_at old key) w (sym (forgets.values key) ∙ found) in
        let P : Value → Type 0 = λ v. IsValue v in
        subst P from.2 (forget_keeps P (is_gone gone) from.0 tt (are.values key from.0 from.1));
    narrow = λ o w found.
        let from = unmapped (forget (is_gone gone)) (value_at old (narrow_key o)) w (sym (forgets.values (narrow_key o)) ∙ found) in
        let P : Value → Type 0 = λ v. IsNarrow v in
        let n : IsNarrow from.0 = are.narrow o from.0 from.1 in
        subst P (sym (narrow_stays (is_gone gone) from.0 n) ∙ from.2) n;
    apart = λ o wide narrow. are.apart o (left_has (wide_key o) wide) (left_has (narrow_key o) narrow);
  }

-- where no register is written every value stays
pub forget_none : (v : Value) → forget (λ r. false) v ≡ v
forget_none Any = refl
forget_none Num = refl
forget_none (Const c) = refl
forget_none (Below k) = refl
forget_none (Low k) = refl
forget_none (Both k) = refl
forget_none HeapBase = refl
forget_none HeapAddr = refl
forget_none Globals = refl
forget_none (Entry r) = refl
forget_none (Image a) = refl
forget_none (Index16 k mark) = refl
forget_none (EntryPtr t) = refl
forget_none (EntryTyped t g) = refl
forget_none (TagOf t via) = refl
forget_none (TableFn t g) = refl
forget_none (JumpOff a k) = refl
forget_none (JumpDest a k) = refl

-- slots that are changed one by one, up to the last
pub forgets_slots : (gone : Gone) (old new : List (ℤ × Value)) (n : ℕ) → IsAscending old → length old ≤ n → new ≡ updated (λ key. forget (is_gone gone)) n old → ForgetsSlots gone old new
forgets_slots gone old new n ascends all is =
    let f : ℤ → Value → Value = λ key. forget (is_gone gone) in
    let P : List (ℤ × Value) → Type 0 = λ es. ForgetsSlots gone old es in
    subst P (sym is) (record {
      ascending = updated_ascending f n old ascends;
      values = λ key. updated_values f n old key all;
    })
