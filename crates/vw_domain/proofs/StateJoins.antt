-- The join of two states, part by part, is a state, and of two valid ones their least valid upper bound.
use Rattle.std.proofs.Common.{◌≡◌, ℕ, ◌^◌, List, [], ◌∷◌, refl, sym, subst, ◌∙◌, arith, Some, None, inl, inr, ap, Bool, true, false, IsTrue}
use Rattle.std.specs.Prelude.{ℤ, ◌↔◌, ◌||◌}
use Rattle.vw_lattice.specs.Order.{IsJoin, IsLeast, TellsChange}
use Rattle.vw_lattice.specs.Entries.{value_at, HasKey, IsValidMap, map_below}
use Rattle.vw_lattice.specs.EntryOrder.{value_at_here, value_at_there, same_or_not}
use Rattle.vw_names.specs.Division.{IsRefinement}
use Rattle.vw_values.specs.declared.value.Value.{Value}
use Rattle.vw_values.specs.declared.value.Value.TheVariants.{Any, Num, Const, Below, Low, Both, HeapBase, HeapAddr, Globals, Entry, Image, Index16, EntryPtr, EntryTyped, TagOf, TableFn, JumpOff, JumpDest}
use Rattle.vw_values.specs.Bounds.{IsBounds}
use Rattle.vw_values.specs.Values.{IsValue, IsValid, value_below}
use Rattle.vw_domain.specs.declared.parts.Fact.{Fact}
use Rattle.vw_domain.specs.declared.parts.Fact.TheVariants.{Unknown, Compare}
use Rattle.vw_domain.specs.declared.parts.Parts.{Parts}
use Rattle.vw_domain.specs.Registers.{IsValidRegister, register_below, register_at, IsRowAmong}
use Rattle.vw_domain.specs.State.{fact_below, IsFact, narrow_key, wide_key, IsNarrow, AreSlots, AreSlotsAmong, key_of, IsThere, IsNamed, IsState, Fits, IsValidState, state_below}
use Rattle.vw_domain.specs.StateOrder.{state_same, valid_row, valid_slots}
use Rattle.vw_domain.specs.StateJoin.{JoinsSlots, JoinsParts}

-- ---- slots of four bytes

-- the values of four bytes are those below Below 2^32
pub narrow_to : (v : Value) → IsNarrow v → value_below v (Below (2 ^ 32))
narrow_to (Const c) n = n
narrow_to (Below k) n = n
narrow_to Any n = n
narrow_to Num n = n
narrow_to (Low k) n = n
narrow_to (Both k) n = absurd n
narrow_to HeapBase n = n
narrow_to HeapAddr n = n
narrow_to Globals n = n
narrow_to (Entry r) n = n
narrow_to (Image a) n = n
narrow_to (Index16 k mark) n = n
narrow_to (EntryPtr t) n = n
narrow_to (EntryTyped t g) n = n
narrow_to (TagOf t via) n = n
narrow_to (TableFn t g) n = n
narrow_to (JumpOff a k) n = n
narrow_to (JumpDest a k) n = n

pub narrow_from : (v : Value) → value_below v (Below (2 ^ 32)) → IsNarrow v
narrow_from (Const c) n = n
narrow_from (Below k) n = n
narrow_from Any n = n
narrow_from Num n = n
narrow_from (Low k) n = n
narrow_from (Both k) n = absurd (omega arith)
narrow_from HeapBase n = n
narrow_from HeapAddr n = n
narrow_from Globals n = n
narrow_from (Entry r) n = n
narrow_from (Image a) n = n
narrow_from (Index16 k mark) n = n
narrow_from (EntryPtr t) n = n
narrow_from (EntryTyped t g) n = n
narrow_from (TagOf t via) n = n
narrow_from (TableFn t g) n = n
narrow_from (JumpOff a k) n = n
narrow_from (JumpDest a k) n = n

some_same : (v w : Value) → Some v ≡ Some w → v ≡ w
some_same v w same = cc

-- the map with one key, whose value is Below 2^32
abbrev one : ℤ → List (ℤ × Value)
one key = (key, Below (2 ^ 32)) ∷ []

one_value : (key other : ℤ) (v : Value) → value_at (one key) other ≡ Some v → (key ≡ other) × (v ≡ Below (2 ^ 32))
one_value key other v found =
    elim (same_or_not key other) [
      | inl same ↦ (same, some_same v (Below (2 ^ 32)) (sym found ∙ value_at_here (key, Below (2 ^ 32)) [] other same))
      | inr apart ↦
          let none : None ≡ Some v = sym (value_at_there (key, Below (2 ^ 32)) [] other apart) ∙ found in
          absurd (cc)
    ]

below_is_valid : (bounds : List ℕ) → IsBounds bounds → IsValid bounds (Below (2 ^ 32))
below_is_valid bounds are = ((omega arith, inl (omega arith)), are.powers 32 (omega arith))

one_is_valid : (bounds : List ℕ) (key : ℤ) → IsBounds bounds → IsValidMap (IsValid bounds) (one key)
one_is_valid bounds key are = record {
  ascending = λ i j d before within. absurd (omega arith);
  values = λ other v found.
      let P : Value → Type 0 = λ w. IsValid bounds w in
      subst P (sym (one_value key other v found).1) (below_is_valid bounds are);
}

-- a map with a narrow value at the key is below it
below_one : (slots : List (ℤ × Value)) (key : ℤ) (v : Value) → value_at slots key ≡ Some v → IsNarrow v → map_below value_below slots (one key)
below_one slots key v found narrow other greater at =
    let is = one_value key other greater at in
    let P : ℤ → Type 0 = λ k. value_at slots k ≡ Some v in
    let Q : Value → Type 0 = λ w. value_below v w in
    (v, subst P is.0 found, subst Q (sym is.1) (narrow_to v narrow))

at_one : (slots : List (ℤ × Value)) (key : ℤ) (v : Value) → map_below value_below slots (one key) → value_at slots key ≡ Some v → IsNarrow v
at_one slots key v below found =
    let lower = below key (Below (2 ^ 32)) (value_at_here (key, Below (2 ^ 32)) [] key refl) in
    let same : lower.0 ≡ v = some_same lower.0 v (sym lower.1 ∙ found) in
    let P : Value → Type 0 = λ w. IsNarrow w in
    subst P same (narrow_from lower.0 lower.2)

pub slots_join : (bounds : List ℕ) (x y j : List (ℤ × Value)) → IsBounds bounds → AreSlots x → AreSlots y → JoinsSlots bounds x y j → AreSlots j
slots_join bounds x y j are v w joins = record {
  ascending = joins.values.ascending;
  within = λ key has. v.within key ((joins.keys key).0 has).0;
  values = joins.values.values;
  narrow = λ o value found.
      let both = (joins.keys (narrow_key o)).0 (value, found) in
      at_one j (narrow_key o) value
      (joins.least (one (narrow_key o)) (one_is_valid bounds (narrow_key o) are)
      (below_one x (narrow_key o) both.0.0 both.0.1 (v.narrow o both.0.0 both.0.1))
      (below_one y (narrow_key o) both.1.0 both.1.1 (w.narrow o both.1.0 both.1.1)))
      found;
  apart = λ o wide narrow. v.apart o ((joins.keys (wide_key o)).0 wide).0 ((joins.keys (narrow_key o)).0 narrow).0;
}

-- ---- classes

-- a place that is there on both sides is there in the join
there_in_join : (x y j : List (ℤ × Value)) → ((key : ℤ) → HasKey j key ↔ (HasKey x key × HasKey y key)) → (a : ℕ) → IsThere x a → IsThere y a → IsThere j a
there_in_join x y j keys a (inl low) there = inl low
there_in_join x y j keys a (inr here) (inl low) = inl low
there_in_join x y j keys a (inr here) (inr there) = inr ((keys (key_of a)).1 (here, there))

named_join : (x y j : Parts) → ((key : ℤ) → HasKey j.slots key ↔ (HasKey x.slots key × HasKey y.slots key)) → IsRefinement x.classes y.classes j.classes → IsNamed x.slots x.classes → IsNamed y.slots y.classes → IsNamed j.slots j.classes
named_join x y j keys refines named_x named_y a b same apart =
    let both = (refines a b).0 same in
    there_in_join x.slots y.slots j.slots keys a (named_x a b both.0 apart) (named_y a b both.1 apart)

-- ---- states

fact_kept : (x j : Fact) → fact_below x j → IsFact x → IsFact j
fact_kept x Unknown f v = tt
fact_kept Unknown (Compare w k) f v = absurd f
fact_kept (Compare u i) (Compare w k) f v = rw (← f.0, ← f.1) v

module _ (bounds : List ℕ) (are : IsBounds bounds) (x y j : Parts) (v : IsState x) (w : IsState y) (joins : JoinsParts bounds x y j) where
  pub join_is_state : IsState j
  join_is_state = record {
    registers = record { seventeen = joins.registers.seventeen; registers = λ r. (joins.registers.joined r).register };
    probed = let low = v.probed in let same = joins.probed in omega arith;
    ranges = joins.written.valid;
    frame = λ o is. v.frame o ((joins.common o).0 is).0;
    slots = slots_join bounds x.slots y.slots j.slots are v.slots w.slots joins.slots;
    classes = joins.classes.valid;
    named = named_join x y j joins.slots.keys joins.refines v.named w.named;
    fact = fact_kept x.fact j.fact joins.fact.above_left v.fact;
  }

  -- what the join of a valid state and of any other is
  pub join_is_valid : IsValidState bounds x → IsValidState bounds j
  join_is_valid valid = record {
    state = join_is_state;
    fits = record {
      registers = λ r. ((joins.registers.joined r).kept (valid_row bounds x valid r)).among;
      slots = λ key value found. ((joins.slots.kept (valid_slots bounds x valid)).values key value found).1;
    };
  }

  pub join_is_least : IsLeast state_below (IsValidState bounds) x y j
  join_is_least = λ bound u over_left over_right. record {
    registers = λ r. (joins.registers.joined r).least _ (valid_row bounds bound u r) (over_left.registers r) (over_right.registers r);
    probed = let same = joins.probed in let first = over_left.probed in let second = over_right.probed in omega arith;
    written = joins.written.least bound.written u.state.ranges over_left.written over_right.written;
    slots = joins.slots.least bound.slots (valid_slots bounds bound u) over_left.slots over_right.slots;
    classes = joins.classes.least bound.classes u.state.classes over_left.classes over_right.classes;
    fact = joins.fact.least bound.fact tt over_left.fact over_right.fact;
  }

  pub parts_join : IsValidState bounds x → IsValidState bounds y → IsJoin state_below (IsValidState bounds) x y j
  parts_join valid valid_other =
      let row : (r : ℕ) → IsJoin register_below (IsValidRegister bounds) (register_at x.registers r) (register_at y.registers r) (register_at j.registers r) = λ r. (joins.registers.joined r).is_join (valid_row bounds x valid r) (valid_row bounds y valid_other r) in
      let slots = joins.slots.is_join (valid_slots bounds x valid) (valid_slots bounds y valid_other) in
      record {
        valid = join_is_valid valid;
        above_left = record {
          registers = λ r. (row r).above_left;
          probed = let same = joins.probed in omega arith;
          written = joins.written.above_left;
          slots = slots.above_left;
          classes = joins.classes.above_left;
          fact = joins.fact.above_left;
        };
        above_right = record {
          registers = λ r. (row r).above_right;
          probed = let same = joins.probed in omega arith;
          written = joins.written.above_right;
          slots = slots.above_right;
          classes = joins.classes.above_right;
          fact = joins.fact.above_right;
        };
        least = join_is_least;
      }

-- a state has changed where one of its parts has
pub parts_told : (x j : Parts) (registers probed written slots classes fact : Bool) → TellsChange registers x.registers j.registers → TellsChange probed x.probed j.probed → TellsChange written x.written j.written → TellsChange slots x.slots j.slots → TellsChange classes x.classes j.classes → TellsChange fact x.fact j.fact → TellsChange (registers || (probed || (written || (slots || (classes || fact))))) x j
parts_told x j true p w s c f registers probed written slots classes fact = λ same. registers (ap (λ (t : Parts). t.registers) same)
parts_told x j false true w s c f registers probed written slots classes fact = λ same. probed (ap (λ (t : Parts). t.probed) same)
parts_told x j false false true s c f registers probed written slots classes fact = λ same. written (ap (λ (t : Parts). t.written) same)
parts_told x j false false false true c f registers probed written slots classes fact = λ same. slots (ap (λ (t : Parts). t.slots) same)
parts_told x j false false false false true f registers probed written slots classes fact = λ same. classes (ap (λ (t : Parts). t.classes) same)
parts_told x j false false false false false true registers probed written slots classes fact = λ same. fact (ap (λ (t : Parts). t.fact) same)
parts_told x j false false false false false false registers probed written slots classes fact = state_same j x registers probed written slots classes fact

-- the slots of a state have values in their ranges
pub formed_slots : (s : Parts) → IsState s → IsValidMap IsValue s.slots
formed_slots s v = record { ascending = v.slots.ascending; values = v.slots.values }

-- ---- the same of a state that is seen as its parts

module _ (bounds : List ℕ) (are : IsBounds bounds) (x y j self other : Parts) (self_is : x ≡ self) (other_is : y ≡ other) (v : IsState x) (w : IsState y) (joins : JoinsParts bounds x y j) where
  pub joined_state : IsState j
  joined_state = join_is_state bounds are x y j v w joins

  -- the same under the other names
  renamed : (P : Parts → Parts → Type 0) → P x y → P self other
  renamed P holds =
      let Q : Parts → Type 0 = λ s. P s y in
      let R : Parts → Type 0 = λ s. P self s in
      subst R other_is (subst Q self_is holds)

  pub joined_valid : IsValidState bounds self → IsValidState bounds j
  joined_valid = renamed (λ s t. IsValidState bounds s → IsValidState bounds j) (join_is_valid bounds are x y j v w joins)

  pub joined_least : IsLeast state_below (IsValidState bounds) self other j
  joined_least = renamed (λ s t. IsLeast state_below (IsValidState bounds) s t j) (join_is_least bounds are x y j v w joins)

  pub joined : IsValidState bounds self → IsValidState bounds other → IsJoin state_below (IsValidState bounds) self other j
  joined = renamed (λ s t. IsValidState bounds s → IsValidState bounds t → IsJoin state_below (IsValidState bounds) s t j) (parts_join bounds are x y j v w joins)

-- the tests of registers and slots are one of the state
pub fits_both : (bounds : List ℕ) (x self : Parts) (answer : Bool) → x ≡ self → IsRowAmong bounds x.registers → IsTrue answer ↔ AreSlotsAmong bounds x.slots → IsTrue answer ↔ Fits bounds self
fits_both bounds x self answer self_is registers slots =
    let P : Parts → Type 0 = λ s. IsTrue answer ↔ Fits bounds s in
    subst P self_is (λ holds. record { registers = registers; slots = slots.0 holds }, λ fits. slots.1 fits.slots)
