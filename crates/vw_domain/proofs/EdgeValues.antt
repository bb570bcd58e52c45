-- What an edge leaves of the values of a state: the state stays one, and its form is that of the definition.
use Rattle.std.proofs.Common.{◌≡◌, ◌≢◌, ℕ, zero, suc, ◌<◌, ◌⊎◌, List, refl, sym, ap, subst, ◌∙◌, arith, Some, inl, inr, Bool, true, false, is_some, ◌&&◌, ◌||◌, ◌==◌, not, eq-eqb}
use Rattle.std.proofs.Math.Path.{fun_ext}
use Rattle.std.proofs.lemmas.Bool.{lt-ltb, eqb-true}
use Rattle.std.specs.Prelude.{ℤ, Option, ◌↔◌, if◌then◌else◌}
use Rattle.vw_lattice.specs.Entries.{value_at}
use Rattle.vw_names.specs.declared.spot.Spot.{Spot}
use Rattle.vw_names.specs.declared.spot.Spot.TheVariants.{Reg, Flags, Slot}
use Rattle.vw_names.specs.Division.{root}
use Rattle.vw_names.specs.Spot.{slot_number}
use Rattle.vw_stack.specs.declared.offset.Offset.{Offset}
use Rattle.vw_stack.specs.declared.offset.Offset.TheVariants as offset
use Rattle.vw_values.specs.declared.value.Value.{Value}
use Rattle.vw_values.specs.declared.value.Value.TheVariants.{Any, Num, Const, Below, Low, Both, Index16, EntryPtr, EntryTyped}
use Rattle.vw_values.specs.Values.{IsValue, IsAmong, IsValid, IsNumber, IsTag}
use Rattle.vw_domain.specs.declared.edge_tags.Tags.{Tags}
use Rattle.vw_domain.specs.declared.parts.Parts.{Parts}
use Rattle.vw_domain.specs.declared.registers.Register.{Register}
use Rattle.vw_domain.specs.Registers.{register_at, OffsetFits, IsRegister}
use Rattle.vw_domain.specs.State.{narrow_key, IsNarrow, IsState, Fits}
use Rattle.vw_domain.specs.Abstract.{abstract_of, value_of, is_there, class_number, is_same}
use Rattle.vw_domain.specs.Changes.{or_else, refined_by, refine, HasEdge, mark, is_other, retag, HasTagEdge}
use Rattle.vw_domain.specs.Refines.{is_compared, passes, any_below, is_told, is_tagged, is_tagged_at, left_value, may_pass, with_value_by, EachRegister, EachSlot}
use Rattle.vw_domain.proofs.SameLemmas.{one_test, same_cases, same_together}
use Rattle.vw_domain.proofs.WriteLemmas.{some_has}
use Rattle.vw_domain.proofs.LeaveLemmas.{true_or_false}
use Rattle.vw_domain.proofs.Lowers.{true_not_false, and_both, both_and, or_cases, or_first, or_second}
use Rattle.vw_domain.proofs.RefineLemmas.{Refining, some_same, refined_keeps}
use Rattle.vw_domain.proofs.EachPlace.{value_absent, each_form, each_state, each_fits, Pass, each_passes}

-- ---- a test of the numbers below another

pub any_below_has : (f : ℕ → Bool) (n : ℕ) → any_below f n ≡ true → (i : ℕ) × (i < n) × (f i ≡ true)
any_below_has f zero h = absurd (true_not_false (sym h))
any_below_has f (suc n) h = elim (or_cases (any_below f n) (f n) h) [
  | inl before ↦ let found = any_below_has f n before in (found.0, omega (arith, found.1), found.2)
  | inr here ↦ (n, omega arith, here)
]

pub any_below_at : (f : ℕ → Bool) (n i : ℕ) → i < n → f i ≡ true → any_below f n ≡ true
any_below_at f zero i less h = absurd (omega arith)
any_below_at f (suc n) i less h = elim (true_or_false (i == n)) [
  | inl same ↦ or_second (any_below f n) (f n) (subst (λ (k : ℕ). f k ≡ true) (eqb-true i n same) h)
  | inr other ↦
      let apart : i ≢ n = λ e. true_not_false (sym (eq-eqb i n e) ∙ other) in
      or_first (any_below f n) (f n) (any_below_at f n i (omega arith) h)
]

any_below_same : (f g : ℕ → Bool) (n : ℕ) → ((i : ℕ) → i < n → f i ≡ g i) → any_below f n ≡ any_below g n
any_below_same f g zero same = refl
any_below_same f g (suc n) same = ap (λ (b : Bool). b || f n) (any_below_same f g n (λ i less. same i (omega arith))) ∙ ap (λ (b : Bool). any_below g n || b) (same n (omega arith))

-- ---- classes

-- a place that is there is in the class of a register
pub same_register : (s : Parts) (r : ℕ) (p : Spot) → r < 17 → is_there s p ≡ true → is_same s (Reg r) p ≡ (root s.classes r == root s.classes (class_number s p))
same_register s r p less there = one_test (is_same s (Reg r) p) (root s.classes r == root s.classes (class_number s p))
    (λ same. elim (same_cases s (Reg r) p same) [
      | inl is ↦ subst (λ (q : Spot). (root s.classes r == root s.classes (class_number s q)) ≡ true) is (eq-eqb (root s.classes r) (root s.classes r) refl)
      | inr together ↦ eq-eqb _ _ together.roots
    ])
    (λ roots. same_together s (Reg r) p (record { first = lt-ltb r 17 less; second = there; roots = eqb-true _ _ roots }))

-- or of the flags
pub same_compared : (s : Parts) (p : Spot) → is_there s p ≡ true → is_same s Flags p ≡ is_compared s.classes (class_number s p)
same_compared s p there = one_test (is_same s Flags p) (is_compared s.classes (class_number s p))
    (λ same. elim (same_cases s Flags p same) [
      | inl is ↦ subst (λ (q : Spot). is_compared s.classes (class_number s q) ≡ true) is (eq-eqb (root s.classes 256) (root s.classes 256) refl)
      | inr together ↦ eq-eqb _ _ together.roots
    ])
    (λ roots. same_together s Flags p (record { first = refl; second = there; roots = eqb-true _ _ roots }))

-- ---- a marked value

module _ (k : ℕ) (tagged : ℕ → Bool) where
  mark_valid : (v : Value) → ((t : ℕ) → tagged t ≡ true → IsTag k) → IsValue v → IsValue (mark k tagged v)
  mark_valid (EntryPtr t) small is = go (tagged t) refl
    where
      go : (b : Bool) → tagged t ≡ b → IsValue (if b then EntryTyped t k else EntryPtr t)
      go true e = (is, small t e)
      go false e = is
  mark_valid (EntryTyped t g) small is = go (tagged t) refl
    where
      go : (b : Bool) → tagged t ≡ b → IsValue (if b then EntryTyped t k else EntryTyped t g)
      go true e = (is.0, small t e)
      go false e = is
  mark_valid (Index16 j m) small is = go (tagged 0) refl
    where
      go : (b : Bool) → tagged 0 ≡ b → IsValue (if b then Index16 j (Some (0, k)) else Index16 j m)
      go true e = (is.0, (refl, small 0 e))
      go false e = is
  mark_valid v small is = is

  mark_among : (bounds : List ℕ) (v : Value) → IsAmong bounds v → IsAmong bounds (mark k tagged v)
  mark_among bounds (EntryPtr t) is = go (tagged t)
    where
      go : (b : Bool) → IsAmong bounds (if b then EntryTyped t k else EntryPtr t)
      go true = tt
      go false = tt
  mark_among bounds (EntryTyped t g) is = go (tagged t)
    where
      go : (b : Bool) → IsAmong bounds (if b then EntryTyped t k else EntryTyped t g)
      go true = tt
      go false = tt
  mark_among bounds (Index16 j m) is = go (tagged 0)
    where
      go : (b : Bool) → IsAmong bounds (if b then Index16 j (Some (0, k)) else Index16 j m)
      go true = is
      go false = is
  mark_among bounds v is = is

  mark_number : (v : Value) → IsNumber v → IsNumber (mark k tagged v)
  mark_number Num is = tt
  mark_number (Const c) is = tt
  mark_number (Below j) is = tt
  mark_number (Low j) is = tt
  mark_number (Both j) is = tt
  mark_number v is = absurd is

  mark_narrow : (v : Value) → IsNarrow v → IsNarrow (mark k tagged v)
  mark_narrow (Const c) is = is
  mark_narrow (Below j) is = is
  mark_narrow v is = absurd is

  mark_any : (v : Value) → v ≡ Any → mark k tagged v ≡ Any
  mark_any v is = ap (mark k tagged) is

not_false : (b : Bool) → not b ≡ true → b ≡ false
not_false true h = sym h
not_false false h = refl

false_not : (b : Bool) → b ≡ false → not b ≡ true
false_not b h = ap not h

passed : (compared : Bool) (x : Option Value) → compared ≡ true → passes compared x ≡ true → is_some x ≡ true
passed true x is pass = pass
passed false x is pass = absurd (true_not_false (sym is))

passing : (compared : Bool) (x : Option Value) → (compared ≡ true → is_some x ≡ true) → passes compared x ≡ true
passing true x some = some refl
passing false x some = refl

module _ (s : Parts) (bounds : List ℕ) (f : Value → Option Value) (tags : Tags) (registers : List Register) (slots : List (ℤ × Value)) (in_row in_slots : Bool)
    (is_s : IsState s) (fits : Fits bounds s) (keeps : Refining bounds f) (small : (r t : ℕ) → is_told tags.tables r t ≡ true → IsTag tags.tag)
    (of_row : EachRegister (left_value s.classes f tags) (may_pass s.classes f tags) s.registers registers in_row)
    (of_slots : EachSlot (left_value s.classes f tags) (may_pass s.classes f tags) s.slots slots in_slots) where
  abbrev g : ℕ → Value → Value
  g = left_value s.classes f tags

  abbrev test : ℕ → Value → Bool
  test = may_pass s.classes f tags

  abbrev tagged_at : Spot → ℕ → Bool
  tagged_at = is_tagged_at (abstract_of s) tags.tables

  -- by the number of a place, or by the place
  tags_same : (p : Spot) → is_there s p ≡ true → is_tagged tags.tables s.classes (class_number s p) ≡ tagged_at p
  tags_same p there = fun_ext (λ t. any_below_same
      (λ r. is_told tags.tables r t && (root s.classes r == root s.classes (class_number s p)))
      (λ r. is_told tags.tables r t && is_same s (Reg r) p)
      16
      (λ r less. ap (λ (b : Bool). is_told tags.tables r t && b) (sym (same_register s r p (omega arith) there))))

  -- ---- the form

  abbrev left_at : Spot → Value → Value
  left_at p v = mark tags.tag (tagged_at p) (refined_by (is_same s Flags p) f v)

  here : (p : Spot) → p ≢ Flags → is_there s p ≡ true → (v : Value) → g (class_number s p) v ≡ left_at p v
  here p other there v =
      ap (λ (tagged : ℕ → Bool). mark tags.tag tagged (refined_by (is_compared s.classes (class_number s p)) f v)) (tags_same p there)
      ∙ ap (λ (b : Bool). mark tags.tag (tagged_at p) (refined_by b f v)) (sym (same_compared s p there))

  refined_any : (b : Bool) → refined_by b f Any ≡ Any
  refined_any true = ap (λ (x : Option Value). or_else x Any) keeps.any
  refined_any false = refl

  nothing : (p : Spot) → left_at p Any ≡ Any
  nothing p = mark_any tags.tag (tagged_at p) (refined_by (is_same s Flags p) f Any) (refined_any (is_same s Flags p))

  pub edge_form : abstract_of (record s { registers = registers; slots = slots }) ≡ retag (refine (abstract_of s) f) tags.tag tagged_at
  edge_form = each_form s g test registers slots in_row in_slots is_s of_row of_slots left_at here nothing

  -- ---- the state stays one

  tag_small : (a t : ℕ) → is_tagged tags.tables s.classes a t ≡ true → IsTag tags.tag
  tag_small a t is =
      let found = any_below_has (λ r. is_told tags.tables r t && (root s.classes r == root s.classes a)) 16 is in
      small found.0 t (and_both (is_told tags.tables found.0 t) (root s.classes found.0 == root s.classes a) found.2).0

  left_valid : (a : ℕ) (v : Value) → IsValid bounds v → IsValid bounds (g a v)
  left_valid a v is =
      let tagged : ℕ → Bool = is_tagged tags.tables s.classes a in
      let refined : Value = refined_by (is_compared s.classes a) f v in
      let valid : IsValid bounds refined = refined_keeps (λ (x : Value). IsValid bounds x) (is_compared s.classes a) f v is (λ u found. keeps.valid v u is found) in
      (mark_valid tags.tag tagged refined (tag_small a) valid.0, mark_among tags.tag tagged bounds refined valid.1)

  left_fits : (a : ℕ) (o : Offset) (v : Value) → IsValid bounds v → OffsetFits o v → OffsetFits o (g a v)
  left_fits a offset.Unknown v valid fit = tt
  left_fits a (offset.Known c) v valid fit =
      let tagged : ℕ → Bool = is_tagged tags.tables s.classes a in
      let refined : Value = refined_by (is_compared s.classes a) f v in
      let P : Value → Type 0 = λ x. (x ≡ Any) ⊎ IsNumber x in
      let plain : P refined = refined_keeps P (is_compared s.classes a) f v fit.1 (λ u found. elim fit.1 [
        | inl any ↦
            let same : Some u ≡ Some Any = sym found ∙ ap f any ∙ keeps.any in
            inl (some_same u Any same)
        | inr number ↦ inr (keeps.numbers v u valid number found)
      ]) in (
        fit.0,
        elim plain [
          | inl any ↦ inl (mark_any tags.tag tagged refined any)
          | inr number ↦ inr (mark_number tags.tag tagged refined number)
        ],
      )

  register_valid : (r : ℕ) → IsValid bounds (register_at s.registers r).value
  register_valid r = ((is_s.registers.registers r).value, fits.registers r)

  slot_valid : (key : ℤ) (v : Value) → value_at s.slots key ≡ Some v → IsValid bounds v
  slot_valid key v found = (is_s.slots.values key v found, fits.slots key v found)

  of_registers : (r : ℕ) → r < 17 → IsRegister (with_value_by g r (register_at s.registers r))
  of_registers r less =
      let x : Register = register_at s.registers r in
      record { value = (left_valid r x.value (register_valid r)).0; offset = left_fits r x.offset x.value (register_valid r) (is_s.registers.registers r).offset }

  of_values : (key : ℤ) (v : Value) → value_at s.slots key ≡ Some v → IsValue (g (slot_number key) v)
  of_values key v found = (left_valid (slot_number key) v (slot_valid key v found)).0

  of_narrow : (o : ℤ) (v : Value) → value_at s.slots (narrow_key o) ≡ Some v → IsNarrow (g (slot_number (narrow_key o)) v)
  of_narrow o v found =
      let a : ℕ = slot_number (narrow_key o) in
      let narrow : IsNarrow v = is_s.slots.narrow o v found in
      mark_narrow tags.tag (is_tagged tags.tables s.classes a) (refined_by (is_compared s.classes a) f v)
      (refined_keeps (λ (x : Value). IsNarrow x) (is_compared s.classes a) f v narrow (λ u is. keeps.narrow v u (slot_valid (narrow_key o) v found) narrow is))

  pub edge_keeps_state : IsState (record s { registers = registers; slots = slots })
  edge_keeps_state = each_state s g test registers slots in_row in_slots is_s of_row of_slots of_registers of_values of_narrow

  pub edge_fits : Fits bounds (record s { registers = registers; slots = slots })
  edge_fits = each_fits s g test registers slots in_row in_slots is_s of_row of_slots of_registers of_values of_narrow bounds
      (λ r less. (left_valid r (register_at s.registers r).value (register_valid r)).1)
      (λ key v found. (left_valid (slot_number key) v (slot_valid key v found)).1)

  -- ---- the answer tells whether control may go along the edge

  abbrev Passes : Type 0
  Passes = Pass s g test registers slots in_row in_slots is_s of_row of_slots

  abbrev Goes : Type 0
  Goes = HasEdge (abstract_of s) f × HasTagEdge (abstract_of s) tags.tag tagged_at

  absent_edge : (p : Spot) → is_there s p ≡ false → (u : Value) × (f (value_of s p) ≡ Some u)
  absent_edge p absent = (Any, ap f (value_absent s p is_s absent) ∙ keeps.any)

  there_edge : (p : Spot) → is_there s p ≡ true → test (class_number s p) (value_of s p) ≡ true → is_same s Flags p ≡ true → (u : Value) × (f (value_of s p) ≡ Some u)
  there_edge p there pass same =
      let parts = and_both (passes (is_compared s.classes (class_number s p)) (f (value_of s p))) _ pass in
      some_has (f (value_of s p)) (passed (is_compared s.classes (class_number s p)) (f (value_of s p)) (sym (same_compared s p there) ∙ same) parts.0)

  has_edge : Passes → HasEdge (abstract_of s) f
  has_edge pass (Reg r) same = elim (true_or_false (is_there s (Reg r))) [
    | inl there ↦ there_edge (Reg r) there (pass (Reg r) (λ e. cc) there) same
    | inr absent ↦ absent_edge (Reg r) absent
  ]
  has_edge pass Flags same = (Any, keeps.any)
  has_edge pass (Slot o) same = elim (true_or_false (is_there s (Slot o))) [
    | inl there ↦ there_edge (Slot o) there (pass (Slot o) (λ e. cc) there) same
    | inr absent ↦ absent_edge (Slot o) absent
  ]

  absent_tag : (p : Spot) → is_there s p ≡ false → is_other tags.tag (tagged_at p) (value_of s p) ≡ false
  absent_tag p absent = ap (is_other tags.tag (tagged_at p)) (value_absent s p is_s absent)

  there_tag : (p : Spot) → is_there s p ≡ true → test (class_number s p) (value_of s p) ≡ true → is_other tags.tag (tagged_at p) (value_of s p) ≡ false
  there_tag p there pass =
      let parts = and_both (passes (is_compared s.classes (class_number s p)) (f (value_of s p))) _ pass in
      ap (λ (tagged : ℕ → Bool). is_other tags.tag tagged (value_of s p)) (sym (tags_same p there)) ∙ not_false _ parts.1

  has_tags : Passes → HasTagEdge (abstract_of s) tags.tag tagged_at
  has_tags pass (Reg r) = elim (true_or_false (is_there s (Reg r))) [
    | inl there ↦ there_tag (Reg r) there (pass (Reg r) (λ e. cc) there)
    | inr absent ↦ absent_tag (Reg r) absent
  ]
  has_tags pass Flags = refl
  has_tags pass (Slot o) = elim (true_or_false (is_there s (Slot o))) [
    | inl there ↦ there_tag (Slot o) there (pass (Slot o) (λ e. cc) there)
    | inr absent ↦ absent_tag (Slot o) absent
  ]

  goes_pass : Goes → Passes
  goes_pass goes p other there =
      both_and (passes (is_compared s.classes (class_number s p)) (f (value_of s p))) (not (is_other tags.tag (is_tagged tags.tables s.classes (class_number s p)) (value_of s p)))
      (passing (is_compared s.classes (class_number s p)) (f (value_of s p)) (λ compared. let has = goes.0 p (same_compared s p there ∙ compared) in ap is_some has.1))
      (false_not _ (ap (λ (tagged : ℕ → Bool). is_other tags.tag tagged (value_of s p)) (tags_same p there) ∙ goes.1 p))

  pub edge_told : ((in_row && in_slots) ≡ true) ↔ (HasEdge (abstract_of s) f × HasTagEdge (abstract_of s) tags.tag tagged_at)
  edge_told =
      let each = each_passes s g test registers slots in_row in_slots is_s of_row of_slots in
      (λ told. let pass = each.0 told in (has_edge pass, has_tags pass), λ goes. each.1 (goes_pass goes))
