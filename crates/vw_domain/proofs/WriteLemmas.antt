-- A register is written: the state stays one, and its abstract form is that of the definition.
use Rattle.std.proofs.Common.{◌≡◌, ◌≢◌, ℕ, ◌^◌, ◌<◌, ◌⊎◌, List, refl, sym, ap, subst, ◌∙◌, arith, Some, None, inl, inr, Bool, true, false, is_some}
use Rattle.std.proofs.Math.Path.{fun_ext}
use Rattle.std.proofs.lemmas.Bool.{lt-ltb, ltb-true}
use Rattle.std.proofs.lemmas.Int.{ints}
use Rattle.std.proofs.lemmas.Bool.Decides.{eqb_tells}
use Rattle.std.specs.Prelude.{ℤ, pos, negsuc, ◌-ℤ◌, ◌≤ℤ◌, Option, ◌==◌, if◌then◌else◌}
use Rattle.vw_lattice.specs.Entries.{value_at, HasKey}
use Rattle.vw_locals.specs.Ranges.{is_written}
use Rattle.vw_names.specs.declared.spot.Spot.{Spot}
use Rattle.vw_names.specs.declared.spot.Spot.TheVariants.{Reg, Flags, Slot}
use Rattle.vw_names.specs.Division.{Same, Leaves}
use Rattle.vw_names.specs.Spot.{slot_number}
use Rattle.vw_stack.specs.declared.offset.Offset.{Offset}
use Rattle.vw_values.specs.declared.value.Value.{Value}
use Rattle.vw_values.specs.Values.{IsValue, IsAmong}
use Rattle.vw_domain.specs.declared.gone.Gone.TheVariants.{Register}
use Rattle.vw_domain.specs.declared.parts.Fact.{Fact}
use Rattle.vw_domain.specs.declared.parts.Parts.{Parts}
use Rattle.vw_domain.specs.declared.registers.Register as row
use Rattle.vw_domain.specs.Registers.{register_at, IsRegister}
use Rattle.vw_domain.specs.State.{AreSlots, IsState, IsNamed, IsThere, key_of, Fits}
use Rattle.vw_domain.specs.Abstract.{Abstract, abstract_of, slot_key, value_of, value_or_any, is_there, class_number, is_same}
use Rattle.vw_domain.specs.Changes.{forget, same_from, changed_value, value_from, write, write_from, writing_register}
use Rattle.vw_domain.specs.Writes.{is_gone, forgotten_register, FollowsPlace, MovesPlace, WritesRegister}
use Rattle.vw_domain.proofs.SameLemmas.{Single, single_from, single_same, place_tells}
use Rattle.vw_domain.proofs.ForgetLemmas.{forget_keeps, slots_among_left, register_left, left_key, left_size, left_there, left_value, still_has, slots_left, slot_above}

-- two abstract forms with the same parts
pub form_same : (a b : Abstract) → ((r : ℕ) → a.offsets r ≡ b.offsets r) → ((p : Spot) → a.values p ≡ b.values p) → ((o : ℤ) → a.sizes o ≡ b.sizes o) → ((p q : Spot) → a.same p q ≡ b.same p q) → a.fact ≡ b.fact → a.probed ≡ b.probed → ((o : ℤ) → a.written o ≡ b.written o) → a ≡ b
form_same a b offsets values sizes same fact probed written =
    let with_offsets : (ℕ → Offset) → Abstract = λ x. record a { offsets = x } in
    let with_values : (Spot → Value) → Abstract = λ x. record a { offsets = b.offsets; values = x } in
    let with_sizes : (ℤ → ℕ) → Abstract = λ x. record a { offsets = b.offsets; values = b.values; sizes = x } in
    let with_same : (Spot → Spot → Bool) → Abstract = λ x. record a { offsets = b.offsets; values = b.values; sizes = b.sizes; same = x } in
    let with_fact : Fact → Abstract = λ x. record b { fact = x; probed = a.probed; written = a.written } in
    let with_probed : ℕ → Abstract = λ x. record b { probed = x; written = a.written } in
    let with_written : (ℤ → Bool) → Abstract = λ x. record b { written = x } in
    ap with_offsets (fun_ext offsets) ∙ ap with_values (fun_ext values) ∙ ap with_sizes (fun_ext sizes)
    ∙ ap with_same (fun_ext (λ p. fun_ext (same p))) ∙ ap with_fact fact ∙ ap with_probed probed ∙ ap with_written (fun_ext written)

pub some_has : (x : Option Value) → is_some x ≡ true → (v : Value) × (x ≡ Some v)
some_has None has = absurd (cc)
some_has (Some v) has = (v, refl)

pub no_some : (x : Option Value) → is_some x ≡ false → x ≡ None
no_some None h = refl
no_some (Some v) h = absurd (cc)

reg_same : (q r : ℕ) → Reg q ≡ Reg r → q ≡ r
reg_same q r same = cc

-- ---- a place other than the written register has another number

other_number : (s : Parts) (d : ℕ) (p : Spot) → AreSlots s.slots → d < 17 → p ≢ Reg d → is_there s p ≡ true → class_number s p ≢ d
other_number s d (Reg q) are is_d other there = λ (same : q ≡ d). other (ap Reg same)
other_number s d Flags are is_d other there = omega arith
other_number s d (Slot o) are is_d other there =
    let above = slot_above (slot_key s.slots o) (are.within (slot_key s.slots o) (some_has (value_at s.slots (slot_key s.slots o)) there)).0 in
    omega arith

pub key_back : (key : ℤ) → (pos 0 -ℤ pos (2 ^ 33)) ≤ℤ key → key_of (slot_number key) ≡ key
key_back (pos n) within = omega (arith, ints)
key_back (negsuc n) within = omega (arith, ints)

-- the classes may name a place that is there
there_named : (s : Parts) (p : Spot) → AreSlots s.slots → is_there s p ≡ true → IsThere s.slots (class_number s p)
there_named s (Reg q) are there = inl (inl (ltb-true q 17 there))
there_named s Flags are there = inl (inr refl)
there_named s (Slot o) are there =
    let key : ℤ = slot_key s.slots o in
    let has : HasKey s.slots key = some_has (value_at s.slots key) there in
    inr (subst (λ (k : ℤ). HasKey s.slots k) (sym (key_back key (are.within key has).0)) has)

module _ (s t : Parts) (e : Spot) (source : Option Spot) (one : Single s t e source) (are : AreSlots s.slots) (named : IsNamed s.slots s.classes) (still : (a : ℕ) → IsThere s.slots a → IsThere t.slots a) where
  pub named_kept : IsNamed t.slots t.classes
  named_kept a b same apart = go source refl
    where
      go : (x : Option Spot) → source ≡ x → IsThere t.slots a
      go None is =
          let l = one.leaves is in
          elim (eqb_tells a (class_number s e)) [
            | inl is_a ↦ absurd (apart (is_a.1 ∙ sym (l.alone b (subst (λ (x : ℕ). Same t.classes x b) is_a.1 same))))
            | inr other_a ↦ elim (eqb_tells b (class_number s e)) [
              | inl is_b ↦ absurd (apart (l.alone a (sym (subst (λ (x : ℕ). Same t.classes a x) is_b.1 same)) ∙ sym is_b.1))
              | inr other_b ↦ still a (named a b ((l.others a b other_a.1 other_b.1).0 same) apart)
            ]
          ]
      go (Some p) is =
          let f = one.follows p is in
          elim (place_tells p e) [
            | inl is_p ↦ still a (named a b (subst (λ (x : List (ℕ × ℕ)). Same x a b) (f.self is_p.1) same) apart)
            | inr other ↦
                let g = f.other other.1 in
                let p_other = one.others p other.1 f.there in
                elim (eqb_tells a (class_number s e)) [
                  | inl is_a ↦ still a (subst (λ (x : ℕ). IsThere s.slots x) (sym is_a.1) (there_named s e are one.here))
                  | inr other_a ↦ elim (eqb_tells b (class_number s e)) [
                    | inr other_b ↦ still a (named a b ((g.others a b other_a.1 other_b.1).0 same) apart)
                    | inl is_b ↦ elim (eqb_tells a (class_number s p)) [
                      | inl at_p ↦ still a (subst (λ (x : ℕ). IsThere s.slots x) (sym at_p.1) (there_named s p are f.there))
                      | inr off_p ↦
                          let joined : Same t.classes (class_number s e) (class_number s p) = g.joined (λ e_is. p_other (sym e_is)) in
                          let now : Same t.classes a (class_number s p) = subst (λ (x : ℕ). Same t.classes a x) is_b.1 same ∙ joined in
                          still a (named a (class_number s p) ((g.others a (class_number s p) other_a.1 p_other).0 now) off_p.1)
                    ]
                  ]
                ]
          ]

-- the number of a register is its own
pub other_root : (s t : Parts) (e : Spot) (source : Option Spot) → MovesPlace s e source t.classes → (source ≡ None → Leaves (class_number s e) s.classes t.classes) × ((a : Spot) → source ≡ Some a → FollowsPlace s e a t.classes)
other_root s t e None moved = (λ is. moved, λ a is. absurd (cc))
other_root s t e (Some b) moved = (
  λ is. absurd (cc),
  λ a is.
      let same : b ≡ a = cc in
      subst (λ (x : Spot). FollowsPlace s e x t.classes) same moved,
)

module _ (s t : Parts) (d : ℕ) (source : Option Spot) (v : Value) (known : row.Register) (is_d : d < 17) (is_s : IsState s) (is_value : value_from (value_of s) v source ≡ known.value) (w : WritesRegister d source known s t) where
  number_kept : (p : Spot) → class_number t p ≡ class_number s p
  number_kept (Reg q) = refl
  number_kept Flags = refl
  number_kept (Slot o) = ap slot_number (left_key (Register d) s.slots t.slots w.slots o)

  there_kept : (p : Spot) → is_there t p ≡ is_there s p
  there_kept (Reg q) = refl
  there_kept Flags = refl
  there_kept (Slot o) = left_there (Register d) s.slots t.slots w.slots o

  single : Single s t (Reg d) source
  single = record {
    there = there_kept;
    numbers = number_kept;
    here = lt-ltb d 17 is_d;
    others = λ p other there. other_number s d p is_s.slots is_d other there;
    leaves = (other_root s t (Reg d) source w.classes).0;
    follows = (other_root s t (Reg d) source w.classes).1;
  }

  from_is : (p : Spot) → single_from (Reg d) source p ≡ write_from d source p
  from_is (Reg q) = refl
  from_is Flags = refl
  from_is (Slot o) = refl

  same_now : (p q : Spot) → is_same t p q ≡ same_from (is_same s) p q (write_from d source p) (write_from d source q)
  same_now p q =
      let P : (Spot → Option Spot) → Type 0 = λ from. is_same t p q ≡ same_from (is_same s) p q (from p) (from q) in
      subst P (fun_ext from_is) (single_same s t (Reg d) source single p q)

  register_now : (q : ℕ) → ((q == d) ≡ true) × (register_at t.registers q ≡ forgotten_register (Register d) known) ⊎ ((q == d) ≡ false) × (register_at t.registers q ≡ forgotten_register (Register d) (register_at s.registers q))
  register_now q = elim (eqb_tells q d) [
    | inl is ↦ inl (is.0, ap (register_at t.registers) is.1 ∙ w.register)
    | inr other ↦ inr (other.0, w.others q other.1)
  ]

  offset_now : (q : ℕ) → (register_at t.registers q).offset ≡ (if q == d then known.offset else (register_at s.registers q).offset)
  offset_now q = elim (register_now q) [
    | inl here ↦ ap (λ (r : row.Register). r.offset) here.1 ∙ sym (ap (λ (b : Bool). if b then known.offset else (register_at s.registers q).offset) here.0)
    | inr there ↦ ap (λ (r : row.Register). r.offset) there.1 ∙ sym (ap (λ (b : Bool). if b then known.offset else (register_at s.registers q).offset) there.0)
  ]

  value_now : (p : Spot) → value_of t p ≡ changed_value (abstract_of s) (writing_register d source v) p
  value_now (Reg q) =
      let value : row.Register → Value = λ r. r.value in
      let back : Bool → Value = λ b. forget (λ r. r == d) (value_from (value_of s) v (if b then source else Some (Reg q))) in
      elim (register_now q) [
        | inl here ↦ ap value here.1 ∙ sym (ap (forget (λ r. r == d)) is_value) ∙ sym (ap back here.0)
        | inr there ↦ ap value there.1 ∙ sym (ap back there.0)
      ]
  value_now Flags = refl
  value_now (Slot o) = left_value (Register d) s.slots t.slots w.slots o

  pub written_form : abstract_of t ≡ write (abstract_of s) d source v known.offset
  written_form = form_same (abstract_of t) (write (abstract_of s) d source v known.offset)
      offset_now value_now (left_size (Register d) s.slots t.slots w.slots) same_now
      w.fact w.probed (λ o. ap (λ (x : List (ℤ × ℤ)). is_written x o) w.written)

  -- ---- the state stays one

  pub row_written : IsRegister known → (q : ℕ) → IsRegister (register_at t.registers q)
  row_written is q =
      let P : row.Register → Type 0 = λ r. IsRegister r in
      elim (register_now q) [
        | inl here ↦ subst P (sym here.1) (register_left (Register d) known is)
        | inr there ↦ subst P (sym there.1) (register_left (Register d) (register_at s.registers q) (is_s.registers.registers q))
      ]

  still : (a : ℕ) → IsThere s.slots a → IsThere t.slots a
  still a (inl low) = inl low
  still a (inr has) = inr (still_has (Register d) s.slots t.slots w.slots (key_of a) has)

  pub state_written : IsRegister known → IsState t
  state_written is = record {
    registers = record { seventeen = w.seventeen; registers = row_written is };
    probed = let low = is_s.probed in let same = w.probed in omega arith;
    ranges = rw w.written is_s.ranges;
    frame = rw w.written is_s.frame;
    slots = slots_left (Register d) s.slots t.slots w.slots is_s.slots;
    classes = w.division;
    named = named_kept s t (Reg d) source single is_s.slots is_s.named still;
    fact = rw w.fact is_s.fact;
  }

  pub fits_written : (b : List ℕ) → Fits b s → IsAmong b known.value → Fits b t
  fits_written b fits among =
      let P : Value → Type 0 = λ x. IsAmong b x in
      let Q : row.Register → Type 0 = λ r. IsAmong b r.value in
      record {
        registers = λ q. elim (register_now q) [
          | inl here ↦ subst Q (sym here.1) (forget_keeps P (is_gone (Register d)) known.value tt among)
          | inr there ↦ subst Q (sym there.1) (forget_keeps P (is_gone (Register d)) (register_at s.registers q).value tt (fits.registers q))
        ];
        slots = slots_among_left (Register d) s.slots t.slots w.slots b fits.slots;
      }

-- the bound that the value of a place names is among those of the state
pub place_among : (s : Parts) (p : Spot) (b : List ℕ) → Fits b s → IsAmong b (value_of s p)
place_among s (Reg q) b fits = fits.registers q
place_among s Flags b fits = tt
place_among s (Slot o) b fits = go (value_at s.slots (slot_key s.slots o)) refl
  where
    go : (x : Option Value) → value_at s.slots (slot_key s.slots o) ≡ x → IsAmong b (value_or_any x)
    go None found = tt
    go (Some v) found = fits.slots (slot_key s.slots o) v found

-- the value of a place is in its ranges
pub place_value : (s : Parts) (p : Spot) → IsState s → IsValue (value_of s p)
place_value s (Reg q) is = (is.registers.registers q).value
place_value s Flags is = tt
place_value s (Slot o) is = go (value_at s.slots (slot_key s.slots o)) refl
  where
    go : (x : Option Value) → value_at s.slots (slot_key s.slots o) ≡ x → IsValue (value_or_any x)
    go None found = tt
    go (Some v) found = is.slots.values (slot_key s.slots o) v found
