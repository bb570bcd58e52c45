-- Places that keep their numbers and places that get new ones, all at once: classes and what they name.
use Rattle.std.proofs.Common.{◌≡◌, ◌≢◌, ℕ, ◌^◌, ◌<◌, ◌≤◌, ◌⊎◌, refl, sym, ap, subst, ◌∙◌, arith, Some, None, inl, inr, Bool, true, false, is_some}
use Rattle.std.proofs.lemmas.Int.{ints}
use Rattle.std.proofs.lemmas.Bool.{ltb-true}
use Rattle.std.proofs.lemmas.Bool.Decides.{eqb_tells}
use Rattle.std.specs.Prelude.{ℤ, pos, ◌-ℤ◌, ◌≤ℤ◌, Option, ◌↔◌, if◌then◌else◌}
use Rattle.vw_lattice.specs.Entries.{value_at}
use Rattle.vw_names.specs.declared.spot.Spot.{Spot}
use Rattle.vw_names.specs.declared.spot.Spot.TheVariants.{Reg, Flags, Slot}
use Rattle.vw_names.specs.Division.{Same, IsAlone}
use Rattle.vw_domain.specs.declared.parts.Parts.{Parts}
use Rattle.vw_domain.specs.State.{AreSlots, IsNamed, IsThere, wide_key, narrow_key, key_of}
use Rattle.vw_domain.specs.Abstract.{slot_key, is_there, class_number}
use Rattle.vw_domain.proofs.ForgetLemmas.{slot_above}
use Rattle.vw_domain.proofs.WriteLemmas.{some_has, key_back}
use Rattle.vw_domain.proofs.SameLemmas.{Moves}
use Rattle.vw_domain.proofs.LeaveLemmas.{true_or_false}

-- place p has the number that place a had
pub record Comes (s t : Parts) (gone : ℕ → Bool) (p a : Spot) : Type 0 where
  pub there : is_there t p ≡ is_there s a
  pub stays : (is_there s a ≡ true) ⊎ (p ≡ a)
  pub left : is_there s a ≡ true → gone (class_number s a) ≡ false
  pub together : is_there s a ≡ true → Same t.classes (class_number t p) (class_number s a)

-- The places in `gone` left their classes, and `from` tells from which old place each number comes.
pub record Regroups (s t : Parts) (gone : ℕ → Bool) (from : Spot → Option Spot) : Type 0 where
  pub comes : (p a : Spot) → from p ≡ Some a → Comes s t gone p a
  pub alone : (p : Spot) → from p ≡ None → is_there t p ≡ true → IsAlone t.classes (class_number t p)
  pub others : (a b : ℕ) → gone a ≡ false → gone b ≡ false → Same t.classes a b ↔ Same s.classes a b

-- ---- places that are there have their own numbers

one_offset : (x y : Bool) (a b : ℤ) → (if x then narrow_key a else wide_key a) ≡ (if y then narrow_key b else wide_key b) → a ≡ b
one_offset true true a b same = omega (arith, ints)
one_offset true false a b same = absurd (omega (arith, ints))
one_offset false true a b same = absurd (omega (arith, ints))
one_offset false false a b same = omega (arith, ints)

module _ (t : Parts) (are : AreSlots t.slots) where
  slot_low : (o : ℤ) → is_there t (Slot o) ≡ true → (pos 0 -ℤ pos (2 ^ 33)) ≤ℤ slot_key t.slots o
  slot_low o there = (are.within (slot_key t.slots o) (some_has (value_at t.slots (slot_key t.slots o)) there)).0

  slot_high : (o : ℤ) → is_there t (Slot o) ≡ true → 257 ≤ class_number t (Slot o)
  slot_high o there = slot_above (slot_key t.slots o) (slot_low o there)

  reg_low : (q : ℕ) → is_there t (Reg q) ≡ true → q < 17
  reg_low q there = ltb-true q 17 there

  pub own_number : (p q : Spot) → is_there t p ≡ true → is_there t q ≡ true → class_number t p ≡ class_number t q → p ≡ q
  own_number (Reg q) (Reg r) there_p there_q same = ap Reg same
  own_number Flags Flags there_p there_q same = refl
  own_number (Slot a) (Slot b) there_p there_q same =
      let keys : slot_key t.slots a ≡ slot_key t.slots b =
      sym (key_back (slot_key t.slots a) (slot_low a there_p)) ∙ ap key_of same ∙ key_back (slot_key t.slots b) (slot_low b there_q) in
      ap Slot (one_offset (is_some (value_at t.slots (narrow_key a))) (is_some (value_at t.slots (narrow_key b))) a b keys)
  own_number (Reg q) Flags there_p there_q same = let low = reg_low q there_p in absurd (omega arith)
  own_number Flags (Reg r) there_p there_q same = let low = reg_low r there_q in absurd (omega arith)
  own_number (Reg q) (Slot b) there_p there_q same = let low = reg_low q there_p in let high = slot_high b there_q in absurd (omega arith)
  own_number (Slot a) (Reg r) there_p there_q same = let low = reg_low r there_q in let high = slot_high a there_p in absurd (omega arith)
  own_number Flags (Slot b) there_p there_q same = let high = slot_high b there_q in absurd (omega arith)
  own_number (Slot a) Flags there_p there_q same = let high = slot_high a there_p in absurd (omega arith)

-- ---- classes

pub regroup_moves : (s t : Parts) (gone : ℕ → Bool) (from : Spot → Option Spot) → AreSlots t.slots → Regroups s t gone from → Moves s t from
regroup_moves s t gone from are r = record {
  there = λ p a is there. sym (r.comes p a is).there ∙ there;
  here = λ p a is there. (r.comes p a is).there ∙ there;
  stays = λ p a is. (r.comes p a is).stays;
  alone = λ p q is together.
      own_number t are p q together.first together.second (sym (r.alone p is together.first (class_number t q) together.roots));
  roots = λ p q a b is_p is_q there_a there_b.
      let one = r.comes p a is_p in
      let two = r.comes q b is_q in
      let kept = r.others (class_number s a) (class_number s b) (one.left there_a) (two.left there_b) in
      let near = one.together there_a in
      let far = two.together there_b in
      (λ same. kept.0 (sym near ∙ same ∙ far), λ same. near ∙ kept.1 same ∙ sym far);
}

-- ---- names

-- The place with number e is put into the class of number r, of which both are there.
pub record Enters (t : Parts) (gone : ℕ → Bool) (e r : ℕ) : Type 0 where
  pub stays : gone r ≡ false
  pub joined : Same t.classes e r
  pub there : IsThere t.slots e
  pub source : IsThere t.slots r

module _ (s t : Parts) (gone : ℕ → Bool) (named : IsNamed s.slots s.classes) (others : (a b : ℕ) → gone a ≡ false → gone b ≡ false → Same t.classes a b ↔ Same s.classes a b) (still : (a : ℕ) → gone a ≡ false → IsThere s.slots a → IsThere t.slots a) where
  -- where all that are gone are alone
  pub named_left : ((a : ℕ) → gone a ≡ true → IsAlone t.classes a) → IsNamed t.slots t.classes
  named_left alone a b same apart = elim (true_or_false (gone a)) [
    | inl is ↦ absurd (apart (sym (alone a is b same)))
    | inr stays ↦ elim (true_or_false (gone b)) [
      | inl is ↦ absurd (apart (alone b is a (sym same)))
      | inr too ↦ still a stays (named a b ((others a b stays too).0 same) apart)
    ]
  ]

  -- where all but one are, which enters a class
  pub named_entered : (e r : ℕ) → Enters t gone e r → ((a : ℕ) → gone a ≡ true → a ≢ e → IsAlone t.classes a) → IsNamed t.slots t.classes
  named_entered e r enters alone a b same apart = elim (eqb_tells a e) [
    | inl is_e ↦ subst (λ (x : ℕ). IsThere t.slots x) (sym is_e.1) enters.there
    | inr not_e ↦ elim (true_or_false (gone a)) [
      | inl is ↦ absurd (apart (sym (alone a is not_e.1 b same)))
      | inr stays ↦ elim (eqb_tells b e) [
        | inl is_e ↦
            let now : Same t.classes a r = subst (λ (x : ℕ). Same t.classes a x) is_e.1 same ∙ enters.joined in
            elim (eqb_tells a r) [
              | inl is_r ↦ subst (λ (x : ℕ). IsThere t.slots x) (sym is_r.1) enters.source
              | inr not_r ↦ still a stays (named a r ((others a r stays enters.stays).0 now) not_r.1)
            ]
        | inr other ↦ elim (true_or_false (gone b)) [
          | inl is ↦ absurd (apart (alone b is other.1 a (sym same)))
          | inr too ↦ still a stays (named a b ((others a b stays too).0 same) apart)
        ]
      ]
    ]
  ]
