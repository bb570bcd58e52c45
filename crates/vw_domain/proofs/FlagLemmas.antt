-- The flags are written: the state stays one, and its abstract form is that of the definition.
use Rattle.std.proofs.Common.{◌≡◌, ◌≢◌, ℕ, List, refl, sym, subst, arith, true}
use Rattle.std.proofs.Math.Path.{fun_ext}
use Rattle.std.proofs.lemmas.Bool.{ltb-true}
use Rattle.vw_lattice.specs.Entries.{value_at}
use Rattle.std.specs.Prelude.{ℤ, Option}
use Rattle.vw_names.specs.declared.spot.Spot.{Spot}
use Rattle.vw_names.specs.declared.spot.Spot.TheVariants.{Reg, Flags, Slot}
use Rattle.vw_names.specs.Division.{IsDivision}
use Rattle.vw_domain.specs.declared.parts.Fact.{Fact}
use Rattle.vw_domain.specs.declared.parts.Parts.{Parts}
use Rattle.vw_domain.specs.Registers.{register_at}
use Rattle.vw_domain.specs.State.{IsState, IsFact}
use Rattle.vw_domain.specs.Abstract.{abstract_of, slot_key, value_of, value_or_any, is_there, class_number, is_same}
use Rattle.vw_domain.specs.Changes.{same_from, flags_from, set_flags}
use Rattle.vw_domain.specs.Writes.{MovesPlace}
use Rattle.vw_domain.proofs.SameLemmas.{Single, single_from, single_same}
use Rattle.vw_domain.proofs.ForgetLemmas.{forget_none, slot_above}
use Rattle.vw_domain.proofs.WriteLemmas.{form_same, some_has, other_root, named_kept}

other_number : (s : Parts) (p : Spot) → IsState s → p ≢ Flags → is_there s p ≡ true → class_number s p ≢ 256
other_number s (Reg q) is other there = let low = ltb-true q 17 there in omega arith
other_number s Flags is other there = absurd (other refl)
other_number s (Slot o) is other there =
    let key : ℤ = slot_key s.slots o in
    let above = slot_above key (is.slots.within key (some_has (value_at s.slots key) there)).0 in
    omega arith

module _ (s : Parts) (classes : List (ℕ × ℕ)) (fact : Fact) (source : Option Spot) (is_s : IsState s) (moved : MovesPlace s Flags source classes) where
  -- the state afterwards
  abbrev now : Parts
  now = record s { classes = classes; fact = fact }

  there_kept : (p : Spot) → is_there now p ≡ is_there s p
  there_kept (Reg q) = refl
  there_kept Flags = refl
  there_kept (Slot o) = refl

  number_kept : (p : Spot) → class_number now p ≡ class_number s p
  number_kept (Reg q) = refl
  number_kept Flags = refl
  number_kept (Slot o) = refl

  single : Single s now Flags source
  single = record {
    there = there_kept;
    numbers = number_kept;
    here = refl;
    others = λ p other there. other_number s p is_s other there;
    leaves = (other_root s now Flags source moved).0;
    follows = (other_root s now Flags source moved).1;
  }

  from_is : (p : Spot) → single_from Flags source p ≡ flags_from source p
  from_is (Reg q) = refl
  from_is Flags = refl
  from_is (Slot o) = refl

  same_now : (p q : Spot) → is_same now p q ≡ same_from (is_same s) p q (flags_from source p) (flags_from source q)
  same_now p q =
      let P : (Spot → Option Spot) → Type 0 = λ from. is_same now p q ≡ same_from (is_same s) p q (from p) (from q) in
      subst P (fun_ext from_is) (single_same s now Flags source single p q)

  value_now : (p : Spot) → value_of now p ≡ (set_flags (abstract_of s) source fact).values p
  value_now (Reg q) = sym (forget_none (register_at s.registers q).value)
  value_now Flags = refl
  value_now (Slot o) = sym (forget_none (value_or_any (value_at s.slots (slot_key s.slots o))))

  pub flags_form : abstract_of now ≡ set_flags (abstract_of s) source fact
  flags_form = form_same (abstract_of now) (set_flags (abstract_of s) source fact) (λ r. refl) value_now (λ o. refl) same_now refl refl (λ o. refl)

  pub flags_state : IsDivision classes → IsFact fact → IsState now
  flags_state division is = record {
    registers = is_s.registers;
    probed = is_s.probed;
    ranges = is_s.ranges;
    frame = is_s.frame;
    slots = is_s.slots;
    classes = division;
    named = named_kept s now Flags source single is_s.slots is_s.named (λ a there. there);
    fact = is;
  }
