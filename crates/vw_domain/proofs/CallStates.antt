-- A call returned: the state stays one, in its bounds.
use Rattle.std.proofs.Common.{◌≡◌, ℕ, ◌^◌, ◌≤◌, List, refl, sym, ap, subst, ◌∙◌, arith, None, inl, inr, Bool, true, false}
use Rattle.std.proofs.lemmas.Int.{ints}
use Rattle.std.specs.Prelude.{ℤ, pos, ◌-ℤ◌, ◌≤ℤ◌, ◌<ℤ◌, ◌||◌, ◌&&◌, ◌==◌, not, nat_lt, if◌then◌else◌}
use Rattle.std.specs.Option.{option_map}
use Rattle.vw_lattice.specs.Entries.{value_at}
use Rattle.vw_locals.specs.Ranges.{IsRanges, is_written, is_between}
use Rattle.vw_names.specs.declared.spot.Spot.{Spot}
use Rattle.vw_names.specs.declared.spot.Spot.TheVariants.{Reg, Flags, Slot}
use Rattle.vw_names.specs.Division.{root}
use Rattle.vw_stack.specs.declared.offset.Offset.{Offset}
use Rattle.vw_stack.specs.declared.offset.Offset.TheVariants as offset
use Rattle.vw_values.specs.declared.value.Value.{Value}
use Rattle.vw_values.specs.declared.value.Value.TheVariants.{Any, Num}
use Rattle.vw_values.specs.Values.{IsAmong}
use Rattle.vw_domain.specs.declared.gone.Gone.{Gone}
use Rattle.vw_domain.specs.declared.parts.Fact.{Fact}
use Rattle.vw_domain.specs.declared.parts.Parts.{Parts}
use Rattle.vw_domain.specs.declared.registers.Register.{Register}
use Rattle.vw_domain.specs.Registers.{register_at, OffsetFits, IsRegister}
use Rattle.vw_domain.specs.State.{IsState, IsThere, IsInFrame, IsFact, Fits, key_of, plain_register}
use Rattle.vw_domain.specs.Abstract.{abstract_of, is_place, is_there, value_of, class_number, is_same}
use Rattle.vw_domain.specs.Changes.{forget, call_fresh, is_pushed}
use Rattle.vw_domain.specs.Stores.{is_left, lowest_key, key_limit, IsCallOffset, Calls}
use Rattle.vw_domain.specs.Writes.{is_gone, forgotten_register}
use Rattle.vw_domain.proofs.Lowers.{or_cases}
use Rattle.vw_domain.proofs.ForgetLemmas.{register_left, forget_keeps, slots_among_left}
use Rattle.vw_domain.proofs.WriteLemmas.{form_same}
use Rattle.vw_domain.proofs.LeaveLemmas.{or_both}
use Rattle.vw_domain.proofs.GroupLemmas.{named_left}
use Rattle.vw_domain.proofs.CallForms.{gone_at, call_leaves, values_t, before, are_now, register_now, written_now}

pub call_offset : (o : Offset) (v : Value) → OffsetFits o v → IsCallOffset o
call_offset offset.Unknown v fits = tt
call_offset (offset.Known c) v fits = fits.0

pushed_frame : (c x : ℤ) → (pos 0 -ℤ pos (2 ^ 31)) ≤ℤ c → is_pushed (offset.Known c) x ≡ true → ((c -ℤ pos 8) ≤ℤ x) × (x <ℤ pos 0)
pushed_frame c x low h = (grind (arith, ints), grind (arith, ints))

in_frame : (o : Offset) (x : ℤ) → IsCallOffset o → is_pushed o x ≡ true → ((pos 0 -ℤ pos (2 ^ 32)) ≤ℤ x) × (x <ℤ pos 0)
in_frame offset.Unknown x is h = absurd (cc)
in_frame (offset.Known c) x is h =
    let from = is.0 in
    let both = pushed_frame c x from h in
    let low = both.0 in
    (omega (arith, ints), both.1)

fresh_register : (b : Bool) → IsRegister (plain_register (if b then Num else Any))
fresh_register true = record { value = tt; offset = tt }
fresh_register false = record { value = tt; offset = tt }

fresh_among : (bounds : List ℕ) (b : Bool) → IsAmong bounds (if b then Num else Any)
fresh_among bounds true = tt
fresh_among bounds false = tt

module _ (s t : Parts) (c : Offset) (gone : Gone) (kept : ℕ → Bool) (is_not : (r : ℕ) → is_gone gone r ≡ not (kept r)) (is_s : IsState s) (calls : Calls c gone s t) (is_c : IsCallOffset c) where
  row_now : (q : ℕ) → IsRegister (register_at t.registers q)
  row_now q = subst (λ (r : Register). IsRegister r) (sym (register_now s t c gone kept is_not is_s calls q)) (either (is_gone gone q))
    where
      either : (b : Bool) → IsRegister (if b then plain_register (call_fresh (Reg q)) else forgotten_register gone (register_at s.registers q))
      either true = fresh_register (nat_lt q 16)
      either false = register_left gone (register_at s.registers q) (is_s.registers.registers q)

  row_among : (b : List ℕ) → Fits b s → (q : ℕ) → IsAmong b (register_at t.registers q).value
  row_among b fits q = subst (λ (r : Register). IsAmong b r.value) (sym (register_now s t c gone kept is_not is_s calls q)) (either (is_gone gone q))
    where
      either : (x : Bool) → IsAmong b (if x then plain_register (call_fresh (Reg q)) else forgotten_register gone (register_at s.registers q)).value
      either true = fresh_among b (nat_lt q 16)
      either false = forget_keeps (λ (v : Value). IsAmong b v) (is_gone gone) (register_at s.registers q).value tt (fits.registers q)

  still : (a : ℕ) → gone_at s t c gone kept is_not is_s calls a ≡ false → IsThere s.slots a → IsThere t.slots a
  still a stays (inl low) = inl low
  still a stays (inr has) =
      let two = or_both (a == 256) (is_left gone a || is_between lowest_key (key_limit c) (key_of a)) stays in
      let one = or_both (is_left gone a) (is_between lowest_key (key_limit c) (key_of a)) two.1 in
      inr (
        forget (is_gone gone) has.0,
        values_t s t c gone kept is_not is_s calls (key_of a)
            ∙ ap (λ (b : Bool). option_map (forget (is_gone gone)) (if b then None else value_at s.slots (key_of a))) one.1
            ∙ ap (option_map (forget (is_gone gone))) has.1,
      )

  frame_now : IsInFrame t.written
  frame_now x h = elim (or_cases (is_pushed c x) (is_written s.written x) (sym (written_now s t c gone kept is_not is_s calls x) ∙ h)) [
    | inl new ↦ in_frame c x is_c new
    | inr old ↦ is_s.frame x old
  ]

  pub called_state : IsState t
  called_state = record {
    registers = record { seventeen = calls.row.seventeen; registers = row_now };
    probed = subst (λ (x : ℕ). x ≤ 2 ^ 32) (sym (calls.probed ∙ calls.loses.probed ∙ ap (λ (p : Parts). p.probed) calls.push.others)) is_s.probed;
    ranges = subst (λ (w : List (ℤ × ℤ)). IsRanges w) (sym (calls.written ∙ calls.loses.written)) (calls.push.ranges is_s.ranges);
    frame = frame_now;
    slots = are_now s t c gone kept is_not is_s calls;
    classes = calls.division;
    named =
        let leaves = call_leaves s t c gone kept is_not is_s calls in
        named_left s t (gone_at s t c gone kept is_not is_s calls) is_s.named leaves.others still leaves.alone;
    fact = subst (λ (x : Fact). IsFact x) (sym calls.fact) tt;
  }

  pub called_fits : (b : List ℕ) → Fits b s → Fits b t
  called_fits b fits = record {
    registers = row_among b fits;
    slots = slots_among_left gone calls.left.slots t.slots calls.slots b (λ key v found. fits.slots key v (before s t c gone kept is_not is_s calls key v found));
  }

-- ---- a probe came back

module _ (t : Parts) (n : ℕ) where
  abbrev deep : Parts
  deep = record t { probed = n }

  deep_there : (p : Spot) → is_there deep p ≡ is_there t p
  deep_there (Reg q) = refl
  deep_there Flags = refl
  deep_there (Slot o) = refl

  deep_number : (p : Spot) → class_number deep p ≡ class_number t p
  deep_number (Reg q) = refl
  deep_number Flags = refl
  deep_number (Slot o) = refl

  deep_value : (p : Spot) → value_of deep p ≡ value_of t p
  deep_value (Reg q) = refl
  deep_value Flags = refl
  deep_value (Slot o) = refl

  deep_same : (p q : Spot) → is_same deep p q ≡ is_same t p q
  deep_same p q =
      let test : Bool → Bool → ℕ → ℕ → Bool = λ a b m k. is_place p q || (a && (b && (root t.classes m == root t.classes k))) in
      ap (λ (a : Bool). test a (is_there deep q) (class_number deep p) (class_number deep q)) (deep_there p)
      ∙ ap (λ (b : Bool). test (is_there t p) b (class_number deep p) (class_number deep q)) (deep_there q)
      ∙ ap (λ (m : ℕ). test (is_there t p) (is_there t q) m (class_number deep q)) (deep_number p)
      ∙ ap (λ (k : ℕ). test (is_there t p) (is_there t q) (class_number t p) k) (deep_number q)

  pub deep_form : abstract_of deep ≡ record (abstract_of t) { probed = n }
  deep_form = form_same (abstract_of deep) (record (abstract_of t) { probed = n }) (λ r. refl) deep_value (λ o. refl) deep_same refl refl (λ o. refl)

  pub deep_state : n ≤ 2 ^ 32 → IsState t → IsState deep
  deep_state within is = record {
    registers = is.registers;
    probed = within;
    ranges = is.ranges;
    frame = is.frame;
    slots = is.slots;
    classes = is.classes;
    named = is.named;
    fact = is.fact;
  }
