-- Slots that are lost, and places that leave their classes.
use Rattle.std.proofs.Common.{◌≡◌, ℕ, ◌^◌, ◌<◌, ◌≤◌, ◌⊎◌, List, refl, sym, subst, ◌∙◌, arith, None, inl, inr, Bool, true, false}
use Rattle.std.proofs.Math.Path.{fun_ext}
use Rattle.std.proofs.lemmas.Int.{ints}
use Rattle.std.proofs.lemmas.Bool.Decides.{Decides-int_eq}
use Rattle.std.specs.Ordering.{int_eq}
use Rattle.std.specs.Prelude.{ℤ, pos, negsuc, ◌+ℤ◌, ◌-ℤ◌, ◌≤ℤ◌, ◌<ℤ◌, Option, ◌||◌, if◌then◌else◌}
use Rattle.vw_lattice.specs.Entries.{IsAscending, value_at}
use Rattle.vw_locals.specs.Ranges.{is_between}
use Rattle.vw_names.specs.Division.{IsDivision, IsAlone, LeavesBetween}
use Rattle.vw_names.specs.Spot.{slot_number}
use Rattle.vw_values.specs.declared.value.Value.{Value}
use Rattle.vw_domain.specs.declared.parts.Parts.{Parts}
use Rattle.vw_domain.specs.State.{wide_key, key_of}
use Rattle.vw_domain.specs.Stores.{LeavesAll, LosesSlots, is_wide_at}
use Rattle.vw_domain.proofs.SameLemmas.{one_test}

-- ---- keys and numbers

pub number_is : (key : ℤ) → (pos 0 -ℤ pos (2 ^ 63)) ≤ℤ key → pos (slot_number key) ≡ (key +ℤ pos (2 ^ 64))
number_is (pos n) low = omega (arith, ints)
number_is (negsuc n) low = omega (arith, ints)

pub between_low : (low high key : ℤ) → is_between low high key ≡ true → low ≤ℤ key
between_low low high key h = grind (arith, ints)

pub between_high : (low high key : ℤ) → is_between low high key ≡ true → key <ℤ high
between_high low high key h = grind (arith, ints)

pub between_from : (low high key : ℤ) → low ≤ℤ key → key <ℤ high → is_between low high key ≡ true
between_from low high key low_is high_is = grind (arith, ints)

pub beside : (low high key : ℤ) → is_between low high key ≡ false → (key <ℤ low) ⊎ (high ≤ℤ key)
beside low high key h = grind (arith, ints)

from_number : (z : ℤ) (n a k : ℕ) → pos n ≡ (z +ℤ pos k) → z ≤ℤ (pos a -ℤ pos k) → n ≤ a
from_number z n a k is from = omega (arith, ints)

below_number : (z : ℤ) (n a k : ℕ) → pos n ≡ (z +ℤ pos k) → (pos a -ℤ pos k) <ℤ z → a < n
below_number z n a k is less = omega (arith, ints)

cut_values : (low high key : ℤ) (x y : Option Value) → (low ≤ℤ key → key <ℤ high → x ≡ None) → ((key <ℤ low) ⊎ (high ≤ℤ key) → x ≡ y) → x ≡ (if is_between low high key then None else y)
cut_values low high key x y inside outside = go (is_between low high key) refl
  where
    go : (b : Bool) → is_between low high key ≡ b → x ≡ (if b then None else y)
    go true h = inside (between_low low high key h) (between_high low high key h)
    go false h = outside (beside low high key h)

module _ (low high : ℤ) (is_low : (pos 0 -ℤ pos (2 ^ 63)) ≤ℤ low) (is_high : (pos 0 -ℤ pos (2 ^ 63)) ≤ℤ high) where
  beside_number : (a : ℕ) → is_between low high (key_of a) ≡ false → (a < slot_number low) ⊎ (slot_number high ≤ a)
  beside_number a h = elim (beside low high (key_of a) h) [
    | inl less ↦ inl (below_number low (slot_number low) a (2 ^ 64) (number_is low is_low) less)
    | inr more ↦ inr (from_number high (slot_number high) a (2 ^ 64) (number_is high is_high) more)
  ]

  pub between_leave : (old new : List (ℕ × ℕ)) → LeavesBetween (slot_number low) (slot_number high) old new → LeavesAll (λ a. is_between low high (key_of a)) old new
  between_leave old new leaves = record {
    alone = λ a h.
        leaves.alone a (from_number low (slot_number low) a (2 ^ 64) (number_is low is_low) (between_low low high (key_of a) h))
        (below_number high (slot_number high) a (2 ^ 64) (number_is high is_high) (between_high low high (key_of a) h));
    others = λ a b h g. leaves.others a b (beside_number a h) (beside_number b g);
  }

  pub between_lost : (s : Parts) (slots : List (ℤ × Value)) (classes : List (ℕ × ℕ)) → IsAscending slots → ((key : ℤ) → low ≤ℤ key → key <ℤ high → value_at slots key ≡ None) → ((key : ℤ) → (key <ℤ low) ⊎ (high ≤ℤ key) → value_at slots key ≡ value_at s.slots key) → LeavesBetween (slot_number low) (slot_number high) s.classes classes → IsDivision classes → LosesSlots (is_between low high) s (record s { slots = slots; classes = classes })
  between_lost s slots classes ascends inside outside leaves division = record {
    ascending = ascends;
    values = λ key. cut_values low high key (value_at slots key) (value_at s.slots key) (inside key) (outside key);
    classes = between_leave s.classes classes leaves;
    division = division;
    registers = refl;
    probed = refl;
    written = refl;
    fact = refl;
  }

-- ---- one after the other

or_true : (a b : Bool) → (a || b) ≡ true → a ≡ false → b ≡ true
or_true true b h is = absurd (cc)
or_true false b h is = h

pub or_both : (a b : Bool) → (a || b) ≡ false → (a ≡ false) × (b ≡ false)
or_both true b h = absurd (cc)
or_both false b h = (refl, h)

pub true_or_false : (b : Bool) → (b ≡ true) ⊎ (b ≡ false)
true_or_false true = inl refl
true_or_false false = inr refl

module _ (f g : ℕ → Bool) (old mid new : List (ℕ × ℕ)) (first : LeavesAll f old mid) (second : LeavesAll g mid new) where
  still_alone : (a : ℕ) → f a ≡ true → g a ≡ false → IsAlone new a
  still_alone a is not b same = elim (true_or_false (g b)) [
    | inl too ↦ sym (second.alone b too a (sym same))
    | inr stays ↦ first.alone a is b ((second.others a b not stays).0 same)
  ]

  pub leave_both : LeavesAll (λ a. g a || f a) old new
  leave_both = record {
    alone = λ a h. elim (true_or_false (g a)) [
      | inl here ↦ second.alone a here
      | inr not ↦ still_alone a (or_true (g a) (f a) h not) not
    ];
    others = λ a b h k.
        let no_a = or_both (g a) (f a) h in
        let no_b = or_both (g b) (f b) k in
        let one = first.others a b no_a.1 no_b.1 in
        let two = second.others a b no_a.0 no_b.0 in
        (λ same. one.0 (two.0 same), λ same. two.1 (one.1 same));
  }

value_both : (a b : Bool) (x y z : Option Value) → y ≡ (if a then None else x) → z ≡ (if b then None else y) → z ≡ (if b || a then None else x)
value_both a true x y z first second = second
value_both a false x y z first second = second ∙ first

pub lose_both : (f g : ℤ → Bool) (old mid new : Parts) → LosesSlots f old mid → LosesSlots g mid new → LosesSlots (λ key. g key || f key) old new
lose_both f g old mid new first second = record {
  ascending = second.ascending;
  values = λ key. value_both (f key) (g key) (value_at old.slots key) (value_at mid.slots key) (value_at new.slots key) (first.values key) (second.values key);
  classes = leave_both (λ a. f (key_of a)) (λ a. g (key_of a)) old.classes mid.classes new.classes first.classes second.classes;
  division = second.division;
  registers = second.registers ∙ first.registers;
  probed = second.probed ∙ first.probed;
  written = second.written ∙ first.written;
  fact = second.fact ∙ first.fact;
}

-- ---- under another name

pub lose_as : (f g : ℤ → Bool) (old new : Parts) → ((key : ℤ) → f key ≡ g key) → LosesSlots f old new → LosesSlots g old new
lose_as f g old new same loses = subst (λ (h : ℤ → Bool). LosesSlots h old new) (fun_ext same) loses

wide_at : (o low high key : ℤ) → low ≡ wide_key o → high ≡ (low +ℤ pos 1) → is_between low high key ≡ true → int_eq key (wide_key o) ≡ true
wide_at o low high key is_low is_high h = grind (arith, ints, Decides-int_eq)

at_wide : (o low high key : ℤ) → low ≡ wide_key o → high ≡ (low +ℤ pos 1) → int_eq key (wide_key o) ≡ true → is_between low high key ≡ true
at_wide o low high key is_low is_high h = grind (arith, ints, Decides-int_eq)

-- a range of one key
pub lose_one : (o low high : ℤ) (old new : Parts) → low ≡ wide_key o → high ≡ (low +ℤ pos 1) → LosesSlots (is_between low high) old new → LosesSlots (is_wide_at o) old new
lose_one o low high old new is_low is_high loses = lose_as (is_between low high) (is_wide_at o) old new
    (λ key. one_test (is_between low high key) (is_wide_at o key) (wide_at o low high key is_low is_high) (at_wide o low high key is_low is_high))
    loses

-- the same range
pub lose_range : (low high lo hi : ℤ) (old new : Parts) → low ≡ lo → high ≡ hi → LosesSlots (is_between low high) old new → LosesSlots (is_between lo hi) old new
lose_range low high lo hi old new is_low is_high loses =
    let P : ℤ → Type 0 = λ z. LosesSlots (is_between z hi) old new in
    let Q : ℤ → Type 0 = λ z. LosesSlots (is_between low z) old new in
    subst P is_low (subst Q is_high loses)
