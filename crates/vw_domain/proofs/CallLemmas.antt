-- A call returned: the state stays one, and its abstract form is that of the definition.
use Rattle.std.proofs.Common.{◌≡◌, ◌≢◌, ℕ, ◌+◌, ◌^◌, ◌<◌, ◌≤◌, List, length, refl, sym, ap, subst, ◌∙◌, arith, inl, inr, Bool, true, false, get_or-set_other, get_or-set_same, below_more}
use Rattle.std.proofs.Math.ListN.{set}
use Rattle.std.proofs.lemmas.Int.{ints}
use Rattle.std.proofs.lemmas.Bool.{cases_lt}
use Rattle.std.proofs.lemmas.Bool.Decides.{nat_tests}
use Rattle.std.specs.Prelude.{ℤ, pos, ◌-ℤ◌, ◌≤ℤ◌, ◌<ℤ◌, Result, Ok, Err, OnOk, ◌||◌, ◌&&◌, int_lt, int_le, nat_lt, if◌then◌else◌}
use Rattle.vw_locals.specs.Ranges.{is_written, is_between}
use Rattle.vw_names.specs.declared.spot.Spot.TheVariants.{Reg}
use Rattle.vw_stack.specs.declared.offset.Offset.{Offset}
use Rattle.vw_stack.specs.declared.offset.Offset.TheVariants as offset
use Rattle.vw_values.specs.declared.value.Value.TheVariants.{Any, Num}
use Rattle.vw_domain.specs.declared.gone.Gone.{Gone}
use Rattle.vw_domain.specs.declared.parts.Parts.{Parts}
use Rattle.vw_domain.specs.declared.registers.Register.{Register}
use Rattle.vw_domain.specs.Registers.{register_at, unknown_register}
use Rattle.vw_domain.specs.State.{wide_key, narrow_key, plain_register}
use Rattle.vw_domain.specs.Changes.{stays_over, call_fresh, is_pushed}
use Rattle.vw_domain.specs.Stores.{called_register, CallsRow, key_limit, AddsBelow, Pushes}
use Rattle.vw_domain.specs.Writes.{is_gone, forgotten_register}
use Rattle.vw_domain.proofs.RowLemmas.{unknown_at}
use Rattle.vw_domain.proofs.LeaveLemmas.{true_or_false}

-- ---- the row

module _ (gone : Gone) (i : ℕ) (old row : List Register) (v : Register) (within : i < length row) where
  abbrev Front : ℕ → List Register → Type 0
  Front n xs = (r : ℕ) → r < n → register_at xs r ≡ called_register gone r (register_at old r)

  pub called_step : Front i row → ((r : ℕ) → i ≤ r → register_at row r ≡ register_at old r) → v ≡ called_register gone i (register_at row i) → Front (i + 1) (set row i v)
  called_step front rest is =
      below_more _ _
      (λ r h. let other : r ≢ i = omega arith in rw get_or-set_other (front r h))
      (get_or-set_same row i v unknown_register within ∙ is ∙ ap (called_register gone i) (rest i (omega arith)))

high_fresh : (r : ℕ) → 17 ≤ r → nat_lt r 16 ≡ false
high_fresh r high = grind (arith, nat_tests)

unknown_called : (gone : Gone) (r : ℕ) → 17 ≤ r → unknown_register ≡ called_register gone r unknown_register
unknown_called gone r high = elim (true_or_false (is_gone gone r)) [
  | inl is ↦ sym (ap (λ (b : Bool). if b then plain_register (call_fresh (Reg r)) else forgotten_register gone unknown_register) is ∙ ap (λ (b : Bool). plain_register (if b then Num else Any)) (high_fresh r high))
  | inr is ↦ sym (ap (λ (b : Bool). if b then plain_register (call_fresh (Reg r)) else forgotten_register gone unknown_register) is)
]

pub called_all : (gone : Gone) (old new : List Register) → length old ≡ 17 → length new ≡ 17 → ((r : ℕ) → r < 17 → register_at new r ≡ called_register gone r (register_at old r)) → CallsRow gone old new
called_all gone old new a b front = record {
  seventeen = b;
  registers = λ r. elim (cases_lt r 17) [
    | inl less ↦ front r less
    | inr more ↦ unknown_at new r (omega arith) ∙ unknown_called gone r more ∙ sym (ap (called_register gone r) (unknown_at old r (omega arith)))
  ];
}

-- ---- the keys that are lost

pub pushes_known : (c : ℤ) (x : ℤ) → (is_between (c -ℤ pos 8) c x && int_lt x (pos 0)) ≡ is_pushed (offset.Known c) x
pushes_known c x = three (int_le (c -ℤ pos 8) x) (int_lt x c) (int_lt x (pos 0))
  where
    three : (a b d : Bool) → ((a && b) && d) ≡ (a && (b && d))
    three true b d = refl
    three false b d = refl

pub over_key : (c : Offset) (o : ℤ) → stays_over c o ≡ true → key_limit c ≤ℤ wide_key o
over_key offset.Unknown o h = absurd (cc)
over_key (offset.Known c) o h = grind (arith, ints)

pub under_key : (c : Offset) (o : ℤ) → stays_over c o ≡ false → narrow_key o ≤ℤ pos (2 ^ 33 + 1) → narrow_key o <ℤ key_limit c
under_key offset.Unknown o h high = omega (arith, ints)
under_key (offset.Known c) o h high = grind (arith, ints)

pub under_wide : (c : Offset) (o : ℤ) → stays_over c o ≡ false → wide_key o ≤ℤ pos (2 ^ 33 + 1) → wide_key o <ℤ key_limit c
under_wide offset.Unknown o h high = omega (arith, ints)
under_wide (offset.Known c) o h high = grind (arith, ints)

pub not_between : (low high key : ℤ) → high ≤ℤ key → is_between low high key ≡ false
not_between low high key h = grind (arith, ints)

pub is_in : (low high key : ℤ) → low ≤ℤ key → key <ℤ high → is_between low high key ≡ true
is_in low high key from less = grind (arith, ints)

-- ---- the return address

pub on_ok : {A E : Type 0} (r : Result A E) (P Q : Type 0) → (P → Q) → OnOk r P → OnOk r Q
on_ok (Ok x) P Q f h = f h
on_ok (Err e) P Q f h = h

pub pushed_by : (c lo hi : ℤ) (old new : Parts) → lo ≡ (c -ℤ pos 8) → hi ≡ c → AddsBelow lo hi old new → Pushes (offset.Known c) old new
pushed_by c lo hi old new is_lo is_hi given =
    let adds : AddsBelow (c -ℤ pos 8) c old new = subst (λ (z : ℤ). AddsBelow z c old new) is_lo (subst (λ (z : ℤ). AddsBelow lo z old new) is_hi given) in
    record {
      ranges = λ before. adds.ranges;
      written = λ x. adds.written x ∙ ap (λ (b : Bool). b || is_written old.written x) (pushes_known c x);
      others = adds.others;
    }
