-- The ranges of abstract forms: what holds of the form of each state.
use Rattle.std.specs.Prelude.{◌≡◌, ◌≢◌, ℕ, ◌^◌, ◌≤◌, ◌⊎◌, ℤ, pos, ◌-ℤ◌, ◌≤ℤ◌, ◌<ℤ◌, true, List}
use Rattle.vw_names.specs.declared.spot.Spot.{Spot}
use Rattle.vw_names.specs.declared.spot.Spot.TheVariants.{Reg, Flags, Slot}
use Rattle.vw_stack.specs.declared.offset.Offset.TheVariants as offset
use Rattle.vw_values.specs.declared.value.Value.{Value}
use Rattle.vw_values.specs.declared.value.Value.TheVariants.{Any}
use Rattle.vw_values.specs.Values.{IsValue, IsAmong}
use Rattle.vw_domain.specs.Registers.{IsWithin, OffsetFits}
use Rattle.vw_domain.specs.State.{IsFact, IsNarrow}
use Rattle.vw_domain.specs.Abstract.{Abstract}

-- nothing is known where there is no slot, and a slot of 4 bytes has a number of as many
abbrev pub SlotFits : ℕ → Value → Type 0
SlotFits size v = ((size ≡ 0) × (v ≡ Any)) ⊎ (size ≡ 8) ⊎ ((size ≡ 4) × IsNarrow v)

-- What the laws of the equations read of the form of a state, with bounds among these. The offsets of slots and bytes need
-- no limits for them.
pub record IsForm (bounds : List ℕ) (s : Abstract) : Type 0 where
  pub values : (p : Spot) → IsValue (s.values p)
  pub among : (p : Spot) → IsAmong bounds (s.values p)
  pub offsets : (r : ℕ) → OffsetFits (s.offsets r) (s.values (Reg r))
  pub slots : (o : ℤ) → SlotFits (s.sizes o) (s.values (Slot o))
  pub fact : IsFact s.fact
  pub written : (o : ℤ) → s.written o ≡ true → o <ℤ pos 0
  -- each place is in its own class, and a class names slots that are there
  pub itself : (p : Spot) → s.same p p ≡ true
  pub alone_left : (p : Spot) (o : ℤ) → s.sizes o ≡ 0 → s.same (Slot o) p ≡ true → p ≡ Slot o
  pub alone_right : (p : Spot) (o : ℤ) → s.sizes o ≡ 0 → s.same p (Slot o) ≡ true → p ≡ Slot o

-- nothing is known of the register
pub record IsUnknownAt (s : Abstract) (r : ℕ) : Type 0 where
  pub offset : s.offsets r ≡ offset.Unknown
  pub value : s.values (Reg r) ≡ Any
  pub alone : (p : Spot) → s.same (Reg r) p ≡ true → p ≡ Reg r

-- The form is that of a state, with bounds among these: what is known lies in the frame and in the seventeen registers, and
-- the classes are those of an equivalence.
pub record IsStateForm (bounds : List ℕ) (s : Abstract) : Type 0 where
  pub form : IsForm bounds s
  pub probed : s.probed ≤ 2 ^ 32
  pub frame : (o : ℤ) → s.written o ≡ true → (pos 0 -ℤ pos (2 ^ 32)) ≤ℤ o
  pub slots : (o : ℤ) → s.sizes o ≢ 0 → IsWithin (2 ^ 32) o
  pub compared : s.values Flags ≡ Any
  pub registers : (r : ℕ) → 17 ≤ r → IsUnknownAt s r
  pub symmetric : (p q : Spot) → s.same p q ≡ true → s.same q p ≡ true
  pub transitive : (p q t : Spot) → s.same p q ≡ true → s.same q t ≡ true → s.same p t ≡ true
