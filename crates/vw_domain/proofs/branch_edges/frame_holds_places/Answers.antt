use Rattle.std.proofs.Common.{◌≡◌, ◌+◌, ◌^◌, Bool, true, false, is_some, arith}
use Rattle.std.proofs.lemmas.Bool.{ltb-true}
use Rattle.std.proofs.lemmas.Int.{ints}
use Rattle.std.specs.Prelude.{ℤ, pos, ◌-ℤ◌, ◌≤ℤ◌, if◌then◌else◌}
use Rattle.vw_lattice.specs.Entries.{value_at}
use Rattle.vw_names.specs.declared.spot.Spot.{Spot}
use Rattle.vw_names.specs.declared.spot.Spot.TheVariants.{Reg, Flags, Slot}
use Rattle.vw_domain.specs.declared.parts.Parts.{Parts}
use Rattle.vw_domain.specs.Registers.{IsWithin}
use Rattle.vw_domain.specs.State.{wide_key, narrow_key, IsState}
use Rattle.vw_domain.specs.Abstract.{IsFrameSpot, slot_key, is_there}
use Rattle.vw_domain.proofs.WriteLemmas.{some_has}
use Rattle.vw_domain.proofs.FrameEdges.{in_frame}
use Rattle.vw_domain.proofs.branch_edges.frame_holds_places.Goals as goal

offset_within : (b : Bool) (o : ℤ) → (pos 0 -ℤ pos (2 ^ 33)) ≤ℤ (if b then narrow_key o else wide_key o) → (if b then narrow_key o else wide_key o) ≤ℤ pos (2 ^ 33 + 1) → IsWithin (2 ^ 32) o
offset_within true o low high = (omega (arith, ints), omega (arith, ints))
offset_within false o low high = (omega (arith, ints), omega (arith, ints))

spot_within : (s : Parts) (p : Spot) → IsState s → is_there s p ≡ true → IsFrameSpot p
spot_within s (Reg r) is there = ltb-true r 17 there
spot_within s Flags is there = tt
spot_within s (Slot o) is there =
    let within = is.slots.within (slot_key s.slots o) (some_has (value_at s.slots (slot_key s.slots o)) there) in
    offset_within (is_some (value_at s.slots (narrow_key o))) o within.0 within.1

pub returns : goal.returns
returns c = λ s is p there. in_frame p (spot_within s p is there)
