use mir.Val.{SFits}
use Rattle.std.proofs.lemmas.Int.{to_z-of_z, ints}
use Rattle.std.proofs.Common.{rules, arith, w64, to_z, of_z, ◌≡◌, ◌⊎◌, ◌^◌, ◌<◌, ℕ, ℤ, pos, ◌≤ℤ◌, sym, subst}
use Rattle.std.specs.Prelude.{◌-ℤ◌}
use Rattle.vw_names.specs.declared.spot.Spot.{Spot}
use Rattle.vw_names.specs.declared.spot.Spot.TheVariants.{Reg, Slot}
use Rattle.vw_domain.specs.State.{wide_key, narrow_key}
use Rattle.vw_domain.specs.StateParts.{IsPlaceOf}
use Rattle.vw_domain.proofs.PartLemmas.{place_of_register, place_of_slot}
use Rattle.vw_domain.proofs.state_parts.place_of.Goals as goal

pub returns-in-Reg : goal.returns-in-Reg
returns-in-Reg c =
    let r : ℕ = c.in-Reg.register in
    let fits : r < 256 = search rules in
    subst (λ (n : Spot). IsPlaceOf n (Reg r)) (sym c.in-Reg.is) (place_of_register r fits)

pub returns-in-Slot : goal.returns-in-Slot
returns-in-Slot c =
    let key : ℤ = c.in-Slot.key in
    let o : ℤ = c.offset_of_key.result in
    let fits_key : SFits w64 key = search rules in
    let fits : SFits w64 o = search rules in
    let low : (pos 0 -ℤ pos (2 ^ 63)) ≤ℤ key = omega (arith, ints, fits_key) in
    let read_key : to_z w64 (of_z w64 key) ≡ key = to_z-of_z w64 key fits_key in
    let read : to_z w64 (of_z w64 o) ≡ o = to_z-of_z w64 o fits in
    let is : (key ≡ wide_key o) ⊎ (key ≡ narrow_key o) = subst (λ (k : ℤ). (k ≡ wide_key o) ⊎ (k ≡ narrow_key o)) read_key c.offset_of_key.ensures in
    subst (λ (n : Spot). IsPlaceOf n (Slot (to_z w64 (of_z w64 o)))) (sym c.in-Slot.is) (subst (λ (x : ℤ). IsPlaceOf (Slot key) (Slot x)) (sym read) (place_of_slot key o low is))
