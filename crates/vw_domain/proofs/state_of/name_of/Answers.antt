use mir.Val.{SFits}
use Rattle.std.proofs.lemmas.Int.{to_z-of_z, ints}
use Rattle.std.proofs.Common.{rules, arith, w64, to_z, of_z, ◌≡◌, List, subst, sym, ap, ◌∙◌}
use Rattle.std.specs.Prelude.{ℤ}
use Rattle.vw_names.specs.declared.spot.Spot.{Spot}
use Rattle.vw_names.specs.declared.spot.Spot.TheVariants.{Slot}
use Rattle.vw_values.specs.declared.value.Value.{Value}
use Rattle.vw_domain.specs.Abstract.{slot_key}
use Rattle.vw_domain.specs.PartRanges.{IsNameOf, IsPointPlace}
use Rattle.vw_domain.proofs.JoinedClasses.{near_place, slot_name}
use Rattle.vw_domain.proofs.state_of.name_of.Goals as goal
use Rattle.vw_domain.proofs.state_of.name_of.Goals.{then-offset-via-then-offset, then-offset-via-else-offset+then-offset-gt-FAR}

pub returns-then-offset : goal.returns-then-offset
returns-then-offset c = λ is.
    let here : IsPointPlace c.args.slots.now (Slot c.in-Slot.offset) = subst (λ (p : Spot). IsPointPlace c.args.slots.now p) c.in-Slot.is is in
    let near = near_place c.args.slots.now c.in-Slot.offset c.requires here.place in
    let low = near.0 in
    let high = near.1 in
    elim c.then-offset.branch [
      | then-offset-via-then-offset w ↦ omega (arith, ints, w.if-offset)
      | then-offset-via-else-offset+then-offset-gt-FAR w ↦ omega (arith, ints, w.if-offset-gt-FAR)
    ]

pub returns-in-Some : goal.returns-in-Some
returns-in-Some c =
    let slots : List (ℤ × Value) = c.args.slots.now in
    let o : ℤ = c.in-Slot.offset in
    let key : ℤ = c.key_at-key.result in
    let fits_o : SFits w64 o = search rules in
    let fits : SFits w64 key = search rules in
    let is : to_z w64 (of_z w64 key) ≡ slot_key slots o = to_z-of_z w64 key fits ∙ c.key_at-key.ensures ∙ ap (slot_key slots) (to_z-of_z w64 o fits_o) in
    subst (λ (p : Spot). IsNameOf slots p (Slot (to_z w64 (of_z w64 key)))) (sym c.in-Slot.is) (slot_name slots o (to_z w64 (of_z w64 key)) c.in-Some.field-0.now is c.in-Some.ensures)
