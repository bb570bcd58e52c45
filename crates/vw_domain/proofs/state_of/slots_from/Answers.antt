use mir.Val.{SFits}
use Rattle.std.proofs.lemmas.Int.{to_z-of_z}
use Rattle.std.proofs.Common.{rules, w64, ◌<◌, length, ◌∙◌}
use Rattle.std.specs.Prelude.{ℤ, pos}
use Rattle.vw_values.specs.declared.value.Value.TheVariants.{Any}
use Rattle.vw_domain.specs.declared.state_parts.Slot.{Slot}
use Rattle.vw_domain.proofs.PartChecks.{slot_at, put_slot}
use Rattle.vw_domain.proofs.state_of.slots_from.Goals as goal

pub key_of-requires : goal.key_of-requires
key_of-requires c =
    let within : c.loop-slot.slot-index < length c.args.slots.now = search rules in
    slot_at c.args.slots.now c.loop-slot.slot-index (record { offset = pos 0; size = 0; value = Any }) c.requires within

pub loop-slot-preserved : goal.loop-slot-preserved
loop-slot-preserved c =
    let within : c.loop-slot.slot-index < length c.args.slots.now = search rules in
    let none : Slot = record { offset = pos 0; size = 0; value = Any } in
    let key : ℤ = c.key_of.result in
    let fits : SFits w64 key = search rules in
    put_slot c.args.slots.now c.loop-slot.entries c.put.new.self c.loop-slot.slot-index none _ c.requires within (to_z-of_z w64 key fits ∙ c.key_of.ensures) c.loop-slot.invariant c.in_ok-put.ensures.ascending c.in_ok-put.ensures.here c.in_ok-put.ensures.others
