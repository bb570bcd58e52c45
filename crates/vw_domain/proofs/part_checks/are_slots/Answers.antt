use Rattle.std.proofs.Common.{rules, ◌≤◌, ◌<◌, length, refl}
use Rattle.std.specs.Prelude.{pos}
use Rattle.vw_values.specs.declared.value.Value.TheVariants.{Any}
use Rattle.vw_domain.proofs.PartChecks.{slots_next, slots_end}
use Rattle.vw_domain.proofs.part_checks.are_slots.Goals as goal

pub returns-then-not-is_next_slot : goal.returns-then-not-is_next_slot
returns-then-not-is_next_slot c =
    let within : c.loop-slot.slot-index < length c.args.slots.now = search rules in
    (λ never. absurd (cc), λ are. c.if-not-is_next_slot.ensures.1 (slots_next _ c.args.slots.now c.loop-slot.slot-index (record { offset = pos 0; size = 0; value = Any }) within c.loop-slot.invariant.from are))

pub returns : goal.returns
returns c =
    let end : length c.args.slots.now ≤ c.loop-slot.slot-index = search rules in
    (λ _. slots_end _ c.args.slots.now c.loop-slot.slot-index end c.loop-slot.invariant.to, λ _. refl)
