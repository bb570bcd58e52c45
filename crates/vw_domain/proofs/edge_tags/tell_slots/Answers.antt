use mir.Val.{SFits}
use Rattle.std.proofs.lemmas.Int.{to_z-of_z}
use Rattle.std.proofs.Common.{w64, to_z, of_z, ◌≡◌, Bool, ap, ◌∙◌}
use Rattle.std.specs.Prelude.{ℤ, ◌||◌, ◌&&◌}
use Rattle.vw_names.specs.Spot.{slot_number}
use Rattle.vw_values.specs.declared.value.Value.{Value}
use Rattle.vw_domain.specs.Refines.{is_compared, is_told, tells, slot_tells}
use Rattle.vw_domain.proofs.SlotLemmas.{key_within, key_fits}
use Rattle.vw_domain.proofs.TagSets.{slot_step, entry_value}
use Rattle.vw_domain.proofs.edge_tags.tell_slots.Goals as goal

pub tell-requires-clause-value : goal.tell-requires-clause-value
tell-requires-clause-value c = entry_value c.args.slots.now c.loop-i.i c.in-Some.key c.in-Some.value.now c.requires.slots c.in-Some.ensures.entry

pub loop-i-preserved : goal.loop-i-preserved
loop-i-preserved c =
    let key : ℤ = c.in-Some.key in
    let v : Value = c.in-Some.value.now in
    let within = key_within c.args.slots.now c.loop-i.i key v c.requires.slots c.in-Some.ensures.entry in
    let fits : SFits w64 key = key_fits key within.0 within.1 in
    let read : to_z w64 (of_z w64 key) ≡ key = to_z-of_z w64 key fits in
    let counts : c.is_compared-counts.result ≡ is_compared c.args.classes.now (slot_number key) =
    c.is_compared-counts.ensures ∙ ap (λ (k : ℤ). is_compared c.args.classes.now (slot_number k)) read in
    record {
      sixteen = c.tell.ensures.sixteen;
      told = λ r t.
          slot_step (is_told c.tell.new.tables r t) (is_told c.loop-i.tables r t) (is_told c.args.tables.now r t) (slot_tells c.args.classes.now r t) c.args.slots.now c.loop-i.i (key, v) c.in-Some.ensures.entry (c.loop-i.invariant.told r t)
          (c.tell.ensures.told r t ∙ ap (λ (b : Bool). is_told c.loop-i.tables r t || (b && tells r t v)) counts);
    }
