use mir.Val.{SFits}
use Rattle.std.proofs.lemmas.Int.{to_z-of_z}
use Rattle.std.proofs.Common.{rules, w64, ◌≡◌, List, sym, subst, ap, ◌∙◌}
use Rattle.std.specs.Prelude.{ℤ}
use Rattle.std.specs.List.{All}
use Rattle.vw_values.specs.declared.value.Value.{Value}
use Rattle.vw_domain.specs.declared.state_parts.Slot.{Slot}
use Rattle.vw_domain.specs.StateParts.{HasSize, entry_of}
use Rattle.vw_domain.proofs.PartLemmas.{item_at, all_push, entries_push}
use Rattle.vw_domain.proofs.state_parts.slots_of.Goals as goal

pub loop-i-preserved : goal.loop-i-preserved
loop-i-preserved c =
    let slots : List (ℤ × Value) = c.args.slots.now in
    let key : ℤ = c.in-Some.key in
    let entry : ℤ × Value = (key, c.in-Some.value.now) in
    let item = item_at slots c.loop-i.i entry c.in-Some.ensures.entry in
    let fits : SFits w64 key = search rules in
    let with_key : ℤ → ℤ × Value = λ k. (k, c.in-Some.value.now) in
    let is : entry_of c.slot_of.result ≡ entry = c.slot_of.ensures.entry ∙ ap with_key (to_z-of_z w64 key fits) in
    record {
      entries = entries_push slots c.loop-i.list c.push.new.self c.loop-i.i c.slot_of.result entry item is c.in_ok-push-in-Some.ensures.ok c.loop-i.invariant.entries;
      sizes = subst (λ (xs : List Slot). All HasSize xs) (sym c.in_ok-push-in-Some.ensures.ok) (all_push HasSize c.loop-i.list c.slot_of.result c.loop-i.invariant.sizes c.slot_of.ensures.size);
    }
