use mir.Val.{SFits}
use Rattle.std.proofs.lemmas.Int.{to_z-of_z}
use Rattle.std.proofs.Common.{w64, to_z, of_z, ◌≡◌, ◌≤◌, ℕ, Bool, List, length, Some, ap, sym, ◌∙◌, arith, add-one}
use Rattle.std.specs.Prelude.{ℤ, Option, slice_get}
use Rattle.vw_lattice.specs.Entries.{with_value}
use Rattle.vw_names.specs.Spot.{slot_number}
use Rattle.vw_values.specs.declared.value.Value.{Value}
use Rattle.vw_domain.specs.Refines.{refinement, left_value, may_pass}
use Rattle.vw_domain.proofs.Updates.{updated, updated_length, updated_next, updated_step}
use Rattle.vw_domain.proofs.SlotLemmas.{key_within, key_fits}
use Rattle.vw_domain.proofs.RefineSteps.{slot_edge_step, slot_changed, slot_passes, slots_changed}
use Rattle.vw_domain.proofs.refines.edge_slots.Goals as goal

pub returns-in-None : goal.returns-in-None
returns-in-None c =
    let end : length c.loop-i.slots ≤ c.loop-i.i = c.in-None.ensures.entry in
    let same : length c.loop-i.slots ≡ length c.args.slots.now = ap length c.loop-i.invariant.slots ∙ updated_length (slot_changed (left_value c.args.classes.now (refinement c.args.comparison c.args.bounds.now) c.args.tags.now) (may_pass c.args.classes.now (refinement c.args.comparison c.args.bounds.now) c.args.tags.now)) c.loop-i.i c.args.slots.now in
    absurd (omega arith)

pub set_nth-requires : goal.set_nth-requires
set_nth-requires c =
    let same : length c.loop-i.slots ≡ length c.args.slots.now = ap length c.loop-i.invariant.slots ∙ updated_length (slot_changed (left_value c.args.classes.now (refinement c.args.comparison c.args.bounds.now) c.args.tags.now) (may_pass c.args.classes.now (refinement c.args.comparison c.args.bounds.now) c.args.tags.now)) c.loop-i.i c.args.slots.now in
    omega arith

pub loop-i-preserved : goal.loop-i-preserved
loop-i-preserved c =
    let f : Value → Option Value = refinement c.args.comparison c.args.bounds.now in
    let g : ℕ → Value → Value = left_value c.args.classes.now f c.args.tags.now in
    let test : ℕ → Value → Bool = may_pass c.args.classes.now f c.args.tags.now in
    let i : ℕ = c.loop-i.i in
    let old : List (ℤ × Value) = c.args.slots.now in
    let key : ℤ = c.in-Some.key in
    let v : Value = c.in-Some.value.now in
    let found : slice_get old i ≡ Some (key, v) =
    sym (updated_next (slot_changed g test) i old) ∙ ap (λ (es : List (ℤ × Value)). slice_get es i) (sym c.loop-i.invariant.slots) ∙ c.in-Some.ensures.entry in
    let within = key_within old i key v c.requires.slots found in
    let fits : SFits w64 key = key_fits key within.0 within.1 in
    let read : to_z w64 (of_z w64 key) ≡ key = to_z-of_z w64 key fits in
    let value : c.left_value-left.result.0 ≡ g (slot_number key) v = c.left_value-left.ensures.value ∙ ap (λ (k : ℤ). g (slot_number k) v) read in
    let passed : c.left_value-left.result.1 ≡ test (slot_number key) v = c.left_value-left.ensures.passes ∙ ap (λ (k : ℤ). test (slot_number k) v) read in
    record {
      slots =
          c.set_nth.ensures
          ∙ ap (λ (x : Value). with_value c.loop-i.slots i x) value
          ∙ ap (λ (es : List (ℤ × Value)). with_value es i (g (slot_number key) v)) c.loop-i.invariant.slots
          ∙ updated_step (slot_changed g test) i old key v found
          ∙ ap (λ (n : ℕ). updated (slot_changed g test) n old) (sym (add-one i));
      edge = slot_edge_step c.loop-i.all c.left_value-left.result.1 c.both-all.result (slot_passes g test) old i (key, v) found c.loop-i.invariant.edge passed c.both-all.ensures;
    }

pub returns : goal.returns
returns c = slots_changed (left_value c.args.classes.now (refinement c.args.comparison c.args.bounds.now) c.args.tags.now) (may_pass c.args.classes.now (refinement c.args.comparison c.args.bounds.now) c.args.tags.now) c.args.slots.now c.loop-i.slots c.loop-i.i c.loop-i.all c.requires.slots.ascending (omega arith) (omega arith) c.loop-i.invariant.slots c.loop-i.invariant.edge
