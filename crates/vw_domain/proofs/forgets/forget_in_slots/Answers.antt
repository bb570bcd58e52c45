use Rattle.std.proofs.Common.{◌≡◌, ◌≤◌, ℕ, List, length, Some, ap, sym, ◌∙◌, arith, add-one}
use Rattle.std.specs.Prelude.{ℤ, slice_get}
use Rattle.vw_lattice.specs.Entries.{with_value}
use Rattle.vw_values.specs.declared.value.Value.{Value}
use Rattle.vw_domain.specs.Changes.{forget}
use Rattle.vw_domain.specs.Writes.{is_gone}
use Rattle.vw_domain.proofs.Updates.{updated, updated_length, updated_next, updated_step}
use Rattle.vw_domain.proofs.ForgetLemmas.{forgets_slots}
use Rattle.vw_domain.proofs.forgets.forget_in_slots.Goals as goal

pub returns-in-None : goal.returns-in-None
returns-in-None c =
    let end : length c.loop-i.slots ≤ c.loop-i.i = c.in-None.ensures.entry in
    let same : length c.loop-i.slots ≡ length c.args.slots.now = ap length c.loop-i.invariant ∙ updated_length (λ key. forget (is_gone c.args.gone)) c.loop-i.i c.args.slots.now in
    absurd (omega arith)

pub set_nth-requires : goal.set_nth-requires
set_nth-requires c =
    let same : length c.loop-i.slots ≡ length c.args.slots.now = ap length c.loop-i.invariant ∙ updated_length (λ key. forget (is_gone c.args.gone)) c.loop-i.i c.args.slots.now in
    omega arith

pub loop-i-preserved : goal.loop-i-preserved
loop-i-preserved c =
    let f : ℤ → Value → Value = λ key. forget (is_gone c.args.gone) in
    let i : ℕ = c.loop-i.i in
    let old : List (ℤ × Value) = c.args.slots.now in
    let found : slice_get old i ≡ Some (c.in-Some._key, c.in-Some.value.now) =
    sym (updated_next f i old) ∙ ap (λ (es : List (ℤ × Value)). slice_get es i) (sym c.loop-i.invariant) ∙ c.in-Some.ensures.entry in
    c.set_nth.ensures
    ∙ ap (λ (v : Value). with_value c.loop-i.slots i v) c.remaining_value-remaining.ensures
    ∙ ap (λ (es : List (ℤ × Value)). with_value es i (f c.in-Some._key c.in-Some.value.now)) c.loop-i.invariant
    ∙ updated_step f i old c.in-Some._key c.in-Some.value.now found
    ∙ ap (λ (n : ℕ). updated f n old) (sym (add-one i))

pub returns : goal.returns
returns c = forgets_slots c.args.gone c.args.slots.now c.loop-i.slots c.loop-i.i c.requires (omega arith) c.loop-i.invariant
