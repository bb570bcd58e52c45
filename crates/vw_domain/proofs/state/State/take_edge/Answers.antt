use Rattle.std.proofs.Common.{◌≡◌, ℕ, Bool, true, IsTrue, Some, ap, sym, subst, ◌∙◌}
use Rattle.std.specs.Prelude.{◌↔◌, List, Option}
use Rattle.vw_values.specs.declared.value.Value.{Value}
use Rattle.vw_values.specs.Values.{IsTag}
use Rattle.vw_domain.specs.declared.parts.Parts.{Parts}
use Rattle.vw_domain.specs.State.{IsState, Fits}
use Rattle.vw_domain.specs.Abstract.{abstract_of}
use Rattle.vw_domain.specs.Branches.{MayGo, edge_state}
use Rattle.vw_domain.specs.FormLaws.{HoldsBounds}
use Rattle.vw_domain.specs.Refines.{refinement, is_told, rule_told, HoldsPlaces}
use Rattle.vw_domain.proofs.MoreBounds.{own_bounds, states_name_bounds}
use Rattle.vw_domain.proofs.RefineLemmas.{Refining, refining}
use Rattle.vw_domain.proofs.EdgeValues.{edge_form, edge_keeps_state, edge_fits, edge_told}
use Rattle.vw_domain.proofs.TagsTold.{small_tag, edge_is, goes_is}
use Rattle.vw_domain.proofs.state.State.take_edge.Goals as goal

-- the bounds that the state names, and those that are given
more : (c : goal.After-both) → (members : List ℕ) × HoldsBounds members c.args.bounds.now × Fits members c.deref_mut-parts.result.now
more c = let names = states_name_bounds c.deref_mut-parts.result.now (subst IsState (sym c.deref_mut-parts.ensures.value) c.self.invariant) in (names.0, names.1 c.args.bounds.now c.are_bounds.ensures, names.2)

keeps_in : (c : goal.After-both) (members : List ℕ) → HoldsBounds members c.args.bounds.now → Refining members (refinement c.args.comparison c.args.bounds.now)
keeps_in c members holds = refining c.below_is_sound.ensures.rises c.equal_is_sound.ensures.rises c.args.bounds.now c.are_bounds.ensures members holds c.args.comparison c.requires.comparison

keeps : (c : goal.After-both) → Refining (more c).0 (refinement c.args.comparison c.args.bounds.now)
keeps c = keeps_in c (more c).0 (more c).1

fit : (c : goal.After-both) → Fits (more c).0 c.deref_mut-parts.result.now
fit c = (more c).2

small : (c : goal.After-both) (r t : ℕ) → is_told c.tags_of-tags.result.tables r t ≡ true → IsTag c.tags_of-tags.result.tag
small c = small_tag c.deref_mut-parts.result.now c.args.comparison c.tags_of-tags.result c.tags_of-tags.ensures

pub invariant_of-self : goal.invariant_of-self
invariant_of-self c = edge_keeps_state c.deref_mut-parts.result.now (more c).0 (refinement c.args.comparison c.args.bounds.now) c.tags_of-tags.result c.edge_row-in_row.new.row c.edge_slots-in_slots.new.slots c.edge_row-in_row.result c.edge_slots-in_slots.result (subst IsState (sym c.deref_mut-parts.ensures.value) c.self.invariant) (fit c) (keeps c) (small c) c.edge_row-in_row.ensures c.edge_slots-in_slots.ensures

pub returns-clause-edge : goal.returns-clause-edge
returns-clause-edge c = λ site places same holds.
    let s : Parts = c.deref_mut-parts.result.now in
    let f : Value → Option Value = refinement c.args.comparison c.args.bounds.now in
    let told = edge_told s (more c).0 f c.tags_of-tags.result c.edge_row-in_row.new.row c.edge_slots-in_slots.new.slots c.edge_row-in_row.result c.edge_slots-in_slots.result (subst IsState (sym c.deref_mut-parts.ensures.value) c.self.invariant) (fit c) (keeps c) (small c) c.edge_row-in_row.ensures c.edge_slots-in_slots.ensures in
    let there : HoldsPlaces places s = subst (λ (p : Parts). HoldsPlaces places p) (sym (c.deref_mut-parts.ensures.value ∙ c.self.view_is)) holds in
    let P : Bool → Type 0 = λ b. (b ≡ true) ↔ MayGo site places (abstract_of s) (Some (rule_told c.args.comparison)) in
    let Q : Parts → Type 0 = λ p. IsTrue c.both.result ↔ MayGo site places (abstract_of p) (Some (rule_told c.args.comparison)) in
    subst Q (c.deref_mut-parts.ensures.value ∙ c.self.view_is) (subst P (sym c.both.ensures) (goes_is s c.args.bounds.now c.args.comparison c.tags_of-tags.result c.tags_of-tags.ensures site places same (subst IsState (sym c.deref_mut-parts.ensures.value) c.self.invariant) there _ told))

pub returns-clause-form : goal.returns-clause-form
returns-clause-form c = λ site places same holds.
    let s : Parts = c.deref_mut-parts.result.now in
    let f : Value → Option Value = refinement c.args.comparison c.args.bounds.now in
    let there : HoldsPlaces places s = subst (λ (p : Parts). HoldsPlaces places p) (sym (c.deref_mut-parts.ensures.value ∙ c.self.view_is)) holds in
    edge_form s (more c).0 f c.tags_of-tags.result c.edge_row-in_row.new.row c.edge_slots-in_slots.new.slots c.edge_row-in_row.result c.edge_slots-in_slots.result (subst IsState (sym c.deref_mut-parts.ensures.value) c.self.invariant) (fit c) (keeps c) (small c) c.edge_row-in_row.ensures c.edge_slots-in_slots.ensures
    ∙ edge_is s c.args.bounds.now c.args.comparison c.tags_of-tags.result c.tags_of-tags.ensures site places same (subst IsState (sym c.deref_mut-parts.ensures.value) c.self.invariant) there
    ∙ ap (λ (p : Parts). edge_state site places (abstract_of p) (Some (rule_told c.args.comparison))) (c.deref_mut-parts.ensures.value ∙ c.self.view_is)

pub returns-clause-fits : goal.returns-clause-fits
returns-clause-fits c = λ fits.
    edge_fits c.deref_mut-parts.result.now c.args.bounds.now (refinement c.args.comparison c.args.bounds.now) c.tags_of-tags.result c.edge_row-in_row.new.row c.edge_slots-in_slots.new.slots c.edge_row-in_row.result c.edge_slots-in_slots.result (subst IsState (sym c.deref_mut-parts.ensures.value) c.self.invariant)
    (subst (λ (s : Parts). Fits c.args.bounds.now s) (sym (c.deref_mut-parts.ensures.value ∙ c.self.view_is)) fits) (keeps_in c c.args.bounds.now (own_bounds c.args.bounds.now c.are_bounds.ensures)) (small c) c.edge_row-in_row.ensures c.edge_slots-in_slots.ensures
