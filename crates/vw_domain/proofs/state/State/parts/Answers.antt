use Rattle.std.proofs.Common.{List, refl, subst, sym, ◌∙◌}
use Rattle.vw_names.specs.declared.spot.Spot.{Spot}
use Rattle.vw_domain.specs.declared.parts.Parts.{Parts}
use Rattle.vw_domain.specs.declared.state_parts.StateParts.{StateParts}
use Rattle.vw_domain.specs.StateParts.{AreClassesOf, HasParts}
use Rattle.vw_domain.proofs.PartLemmas.{has_parts}
use Rattle.vw_domain.specs.State.{IsState}
use Rattle.vw_domain.proofs.state.State.parts.Goals as goal

pub returns : goal.returns
returns c =
    let parts : StateParts = record {
      offsets = c.in_ok-offsets.offsets;
      values = c.in_ok-values.values;
      probed = c.deref-parts.result.now.probed;
      written = c.in_ok-written.written;
      slots = c.in_ok-slots.slots;
      classes = c.in_ok-classes.classes;
      fact = c.deref-parts.result.now.fact;
    } in
    let classes : AreClassesOf c.in_ok-names.names parts.classes = subst (λ (xs : List (List Spot)). AreClassesOf xs c.in_ok-classes.classes) c.as_slice.ensures c.in_ok-classes.ensures in
    subst (λ (s : Parts). HasParts s parts) (c.deref-parts.ensures ∙ c.self.view_is)
    (has_parts c.deref-parts.result.now parts c.in_ok-names.names (subst IsState (sym c.deref-parts.ensures) c.self.invariant) c.in_ok-offsets.ensures c.in_ok-values.ensures refl c.in_ok-written.ensures c.in_ok-slots.ensures.sizes c.in_ok-slots.ensures.entries c.in_ok-names.ensures classes refl)
