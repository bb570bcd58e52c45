use Rattle.std.proofs.Common.{ap, sym, ◌≡◌, true, ◌∙◌}
use Rattle.vw_values.specs.declared.value.Value.{Value}
use Rattle.vw_names.specs.Spot.{number}
use Rattle.vw_domain.specs.Refines.{refinement}
use Rattle.vw_domain.specs.Plain.{is_plain}
use Rattle.vw_domain.proofs.PlainPlaces.{plain_value, plain_passes}
use Rattle.vw_domain.proofs.refines.edge_cell.Goals as goal

pub returns-then-is_plain : goal.returns-then-is_plain
returns-then-is_plain c =
    let plain : is_plain c.args.classes.now (number c.args.place) c.args.cell.now.value ≡ true = sym c.is_plain.ensures ∙ c.if-is_plain.true in
    record {
      value = sym (ap (λ (v : Value). record c.args.cell.now { value = v }) (plain_value c.args.classes.now (refinement c.args.comparison c.args.bounds.now) c.args.tags.now (number c.args.place) c.args.cell.now.value plain));
      passes = sym (plain_passes c.args.classes.now (refinement c.args.comparison c.args.bounds.now) c.args.tags.now (number c.args.place) c.args.cell.now.value plain);
    }
