use Rattle.std.proofs.Common.{ap, ◌∙◌}
use Rattle.std.specs.Prelude.{Bool, not, ◌&&◌}
use Rattle.vw_names.specs.Spot.{number}
use Rattle.vw_domain.specs.Refines.{is_compared}
use Rattle.vw_domain.proofs.refines.is_plain.Goals as goal

pub returns-then-not-is_entry : goal.returns-then-not-is_entry
returns-then-not-is_entry c = ap not c.is_compared.ensures ∙ ap (λ (t : Bool). not t && not (is_compared c.args.classes.now (number c.args.place))) c.if-not-is_entry.ensures

pub returns-else-not-is_entry : goal.returns-else-not-is_entry
returns-else-not-is_entry c = ap not c.if-not-is_entry.false ∙ ap (λ (t : Bool). not t && not (is_compared c.args.classes.now (number c.args.place))) c.if-not-is_entry.ensures
