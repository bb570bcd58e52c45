use Rattle.std.proofs.Common.{◌≡◌, arith, ap, ◌∙◌}
use Rattle.std.specs.Prelude.{◌==◌, ◌&&◌}
use Rattle.vw_names.specs.Division.{root}
use Rattle.vw_names.specs.Spot.{number}
use Rattle.vw_domain.specs.Refines.{any_below, is_told}
use Rattle.vw_domain.proofs.edge_tags.is_tagged.Goals as goal

pub returns : goal.returns
returns c =
    let all : c.loop-i.i ≡ 16 = omega arith in
    c.loop-i.invariant ∙ ap (any_below (λ r. is_told c.args.tables.now r c.args.table && (root c.args.classes.now r == root c.args.classes.now (number c.args.place)))) all
