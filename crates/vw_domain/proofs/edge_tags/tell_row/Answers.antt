use Rattle.std.proofs.Common.{◌≡◌, ℕ, arith, ap, ◌∙◌}
use Rattle.std.specs.Prelude.{◌||◌}
use Rattle.vw_domain.specs.Refines.{any_below, is_told, row_tells}
use Rattle.vw_domain.proofs.edge_tags.tell_row.Goals as goal

pub returns : goal.returns
returns c =
    let all : c.loop-i.i ≡ 17 = omega arith in
    record {
      sixteen = c.loop-i.invariant.sixteen;
      told = λ r t. c.loop-i.invariant.told r t ∙ ap (λ (n : ℕ). is_told c.args.tables.now r t || any_below (row_tells c.args.classes.now c.args.row.now r t) n) all;
    }
