use Rattle.std.proofs.Common.{◌∙◌, ◌*◌, ◌++◌, ℕ, ap, arith}
use Rattle.vw_make.specs.Bytes.{zeros}
use Rattle.vw_make.specs.Tables.{slots}
use Rattle.vw_make.proofs.Places.{plan_facts}
use Rattle.vw_make.proofs.tables.put_slots.Goals as goal

pub overflow_mul-plan : goal.overflow_mul-plan
overflow_mul-plan c =
    let facts = plan_facts c.requires in
    omega (arith, facts.ordered.lucet_tables, facts.low.lucet_tables)

pub returns : goal.returns
unfolding slots
returns c =
    let facts = plan_facts c.requires in
    c.in_ok-put_zeros.ensures ∙ ap (λ (n : ℕ). c.args.out.now.items ++ zeros (8 * n)) facts.sizes.imports
