use Rattle.std.proofs.Common.{arith}
use Rattle.vw_make.proofs.Places.{plan_facts}
use Rattle.vw_make.proofs.relocations.put_slot_relocations.Goals as goal

pub overflow_cast-count : goal.overflow_cast-count
overflow_cast-count c =
    let facts = plan_facts c.requires in
    omega (arith, facts.sizes.imports, facts.ordered.lucet_tables, facts.low.lucet_tables)

pub overflow_add-entry : goal.overflow_add-entry
overflow_add-entry c =
    let facts = plan_facts c.requires in
    omega (arith, c.loop-number-test.true, facts.sizes.imports, facts.ordered.lucet_tables, facts.low.lucet_tables)
