use Rattle.std.proofs.Common.{◌∙◌, arith}
use Rattle.vw_make.proofs.Places.{plan_facts}
use Rattle.vw_make.proofs.Steps.{tables_piece}
use Rattle.vw_make.proofs.symbols.put_tables_symbol.Goals as goal

pub overflow_mul-entry : goal.overflow_mul-entry
overflow_mul-entry c =
    let facts = plan_facts c.requires.plan in
    omega (arith, facts.ordered.tables, facts.low.tables)

pub returns : goal.returns
returns c =
    let facts = plan_facts c.requires.plan in
    c.in_ok-put_symbol.ensures ∙ tables_piece c.args.plan.now.parts.now c.args.plan.now.layout c.args.name c.args.plan.now.sizes.tables c.args.out.now.items c.requires.name facts.sizes.tables
