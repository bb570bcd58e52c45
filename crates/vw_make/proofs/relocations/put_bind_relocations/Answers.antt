use Rattle.std.proofs.Common.{ℕ, arith}
use Rattle.vw_make.specs.Bounds.{BindFits}
use Rattle.vw_make.proofs.Places.{plan_facts, item_here}
use Rattle.vw_make.proofs.relocations.put_bind_relocations.Goals as goal

pub overflow_add-entry : goal.overflow_add-entry
overflow_add-entry c =
    let facts = plan_facts c.requires in
    let fits = item_here (λ (bind : ℕ × ℕ). BindFits c.args.plan.now.parts.now bind) _ _ c.as_slice-binds.ensures c.requires.bounds.binds c.loop-bind.bind-index (0, 0) c.loop-bind-test.true in
    omega (arith, fits.inside, facts.content, facts.ordered.dynamic, facts.ordered.symbols, facts.ordered.strings, facts.ordered.sections, facts.fits)

pub overflow_add-entry-in-loop-bind : goal.overflow_add-entry-in-loop-bind
overflow_add-entry-in-loop-bind c =
    let facts = plan_facts c.requires in
    let fits = item_here (λ (bind : ℕ × ℕ). BindFits c.args.plan.now.parts.now bind) _ _ c.as_slice-binds.ensures c.requires.bounds.binds c.loop-bind.bind-index (0, 0) c.loop-bind-test.true in
    omega (arith, fits.import, facts.low.lucet_tables, facts.sizes.imports, facts.ordered.lucet_tables)
