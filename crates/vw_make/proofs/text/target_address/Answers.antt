use Rattle.std.proofs.Common.{◌<◌, ◌*◌, length, subst, arith, refl}
use Rattle.vw_make.specs.declared.parts.Target.{Target}
use Rattle.vw_make.specs.Bounds.{IsThere}
use Rattle.vw_make.proofs.Places.{plan_facts, place_of, function_fits}
use Rattle.vw_make.proofs.text.target_address.Goals as goal

pub overflow_add-result : goal.overflow_add-result
overflow_add-result c =
    let facts = plan_facts c.requires.plan in
    let there : c.in-Stub.number < length c.args.plan.now.parts.now.imports = subst (λ (t : Target). IsThere c.args.plan.now.parts.now t) c.in-Stub.is c.requires.there in
    omega (arith, there, facts.sizes.imports, facts.ordered.text_end, facts.low.text_end)

pub overflow_add-result-in-Tables : goal.overflow_add-result-in-Tables
overflow_add-result-in-Tables c =
    let facts = plan_facts c.requires.plan in
    let there : c.in-Tables.byte < 16 * length c.args.plan.now.parts.now.tables = subst (λ (t : Target). IsThere c.args.plan.now.parts.now t) c.in-Tables.is c.requires.there in
    omega (arith, there, facts.sizes.tables, facts.ordered.tables, facts.low.tables)

pub overflow_add-result-in-Data : goal.overflow_add-result-in-Data
overflow_add-result-in-Data c =
    let facts = plan_facts c.requires.plan in
    let there : c.in-Data.byte < length c.args.plan.now.parts.now.content = subst (λ (t : Target). IsThere c.args.plan.now.parts.now t) c.in-Data.is c.requires.there in
    omega (arith, there, facts.content, facts.ordered.dynamic, facts.low.dynamic)

pub returns-in-Function-clause-low : goal.returns-in-Function-clause-low
returns-in-Function-clause-low c =
    let facts = plan_facts c.requires.plan in
    let there : c.in-Function.number < length c.args.plan.now.parts.now.functions = subst (λ (t : Target). IsThere c.args.plan.now.parts.now t) c.in-Function.is c.requires.there in
    let placed = place_of c.requires.plan _ refl c.in-Function.number there c.index.result.now c.index.ensures in
    let fits = function_fits c.requires.plan _ refl c.in-Function.number in
    omega (arith, placed, fits, facts.low.stubs)

pub returns-in-Stub-clause-low : goal.returns-in-Stub-clause-low
returns-in-Stub-clause-low c =
    let facts = plan_facts c.requires.plan in
    let there : c.in-Stub.number < length c.args.plan.now.parts.now.imports = subst (λ (t : Target). IsThere c.args.plan.now.parts.now t) c.in-Stub.is c.requires.there in
    omega (arith, there, facts.sizes.imports, facts.ordered.text_end, facts.low.text_end)

pub returns-in-Tables-clause-low : goal.returns-in-Tables-clause-low
returns-in-Tables-clause-low c =
    let facts = plan_facts c.requires.plan in
    let there : c.in-Tables.byte < 16 * length c.args.plan.now.parts.now.tables = subst (λ (t : Target). IsThere c.args.plan.now.parts.now t) c.in-Tables.is c.requires.there in
    omega (arith, there, facts.sizes.tables, facts.ordered.tables, facts.low.tables)

pub returns-in-Data-clause-low : goal.returns-in-Data-clause-low
returns-in-Data-clause-low c =
    let facts = plan_facts c.requires.plan in
    let there : c.in-Data.byte < length c.args.plan.now.parts.now.content = subst (λ (t : Target). IsThere c.args.plan.now.parts.now t) c.in-Data.is c.requires.there in
    omega (arith, there, facts.content, facts.ordered.dynamic, facts.low.dynamic)
