use Rattle.std.proofs.Common.{◌≡◌, ◌∙◌, ◌++◌, ℕ, ap, arith}
use Rattle.vw_make.specs.Bytes.{counted}
use Rattle.vw_make.specs.Text.{stub_text, stub_texts}
use Rattle.vw_make.proofs.Places.{plan_facts}
use Rattle.vw_make.proofs.text.put_stubs.Goals as goal

pub overflow_mul-number : goal.overflow_mul-number
overflow_mul-number c =
    let facts = plan_facts c.requires in
    omega (arith, c.loop-number-test.true, facts.ordered.text_end, facts.low.text_end)

pub overflow_add-plan : goal.overflow_add-plan
overflow_add-plan c =
    let facts = plan_facts c.requires in
    omega (arith, c.loop-number-test.true, facts.ordered.text_end, facts.low.text_end)

pub overflow_mul-number-in-loop-number : goal.overflow_mul-number-in-loop-number
overflow_mul-number-in-loop-number c =
    let facts = plan_facts c.requires in
    omega (arith, c.loop-number-test.true, facts.ordered.lucet_tables, facts.low.lucet_tables)

pub overflow_add-plan-in-loop-number : goal.overflow_add-plan-in-loop-number
overflow_add-plan-in-loop-number c =
    let facts = plan_facts c.requires in
    omega (arith, c.loop-number-test.true, facts.ordered.lucet_tables, facts.low.lucet_tables)

pub put_stub-requires-clause-at : goal.put_stub-requires-clause-at
put_stub-requires-clause-at c =
    let facts = plan_facts c.requires in
    omega (arith, c.loop-number-test.true, facts.ordered.text_end, facts.low.text_end)

pub put_stub-requires-clause-slot : goal.put_stub-requires-clause-slot
put_stub-requires-clause-slot c =
    let facts = plan_facts c.requires in
    omega (arith, c.loop-number-test.true, facts.ordered.lucet_tables, facts.low.lucet_tables)

pub returns : goal.returns
unfolding stub_texts
returns c =
    let facts = plan_facts c.requires in
    let all : c.loop-number.number ≡ c.args.plan.now.sizes.imports = omega arith in
    c.loop-number.invariant ∙ ap (λ (n : ℕ). c.args.out.now.items ++ counted (stub_text c.args.plan.now.layout) n) (all ∙ facts.sizes.imports)
