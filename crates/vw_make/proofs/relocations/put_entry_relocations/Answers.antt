use Rattle.std.proofs.Common.{ℕ, List, Option, length, ap, arith, ◌∙◌}
use Rattle.vw_make.specs.Layout.{table_at}
use Rattle.vw_make.specs.Relocations.{table_relocations}
use Rattle.vw_make.proofs.Places.{plan_facts, table_fits, table_more}
use Rattle.vw_make.proofs.Steps.{numbered_step}
use Rattle.vw_make.proofs.relocations.put_entry_relocations.Goals as goal

pub put_table_relocations-requires-clause-fits : goal.put_table_relocations-requires-clause-fits
put_table_relocations-requires-clause-fits c =
    let facts = plan_facts c.requires in
    let fits = table_fits c.requires _ c.as_slice-tables.ensures c.loop-entries.entries-index c.loop-entries-test.true c.entries-item.result c.entries-item.is in
    omega (arith, fits, c.loop-entries.invariant.table, ap (λ (e : List (ℕ × Option ℕ)). length e) c.as_slice.ensures, facts.low.content)

pub overflow_add-table : goal.overflow_add-table
overflow_add-table c =
    let facts = plan_facts c.requires in
    let fits = table_fits c.requires _ c.as_slice-tables.ensures c.loop-entries.entries-index c.loop-entries-test.true c.entries-item.result c.entries-item.is in
    omega (arith, fits, c.loop-entries.invariant.table, ap (λ (e : List (ℕ × Option ℕ)). length e) c.entries-item.is, facts.low.content)

pub loop-entries-preserved : goal.loop-entries-preserved
loop-entries-preserved c =
    let more = table_more c.as_slice-tables.result.now c.args.plan.now.layout c.loop-entries.entries-index c.loop-entries-test.true c.entries-item.result c.entries-item.is in
    record {
      table = omega (arith, more, c.loop-entries.invariant.table, ap (λ (e : List (ℕ × Option ℕ)). length e) c.entries-item.is);
      bytes =
          numbered_step
          (λ (number : ℕ) (entries : List (ℕ × Option ℕ)). table_relocations c.args.plan.now.parts.now.functions c.args.plan.now.layout (table_at c.as_slice-tables.result.now c.args.plan.now.layout number) entries)
          c.as_slice-tables.result.now c.loop-entries.entries-index c.entries-item.result c.args.out.now.items c.loop-entries.out.items c.put_table_relocations.new.out.items _
          c.loop-entries-test.true c.loop-entries.invariant.bytes c.in_ok-put_table_relocations.ensures
          (ap (λ (at : ℕ). table_relocations c.args.plan.now.parts.now.functions c.args.plan.now.layout at c.as_slice.result.now) c.loop-entries.invariant.table
          ∙ ap (λ (entries : List (ℕ × Option ℕ)). table_relocations c.args.plan.now.parts.now.functions c.args.plan.now.layout (table_at c.as_slice-tables.result.now c.args.plan.now.layout c.loop-entries.entries-index) entries) (c.as_slice.ensures ∙ c.entries-item.is));
    }
