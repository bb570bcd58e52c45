use Rattle.std.proofs.Common.{ℕ, List, Option, length, ap, arith}
use Rattle.vw_make.specs.Relocations.{pair_relocation}
use Rattle.vw_make.proofs.Places.{plan_facts, table_fits, table_more}
use Rattle.vw_make.proofs.Steps.{counted_step, pair_piece}
use Rattle.vw_make.proofs.relocations.put_pair_relocations.Goals as goal

pub overflow_add-pair : goal.overflow_add-pair
overflow_add-pair c =
    let facts = plan_facts c.requires in
    omega (arith, c.loop-entries.invariant.pair, c.loop-entries-test.true, ap length c.as_slice-tables.ensures, facts.sizes.tables, facts.ordered.tables, facts.low.tables)

pub overflow_add-table : goal.overflow_add-table
overflow_add-table c =
    let facts = plan_facts c.requires in
    let fits = table_fits c.requires _ c.as_slice-tables.ensures c.loop-entries.entries-index c.loop-entries-test.true c.entries-item.result c.entries-item.is in
    omega (arith, fits, c.loop-entries.invariant.table, ap (λ (e : List (ℕ × Option ℕ)). length e) c.entries-item.is, facts.low.content)

pub loop-entries-preserved : goal.loop-entries-preserved
loop-entries-preserved c =
    let more = table_more c.as_slice-tables.result.now c.args.plan.now.layout c.loop-entries.entries-index c.loop-entries-test.true c.entries-item.result c.entries-item.is in
    record {
      pair = omega (arith, c.loop-entries.invariant.pair);
      table = omega (arith, more, c.loop-entries.invariant.table, ap (λ (e : List (ℕ × Option ℕ)). length e) c.entries-item.is);
      bytes =
          counted_step (pair_relocation c.as_slice-tables.result.now c.args.plan.now.layout) c.loop-entries.entries-index c.args.out.now.items c.loop-entries.out.items c.put_relative.new.out.items _
          c.loop-entries.invariant.bytes c.in_ok-put_relative.ensures
          (pair_piece c.as_slice-tables.result.now c.args.plan.now.layout c.loop-entries.entries-index c.loop-entries.pair c.loop-entries.table c.loop-entries.invariant.pair c.loop-entries.invariant.table);
    }
