use Rattle.std.proofs.Common.{◌≡◌, ◌+◌, ◌*◌, ◌++◌}
use Rattle.vw_make.specs.Layout.{table_at}
use Rattle.vw_make.specs.Bytes.{counted}
use Rattle.vw_make.specs.Relocations.{pair_relocation}
use Rattle.vw_make.proofs.relocations.put_pair_relocations.Given as goal

abbrev pub invariant-loop-entries : goal.invariant-loop-entries
invariant-loop-entries l =
    record {
      pair : l.pair ≡ l.plan.layout.lucet_tables + 16 * l.entries-index;
      table : l.table ≡ table_at l.tables l.plan.layout l.entries-index;
      bytes : l.out.items ≡ l.initial.out.items ++ counted (pair_relocation l.tables l.plan.layout) l.entries-index;
    }
