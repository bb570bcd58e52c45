use Rattle.std.proofs.Common.{◌≡◌, not, None, map}
use Rattle.std.specs.List.{find}
use Rattle.vw_bits.specs.Headers.{table}
use Rattle.vw_layout.specs.Tables.{is_table_entry, table_entry_at}
use Rattle.vw_layout.proofs.tables.scan_table.Given as goal

abbrev pub invariant-loop-index : goal.invariant-loop-index
invariant-loop-index l = record {
  none : find (λ entry. not (is_table_entry l.image l.functions entry)) (table l.span.start 16 l.index) ≡ None;
  entries : l.entries ≡ map (table_entry_at l.image) (table l.span.start 16 l.index);
}
