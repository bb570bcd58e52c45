use Rattle.std.proofs.Common.{◌≡◌, not, None, map, take}
use Rattle.std.specs.List.{find, flat_map}
use Rattle.vw_layout.specs.Spans.{entries_in, table_in}
use Rattle.vw_layout.specs.Tables.{is_table_entry}
use Rattle.vw_layout.proofs.tables.scan_tables.Given as goal

abbrev pub invariant-loop-span : goal.invariant-loop-span
invariant-loop-span l = record {
  none : find (λ entry. not (is_table_entry l.image l.functions entry)) (flat_map entries_in (take l.span-index l.spans)) ≡ None;
  tables : l.tables ≡ map (table_in l.image) (take l.span-index l.spans);
}
