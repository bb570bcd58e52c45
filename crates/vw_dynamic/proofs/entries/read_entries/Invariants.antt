use Rattle.std.proofs.Common.{◌≡◌, map, false}
use Rattle.std.specs.List.{list_any}
use Rattle.vw_bits.specs.Headers.{table}
use Rattle.vw_dynamic.specs.Entries.{entry_at, is_null}
use Rattle.vw_dynamic.proofs.entries.read_entries.Given as goal

abbrev pub invariant-loop-index : goal.invariant-loop-index
invariant-loop-index l = record {
  read : l.entries.items ≡ map (entry_at l.bytes) (table l.start 16 l.index);
  before : list_any is_null (map (entry_at l.bytes) (table l.start 16 l.index)) ≡ false;
}
