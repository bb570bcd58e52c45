use Rattle.std.proofs.Common.{◌≡◌, take}
use Rattle.std.specs.List.{sum_by}
use Rattle.vw_make.specs.Layout.{filled_entries}
use Rattle.vw_make.proofs.sizes.filled_count.Given as goal

abbrev pub invariant-loop-entries : goal.invariant-loop-entries
invariant-loop-entries l = l.count ≡ sum_by filled_entries (take l.entries-index l.tables)
