use Rattle.std.proofs.Common.{◌≡◌, ℕ, ◌++◌, List, Option, take}
use Rattle.vw_make.specs.Layout.{table_at}
use Rattle.vw_make.specs.Bytes.{numbered}
use Rattle.vw_make.specs.Relocations.{table_relocations}
use Rattle.vw_make.proofs.relocations.put_entry_relocations.Given as goal

abbrev pub invariant-loop-entries : goal.invariant-loop-entries
invariant-loop-entries l =
    record {
      table : l.table ≡ table_at l.tables l.plan.layout l.entries-index;
      bytes :
          l.out.items
          ≡ l.initial.out.items
          ++ numbered (λ (number : ℕ) (entries : List (ℕ × Option ℕ)). table_relocations l.plan.parts.now.functions l.plan.layout (table_at l.tables l.plan.layout number) entries) 0 (take l.entries-index l.tables);
    }
