use Rattle.std.proofs.Common.{◌≡◌, ℕ, ◌+◌, ◌*◌, ◌++◌, Option, take}
use Rattle.vw_make.specs.Bytes.{numbered}
use Rattle.vw_make.specs.Relocations.{entry_relocation}
use Rattle.vw_make.proofs.relocations.put_table_relocations.Given as goal

abbrev pub invariant-loop-entry : goal.invariant-loop-entry
invariant-loop-entry l =
    record {
      place : l.place ≡ l.at + 16 * l.entry-index;
      bytes :
          l.out.items
          ≡ l.initial.out.items
          ++ numbered (λ (number : ℕ) (entry : ℕ × Option ℕ). entry_relocation l.plan.parts.now.functions l.plan.layout (l.at + 16 * number) entry) 0 (take l.entry-index l.entries);
    }
