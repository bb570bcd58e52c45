use Rattle.std.proofs.Common.{ℕ, Option, None, get_or, ◌+◌, ◌*◌, ap, arith}
use Rattle.vw_make.specs.Relocations.{entry_relocation}
use Rattle.vw_make.proofs.Steps.{numbered_step}
use Rattle.vw_make.proofs.relocations.put_table_relocations.Goals as goal

pub loop-entry-preserved : goal.loop-entry-preserved
loop-entry-preserved c =
    record {
      place = omega (arith, c.loop-entry.invariant.place);
      bytes =
          numbered_step
          (λ (number : ℕ) (entry : ℕ × Option ℕ). entry_relocation c.args.plan.now.parts.now.functions c.args.plan.now.layout (c.args.at + 16 * number) entry)
          c.args.entries.now c.loop-entry.entry-index (0, None) c.args.out.now.items c.loop-entry.out.items c.put_entry_relocation.new.out.items _
          c.loop-entry-test.true c.loop-entry.invariant.bytes c.in_ok-put_entry_relocation.ensures
          (ap (λ (place : ℕ). entry_relocation c.args.plan.now.parts.now.functions c.args.plan.now.layout place (get_or c.args.entries.now c.loop-entry.entry-index (0, None))) c.loop-entry.invariant.place);
    }
