use Rattle.std.proofs.Common.{◌∙◌, ◌++◌, ℕ, List, Option, ap, append_assoc}
use Rattle.byteorder.specs.Endian.{little_bytes}
use Rattle.vw_make.specs.Bytes.{zeros}
use Rattle.vw_make.specs.Tables.{pair}
use Rattle.vw_make.proofs.Steps.{flat_map_step}
use Rattle.vw_make.proofs.tables.put_pairs.Goals as goal

pub loop-entries-preserved : goal.loop-entries-preserved
loop-entries-preserved c =
    flat_map_step pair c.args.tables.now c.loop-entries.entries-index c.entries-item.result c.args.out.now.items c.loop-entries.out.items c.put_u64-in-loop-entries.new.out.items
    (zeros 8 ++ little_bytes 8 c.len.result) c.loop-entries-test.true c.loop-entries.invariant
    (c.in_ok-put_u64-2.ensures
    ∙ (ap (λ (bytes : List ℕ). bytes ++ little_bytes 8 c.len.result) c.in_ok-put_u64.ensures
    ∙ append_assoc c.loop-entries.out.items (zeros 8) (little_bytes 8 c.len.result)))
    (ap (λ (count : ℕ). zeros 8 ++ little_bytes 8 count) c.len.ensures ∙ ap (λ (entries : List (ℕ × Option ℕ)). pair entries) c.entries-item.is)
