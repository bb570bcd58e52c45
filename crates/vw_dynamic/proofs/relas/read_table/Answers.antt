use Rattle.std.proofs.lemmas.List.{map-append}
use Rattle.vw_bits.proofs.Tables.{table-none, table-more}
use Rattle.vw_dynamic.proofs.relas.read_table.Goals as goal

pub loop-index-init : goal.loop-index-init
loop-index-init c = rw table-none c.new-relas.ensures.items

pub loop-index-preserved : goal.loop-index-preserved
loop-index-preserved c = rw (table-more, map-append, ← c.loop-index.invariant, ← c.rela_at.ensures) c.in_ok-push.ensures.items
