use Rattle.std.proofs.Common.{below_more, refl, arith, ◌≡◌, get_or}
use Rattle.vw_domain.specs.Registers.{register_at}
use Rattle.vw_domain.proofs.RowLemmas.{read_at}
use Rattle.vw_domain.proofs.registers.is_row_below.Goals as goal

pub loop-i-preserved : goal.loop-i-preserved
loop-i-preserved c =
    let low : get_or c.args.low.now c.loop-i.i c.index-low-i.result ≡ register_at c.args.low.now c.loop-i.i = read_at c.args.low.now c.loop-i.i c.index-low-i.result (omega arith) in
    let high : get_or c.args.high.now c.loop-i.i c.index-high-i.result ≡ register_at c.args.high.now c.loop-i.i = read_at c.args.high.now c.loop-i.i c.index-high-i.result (omega arith) in
    below_more _ _ c.loop-i.invariant (rw (← low, ← high) (c.if-not-is_cell_below.ensures.0 refl))
