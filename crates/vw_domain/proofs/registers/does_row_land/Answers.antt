use Rattle.std.proofs.Common.{below_more, refl, arith, ◌≡◌, get_or, subst, sym}
use Rattle.vw_values.specs.Values.{IsAmong}
use Rattle.vw_domain.specs.declared.registers.Register.{Register}
use Rattle.vw_domain.specs.Registers.{register_at, register_below}
use Rattle.vw_domain.proofs.RowLemmas.{read_at, all_among, all_below}
use Rattle.vw_domain.proofs.registers.does_row_land.Goals as goal

pub returns-then-not-does_cell_land : goal.returns-then-not-does_cell_land
returns-then-not-does_cell_land c =
    let low : get_or c.args.low.now c.loop-i.i c.index-low-i.result ≡ register_at c.args.low.now c.loop-i.i = read_at c.args.low.now c.loop-i.i c.index-low-i.result (omega arith) in
    let high : get_or c.args.high.now c.loop-i.i c.index-high-i.result ≡ register_at c.args.high.now c.loop-i.i = read_at c.args.high.now c.loop-i.i c.index-high-i.result (omega arith) in (
      λ never. absurd (cc),
      λ both. c.if-not-does_cell_land.ensures.1 (rw (low, high) (both.0 c.loop-i.i, both.1 c.loop-i.i)),
    )

pub loop-i-preserved : goal.loop-i-preserved
loop-i-preserved c =
    let low : get_or c.args.low.now c.loop-i.i c.index-low-i.result ≡ register_at c.args.low.now c.loop-i.i = read_at c.args.low.now c.loop-i.i c.index-low-i.result (omega arith) in
    let high : get_or c.args.high.now c.loop-i.i c.index-high-i.result ≡ register_at c.args.high.now c.loop-i.i = read_at c.args.high.now c.loop-i.i c.index-high-i.result (omega arith) in
    let lands = c.if-not-does_cell_land.ensures.0 refl in
    record {
      among = below_more _ _ c.loop-i.invariant.among (rw (← high) lands.0);
      below = below_more _ _ c.loop-i.invariant.below (rw (← low, ← high) lands.1);
    }

pub returns : goal.returns
returns c = (
  λ _. (
    all_among c.args.bounds.now c.args.high.now (omega arith) (λ r h. c.loop-i.invariant.among r (omega arith)),
    all_below c.args.low.now c.args.high.now (omega arith) (omega arith) (λ r h. c.loop-i.invariant.below r (omega arith)),
  ),
  λ _. refl,
)
