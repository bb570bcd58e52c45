use Rattle.std.proofs.Common.{below_more, refl, arith, ◌≡◌, get_or, ap, List}
use Rattle.vw_domain.specs.declared.registers.Register.{Register}
use Rattle.vw_domain.specs.Registers.{register_at, IsRowAmong}
use Rattle.vw_domain.proofs.RowLemmas.{read_at, all_among, all_same}
use Rattle.vw_domain.proofs.registers.is_row_same.Goals as goal

pub returns-then-not-is_cell_same : goal.returns-then-not-is_cell_same
returns-then-not-is_cell_same c =
    let row : get_or c.args.row.now c.loop-i.i c.index-row-i.result ≡ register_at c.args.row.now c.loop-i.i = read_at c.args.row.now c.loop-i.i c.index-row-i.result (omega arith) in
    let other : get_or c.args.other.now c.loop-i.i c.index-other-i.result ≡ register_at c.args.other.now c.loop-i.i = read_at c.args.other.now c.loop-i.i c.index-other-i.result (omega arith) in (
      λ never. absurd (cc),
      λ both. c.if-not-is_cell_same.ensures.1 (rw (row, other) (ap (λ (xs : List Register). register_at xs c.loop-i.i) both.0, both.1 c.loop-i.i)),
    )

pub loop-i-preserved : goal.loop-i-preserved
loop-i-preserved c =
    let row : get_or c.args.row.now c.loop-i.i c.index-row-i.result ≡ register_at c.args.row.now c.loop-i.i = read_at c.args.row.now c.loop-i.i c.index-row-i.result (omega arith) in
    let other : get_or c.args.other.now c.loop-i.i c.index-other-i.result ≡ register_at c.args.other.now c.loop-i.i = read_at c.args.other.now c.loop-i.i c.index-other-i.result (omega arith) in
    let are = c.if-not-is_cell_same.ensures.0 refl in
    record {
      same = below_more _ _ c.loop-i.invariant.same (rw (← row, ← other) are.0);
      among = below_more _ _ c.loop-i.invariant.among (rw (← other) are.1);
    }

pub returns : goal.returns
returns c = (
  λ _. (
    all_same c.args.row.now c.args.other.now (omega arith) (omega arith) (λ r h. c.loop-i.invariant.same r (omega arith)),
    all_among c.args.bounds.now c.args.other.now (omega arith) (λ r h. c.loop-i.invariant.among r (omega arith)),
  ),
  λ _. refl,
)
