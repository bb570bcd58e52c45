use Rattle.std.proofs.Common.{◌<◌, ◌≡◌, Bool, length, arith, sym, subst, ◌∙◌, get_or, set}
use Rattle.std.specs.Prelude.{◌||◌}
use Rattle.vw_lattice.specs.Order.{TellsChange}
use Rattle.vw_domain.specs.declared.registers.Register.{Register}
use Rattle.vw_domain.specs.Registers.{register_at, IsRegister, JoinsRegister}
use Rattle.vw_domain.proofs.RowLemmas.{read_at, element_at, rest_step, joined_step, all_joined, told_set, raised_now, kept_now}
use Rattle.vw_domain.proofs.registers.join_rows.Goals as goal
use Rattle.vw_domain.proofs.registers.join_rows.Goals.{then-branch, else-branch}

pub join_cell-requires-clause-cell : goal.join_cell-requires-clause-cell
join_cell-requires-clause-cell c =
    let is : get_or c.loop-i.row c.loop-i.i c.index-row-i.result ≡ register_at c.loop-i.row c.loop-i.i = read_at c.loop-i.row c.loop-i.i c.index-row-i.result (omega arith) in
    subst IsRegister (sym (is ∙ c.loop-i.invariant.rest c.loop-i.i (omega arith))) (c.requires.row.registers c.loop-i.i)

pub join_cell-requires-clause-other : goal.join_cell-requires-clause-other
join_cell-requires-clause-other c =
    let is : c.index-other-i.result ≡ register_at c.args.other.now c.loop-i.i = element_at c.args.other.now c.loop-i.i c.index-other-i.result (omega arith) c.index-other-i.is in
    subst IsRegister (sym is) (c.requires.other.registers c.loop-i.i)

pub loop-i-preserved : goal.loop-i-preserved
loop-i-preserved c =
    let within : c.loop-i.i < length c.loop-i.row = omega arith in
    let v : Register = c.join_cell.new.cell in
    let left : get_or c.loop-i.row c.loop-i.i c.index-row-i.result ≡ register_at c.loop-i.row c.loop-i.i = read_at c.loop-i.row c.loop-i.i c.index-row-i.result within in
    let size = c.requires.other.seventeen in
    let right : c.index-other-i.result ≡ register_at c.args.other.now c.loop-i.i = element_at c.args.other.now c.loop-i.i c.index-other-i.result (omega arith) c.index-other-i.is in
    let joins : JoinsRegister c.args.bounds.now (register_at c.loop-i.row c.loop-i.i) (register_at c.args.other.now c.loop-i.i) v = rw (← left, ← right) c.in_ok-join_cell.ensures.joins in
    let raised : TellsChange c.in_ok-join_cell.field-0 (register_at c.loop-i.row c.loop-i.i) v = rw (← left) c.in_ok-join_cell.ensures.told in
    let told : TellsChange (c.loop-i.changed || c.in_ok-join_cell.field-0) c.args.row.now (set c.loop-i.row c.loop-i.i v) = told_set c.loop-i.i c.args.row.now c.loop-i.row v c.loop-i.changed c.in_ok-join_cell.field-0 within (c.loop-i.invariant.rest c.loop-i.i (omega arith)) c.loop-i.invariant.told raised in
    let now : c.if-branch.changed ≡ (c.loop-i.changed || c.in_ok-join_cell.field-0) = elim c.if-branch.branch [
      | then-branch w ↦ raised_now c.loop-i.changed c.in_ok-join_cell.field-0 c.if-branch.changed w.if-branch.true w.changed-is
      | else-branch w ↦ kept_now c.loop-i.changed c.in_ok-join_cell.field-0 c.if-branch.changed w.if-branch.false w.changed-is
    ] in
    record {
      joined = joined_step _ _ _ _ _ _ within c.loop-i.invariant.joined c.loop-i.invariant.rest joins;
      rest = rest_step c.loop-i.i c.args.row.now c.loop-i.row v within c.loop-i.invariant.rest;
      told = subst (λ (b : Bool). TellsChange b c.args.row.now (set c.loop-i.row c.loop-i.i v)) (sym now) told;
    }

pub returns-clause-joins : goal.returns-clause-joins
returns-clause-joins c =
    let mine = c.requires.row.seventeen in
    let theirs = c.requires.other.seventeen in
    all_joined c.args.bounds.now c.args.row.now c.args.other.now c.loop-i.row mine theirs (omega arith)
    (λ r h. c.loop-i.invariant.joined r (omega arith))
