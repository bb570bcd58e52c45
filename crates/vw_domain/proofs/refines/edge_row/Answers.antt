use Rattle.std.proofs.Common.{◌≡◌, ◌<◌, ℕ, Bool, length, arith, ap, ◌∙◌}
use Rattle.std.specs.Prelude.{Option}
use Rattle.vw_values.specs.declared.value.Value.{Value}
use Rattle.vw_domain.specs.declared.registers.Register.{Register}
use Rattle.vw_domain.specs.Registers.{register_at}
use Rattle.vw_domain.specs.Refines.{refinement, left_value, may_pass, with_value_by}
use Rattle.vw_domain.proofs.RowLemmas.{read_at, rest_step}
use Rattle.vw_domain.proofs.RefineSteps.{edge_step, register_step}
use Rattle.vw_domain.proofs.refines.edge_row.Goals as goal

pub loop-i-preserved : goal.loop-i-preserved
loop-i-preserved c =
    let within : c.loop-i.i < length c.loop-i.row = omega arith in
    let f : Value → Option Value = refinement c.args.comparison c.args.bounds.now in
    let g : ℕ → Value → Value = left_value c.args.classes.now f c.args.tags.now in
    let test : ℕ → Value → Bool = may_pass c.args.classes.now f c.args.tags.now in
    let read = read_at c.loop-i.row c.loop-i.i c.index-row-i.result within in
    let is : c.edge_cell-passes.new.cell ≡ with_value_by g c.loop-i.i (register_at c.loop-i.row c.loop-i.i) = c.edge_cell-passes.ensures.value ∙ ap (with_value_by g c.loop-i.i) read in
    let passed : c.edge_cell-passes.result ≡ test c.loop-i.i (register_at c.args.row.now c.loop-i.i).value =
    c.edge_cell-passes.ensures.passes ∙ ap (λ (r : Register). test c.loop-i.i r.value) (read ∙ c.loop-i.invariant.rest c.loop-i.i (omega arith)) in
    record {
      front = register_step g test c.loop-i.i c.loop-i.row c.args.row.now c.edge_cell-passes.new.cell within c.loop-i.invariant.front c.loop-i.invariant.rest is;
      rest = rest_step c.loop-i.i c.args.row.now c.loop-i.row c.edge_cell-passes.new.cell within c.loop-i.invariant.rest;
      edge = edge_step c.loop-i.all c.edge_cell-passes.result c.both-all.result (λ (r : ℕ). test r (register_at c.args.row.now r).value) c.loop-i.i c.loop-i.invariant.edge passed c.both-all.ensures;
    }
