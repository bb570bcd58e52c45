use Rattle.std.proofs.Common.{◌≡◌, ◌<◌, length, arith, ap, ◌∙◌}
use Rattle.vw_domain.specs.Registers.{register_at}
use Rattle.vw_domain.specs.Stores.{called_register}
use Rattle.vw_domain.proofs.RowLemmas.{read_at, rest_step}
use Rattle.vw_domain.proofs.CallLemmas.{called_step, called_all}
use Rattle.vw_domain.proofs.after_calls.call_in_row.Goals as goal

pub loop-i-preserved : goal.loop-i-preserved
loop-i-preserved c =
    let within : c.loop-i.i < length c.loop-i.row = omega arith in
    let is : c.call_in_cell.new.cell ≡ called_register c.args.gone c.loop-i.i (register_at c.loop-i.row c.loop-i.i) =
    c.call_in_cell.ensures ∙ ap (called_register c.args.gone c.loop-i.i) (read_at c.loop-i.row c.loop-i.i c.index-row-i.result within) in
    record {
      front = called_step c.args.gone c.loop-i.i c.args.row.now c.loop-i.row c.call_in_cell.new.cell within c.loop-i.invariant.front c.loop-i.invariant.rest is;
      rest = rest_step c.loop-i.i c.args.row.now c.loop-i.row c.call_in_cell.new.cell within c.loop-i.invariant.rest;
    }

pub returns : goal.returns
returns c = called_all c.args.gone c.args.row.now c.loop-i.row c.requires (omega arith) (λ r h. c.loop-i.invariant.front r (omega arith))
