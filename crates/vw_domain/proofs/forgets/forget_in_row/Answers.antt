use Rattle.std.proofs.Common.{◌≡◌, ◌<◌, length, arith, ap, ◌∙◌}
use Rattle.vw_domain.specs.Registers.{register_at}
use Rattle.vw_domain.specs.Writes.{forgotten_register}
use Rattle.vw_domain.proofs.RowLemmas.{read_at, rest_step, forgets_step, forgets_all}
use Rattle.vw_domain.proofs.forgets.forget_in_row.Goals as goal

pub loop-i-preserved : goal.loop-i-preserved
loop-i-preserved c =
    let within : c.loop-i.i < length c.loop-i.row = omega arith in
    let is : c.forget.new.self ≡ forgotten_register c.args.gone (register_at c.loop-i.row c.loop-i.i) =
    c.forget.ensures ∙ ap (forgotten_register c.args.gone) (read_at c.loop-i.row c.loop-i.i c.index-row-i.result within) in
    record {
      front = forgets_step c.args.gone c.loop-i.i c.args.row.now c.loop-i.row c.forget.new.self within c.loop-i.invariant.front c.loop-i.invariant.rest is;
      rest = rest_step c.loop-i.i c.args.row.now c.loop-i.row c.forget.new.self within c.loop-i.invariant.rest;
    }

pub returns : goal.returns
returns c =
    forgets_all c.args.gone c.args.row.now c.loop-i.row c.requires (omega arith)
    (λ r h. c.loop-i.invariant.front r (omega arith))
