use Rattle.std.proofs.Common.{map, ◌≡◌, Some, ap, sym, ◌∙◌, length-set, refl, set, take, arith}
use Rattle.vw_report.specs.StateText.{register_mark, registers}
use Rattle.vw_report.specs.Items.{read_fields}
use Rattle.vw_report.specs.Grammar.{offsets, signed}
use Rattle.vw_report.proofs.FieldLoops.{fields_bad, fields_end, fields_set, front_none, seen_same}
use Rattle.vw_report.proofs.read_fields.offsets_at.Goals as goal

pub loop-r-init : goal.loop-r-init
loop-r-init c = (front_none _, refl)

pub loop-r-preserved : goal.loop-r-preserved
loop-r-preserved c = (
  fields_set (λ x. x) 111 signed c.loop-r.r c.loop-r.items c.loop-r.rest.now c.in-Some.item c.in-Some.item c.in-Some.tail.now (omega arith) c.loop-r.invariant.1 c.in-Some.ensures refl
      ∙ c.loop-r.invariant.0,
  length-set c.loop-r.items c.loop-r.r c.in-Some.item ∙ c.loop-r.invariant.1,
)

pub returns-in-None : goal.returns-in-None
unfolding offsets
returns-in-None c = seen_same (read_fields (map (register_mark 111) registers) signed c.args.bytes.now) ∙ sym c.loop-r.invariant.0
    ∙ fields_bad (λ x. x) 111 signed c.loop-r.r (take c.loop-r.r c.loop-r.items) c.loop-r.rest.now (omega arith) c.in-None.ensures

pub returns : goal.returns
unfolding offsets
returns c = seen_same (read_fields (map (register_mark 111) registers) signed c.args.bytes.now) ∙ sym c.loop-r.invariant.0
    ∙ fields_end (λ x. x) 111 signed c.loop-r.r c.loop-r.items c.loop-r.rest.now (omega arith) c.loop-r.invariant.1
    ∙ ap (λ xs. Some (xs, c.loop-r.rest.now)) (sym c.in_ok-list_of.ensures)
