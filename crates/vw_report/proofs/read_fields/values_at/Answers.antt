use Rattle.std.proofs.Common.{map, ◌≡◌, Some, ap, sym, ◌∙◌, length-set, refl, set, take, arith}
use Rattle.vw_report.specs.StateText.{register_mark, registers}
use Rattle.vw_report.specs.Items.{read_fields, read_maybe}
use Rattle.vw_report.specs.Grammar.{or_any, shown_value, values}
use Rattle.vw_report.proofs.FieldLoops.{fields_bad, fields_end, fields_set, front_none, seen_is, value_none, value_some}
use Rattle.vw_report.proofs.read_fields.values_at.Goals as goal

pub loop-r-init : goal.loop-r-init
loop-r-init c = (front_none _, refl)

pub loop-r-preserved : goal.loop-r-preserved
loop-r-preserved c =
    let x = value_some (read_maybe (register_mark 118 c.loop-r.r) shown_value c.loop-r.rest.now) c.in-Some.item c.in-Some.tail.now c.in-Some.ensures in (
      fields_set or_any 118 shown_value c.loop-r.r c.loop-r.items c.loop-r.rest.now x.0 c.in-Some.item c.in-Some.tail.now (omega arith) c.loop-r.invariant.1 x.1 x.2
          ∙ c.loop-r.invariant.0,
      length-set c.loop-r.items c.loop-r.r c.in-Some.item ∙ c.loop-r.invariant.1,
    )

pub returns-in-None : goal.returns-in-None
unfolding values
returns-in-None c = seen_is or_any (read_fields (map (register_mark 118) registers) shown_value c.args.bytes.now) ∙ sym c.loop-r.invariant.0
    ∙ fields_bad or_any 118 shown_value c.loop-r.r (take c.loop-r.r c.loop-r.items) c.loop-r.rest.now (omega arith) (value_none _ c.in-None.ensures)

pub returns : goal.returns
unfolding values
returns c = seen_is or_any (read_fields (map (register_mark 118) registers) shown_value c.args.bytes.now) ∙ sym c.loop-r.invariant.0
    ∙ fields_end or_any 118 shown_value c.loop-r.r c.loop-r.items c.loop-r.rest.now (omega arith) c.loop-r.invariant.1
    ∙ ap (λ xs. Some (xs, c.loop-r.rest.now)) (sym c.in_ok-list_of.ensures)
