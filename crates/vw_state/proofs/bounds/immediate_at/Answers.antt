use Rattle.std.proofs.Common.{◌∙◌, ap}
use Rattle.vw_state.specs.Bounds.{bounds_near}
use Rattle.vw_state.proofs.NearBounds.{near_none, near_some}
use Rattle.vw_state.proofs.bounds.immediate_at.Goals as goal

pub returns-in-Some : goal.returns-in-Some
returns-in-Some c =
    let law = c.read_is_spelling.ensures in
    ap bounds_near c.counted_immediate.ensures
    ∙ near_some law.none law.found c.args.bytes.now c.requires c.in-Some.insn c.in-Some.field-0-1 c.in-Some.ensures.only c.in-Some.ensures.found

pub returns-in-None : goal.returns-in-None
returns-in-None c =
    let law = c.read_is_spelling.ensures in
    near_none law.none law.found c.args.bytes.now c.requires c.in-None.ensures.only
