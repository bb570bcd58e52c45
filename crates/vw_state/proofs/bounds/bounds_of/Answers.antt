use Rattle.std.proofs.Common.{◌∙◌}
use Rattle.vw_state.proofs.BoundLists.{made_are}
use Rattle.vw_state.proofs.bounds.bounds_of.Goals as goal

pub returns : goal.returns
returns c =
    made_are c.args.code.now c.args.lengths.now c.requires.lengths c.as_slice.result.now (c.as_slice.ensures.value ∙ c.in_ok-found.ensures) c.new.result c.new.ensures.bounds c.new.ensures.members
