use Rattle.std.proofs.Common.{refl}
use Rattle.vw_make.specs.Layout.{layout_from}
use Rattle.vw_make.proofs.layout.lay_out.Goals as goal

pub returns : goal.returns
unfolding layout_from
returns c = rw (c.round_up-sections.ensures.value, c.round_up-slots.ensures.value, c.round_up-text.ensures.value, c.round_up-relocations.ensures.value) refl
