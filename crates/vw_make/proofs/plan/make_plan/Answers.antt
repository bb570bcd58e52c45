use Rattle.std.proofs.Common.{sym, subst}
use Rattle.vw_make.specs.declared.sizes.Sizes.{Sizes}
use Rattle.vw_make.specs.Small.{AreSmall}
use Rattle.vw_make.proofs.Places.{are_small, text_fits}
use Rattle.vw_make.proofs.plan.make_plan.Goals as goal

pub lay_out-layout-requires : goal.lay_out-layout-requires
lay_out-layout-requires c = subst (λ (s : Sizes). AreSmall s) (sym c.measure-sizes.ensures) (are_small c.requires)

pub function_places-requires : goal.function_places-requires
function_places-requires c = rw (c.lay_out-layout.ensures, c.measure-sizes.ensures, c.as_slice.ensures) (text_fits c.requires)
