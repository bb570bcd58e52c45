use Rattle.std.proofs.Common.{refl, ◌∙◌}
use Rattle.vw_domain.proofs.StateJoins.{fits_both}
use Rattle.vw_domain.proofs.state.State.fits.Goals as goal

pub returns-then-is_row_among : goal.returns-then-is_row_among
returns-then-is_row_among c = fits_both c.args.bounds.now c.deref-parts.result.now c.args.self.now c.are_slots_among.result (c.deref-parts.ensures ∙ c.self.view_is) (c.if-is_row_among.ensures.0 refl) c.are_slots_among.ensures
