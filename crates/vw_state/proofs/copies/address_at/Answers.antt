use Rattle.std.proofs.Common.{◌≡◌, refl, sym, ◌∙◌}
use Rattle.vw_domain.specs.Abstract.{abstract_of}
use Rattle.vw_domain.specs.Addresses.{address_of}
use Rattle.vw_state.specs.Addresses.{address_view}
use Rattle.vw_state.specs.Context.{equation_site}
use Rattle.vw_state.proofs.Loaded.{own_context, near_frame}
use Rattle.vw_state.proofs.copies.address_at.Goals as goal

pub returns-clause-is : goal.returns-clause-is
returns-clause-is c = c.address.ensures (own_context c.args.site.now) (record { image = refl; tables = refl; entry = refl; size = refl; bounds = refl })

pub returns-clause-frame : goal.returns-clause-frame
returns-clause-frame c = λ x e.
    let is : address_view c.address.result ≡ address_of (equation_site c.args.site.now c.args.next) (abstract_of c.args.state.now) c.args.mem.now =
    c.address.ensures (own_context c.args.site.now) (record { image = refl; tables = refl; entry = refl; size = refl; bounds = refl }) in
    let more = c.state_form.ensures.more in
    near_frame c.args.site.now c.args.next more.0 (abstract_of c.args.state.now) c.args.mem.now c.state_form.ensures.kept c.state_form.ensures.bounds more.1 c.requires.few more.2 c.requires.mem c.displacement-disp.ensures.small x (sym is ∙ e)
