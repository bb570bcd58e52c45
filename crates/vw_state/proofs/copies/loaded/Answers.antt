use Rattle.std.proofs.Common.{◌≡◌, ℕ, List, sym, subst, ◌∙◌, ap}
use Rattle.vw_values.specs.Values.{IsAmong}
use Rattle.vw_domain.specs.declared.registers.Register.{Register}
use Rattle.vw_domain.specs.Abstract.{abstract_of}
use Rattle.vw_domain.specs.FormLaws.{HoldsBounds}
use Rattle.vw_domain.specs.FormRanges.{IsStateForm}
use Rattle.vw_domain.specs.Memory.{load_value}
use Rattle.vw_domain.specs.Registers.{IsRegister}
use Rattle.vw_domain.specs.State.{plain_register}
use Rattle.vw_domain.proofs.MoreBounds.{own_bounds}
use Rattle.vw_state.specs.Addresses.{address_view}
use Rattle.vw_state.specs.Context.{equation_site}
use Rattle.vw_state.proofs.Loaded.{loaded_known}
use Rattle.vw_state.proofs.copies.loaded.Goals as goal

known_in : (c : goal.After-plain) (members : List ℕ) → HoldsBounds members c.args.site.now.bounds.now → IsStateForm members (abstract_of c.args.state.now) → IsRegister c.plain.result × IsAmong members c.plain.result.value
known_in c members holds form =
    let is : c.plain.result ≡ plain_register (load_value (equation_site c.args.site.now c.args.next) (abstract_of c.args.state.now) (address_view c.args.at) c.args.size c.args.to c.args.signed) =
    c.plain.ensures ∙ ap plain_register (c.load_value.ensures.is c.args.next) in
    subst (λ (k : Register). IsRegister k × IsAmong members k.value) (sym is)
    (loaded_known c.args.site.now c.args.next members (abstract_of c.args.state.now) c.args.mem.now c.args.size c.args.to c.args.signed c.state_form.ensures.kept c.state_form.ensures.bounds holds c.requires.few form c.requires.mem c.requires.load c.displacement-disp.ensures.small
    (address_view c.args.at) c.requires.at c.requires.fresh (c.load_value.ensures.sound c.args.next))

pub returns-clause-known : goal.returns-clause-known
returns-clause-known c = let more = c.state_form.ensures.more in (known_in c more.0 more.1 more.2).0

pub returns-clause-among : goal.returns-clause-among
returns-clause-among c = λ fits. let here = c.args.site.now.bounds.now in (known_in c here (own_bounds here c.state_form.ensures.bounds) (c.state_form.ensures.form here fits)).1
