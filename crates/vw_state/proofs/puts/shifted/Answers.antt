use Rattle.std.proofs.Common.{◌≡◌, ℕ, List, sym, subst}
use Rattle.vw_names.specs.declared.spot.Spot.TheVariants.{Reg}
use Rattle.vw_values.specs.Scales.{shl4}
use Rattle.vw_values.specs.Values.{IsAmong}
use Rattle.vw_domain.specs.declared.registers.Register.{Register}
use Rattle.vw_domain.specs.Abstract.{Abstract, abstract_of}
use Rattle.vw_domain.specs.Addresses.{value_of}
use Rattle.vw_domain.specs.FormLaws.{HoldsBounds}
use Rattle.vw_domain.specs.FormRanges.{IsStateForm}
use Rattle.vw_domain.specs.Operands.{index_of}
use Rattle.vw_domain.specs.Registers.{IsRegister}
use Rattle.vw_domain.specs.State.{plain_register}
use Rattle.vw_domain.proofs.MoreBounds.{own_bounds, shl4_in}
use Rattle.vw_state.proofs.puts.shifted.Goals as goal

known_in : (c : goal.After-plain) (members : List ℕ) → HoldsBounds members c.args.site.now.bounds.now → IsStateForm members (abstract_of c.args.state.now) → IsRegister c.plain.result × IsAmong members c.plain.result.value
known_in c members holds form =
    let st : Abstract = abstract_of c.args.state.now in
    let r : ℕ = index_of c.args.dst in
    let valid = shl4_in c.args.site.now.bounds.now members c.state_form.ensures.bounds holds (value_of st r) (form.form.values (Reg r), form.form.among (Reg r)) in
    let is : c.plain.result ≡ plain_register (shl4 (value_of st r) c.args.site.now.bounds.now) = cc in
    subst (λ (k : Register). IsRegister k × IsAmong members k.value) (sym is) (record { value = valid.0; offset = tt }, valid.1)

pub returns-clause-known : goal.returns-clause-known
returns-clause-known c = let more = c.state_form.ensures.more in (known_in c more.0 more.1 more.2).0

pub returns-clause-among : goal.returns-clause-among
returns-clause-among c = λ fits. let here = c.args.site.now.bounds.now in (known_in c here (own_bounds here c.state_form.ensures.bounds) (c.state_form.ensures.form here fits)).1
