use mir.Val.{SFits}
use Rattle.std.proofs.lemmas.Int.{to_z-of_z}
use Rattle.std.proofs.Common.{rules, w64, to_z, of_z, ◌≡◌, None, Some, sym, ◌∙◌, ap}
use Rattle.std.specs.Prelude.{ℤ, Option, option_map}
use Rattle.vw_names.specs.declared.spot.Spot.{Spot}
use Rattle.vw_names.specs.declared.spot.Spot.TheVariants.{Slot}
use Rattle.vw_stack.specs.declared.offset.Offset.TheVariants as offset
use Rattle.vw_values.specs.declared.value.Value.{Value}
use Rattle.vw_domain.specs.declared.registers.Register.{Register}
use Rattle.vw_domain.specs.Abstract.{Abstract, abstract_of}
use Rattle.vw_domain.specs.Addresses.{Address, address_of}
use Rattle.vw_domain.specs.Changes.{write}
use Rattle.vw_domain.specs.Memory.{load_source, load_value}
use Rattle.vw_domain.specs.Sites.{Site as EquationSite}
use Rattle.vw_state.specs.Addresses.{address_view}
use Rattle.vw_state.specs.Context.{equation_site}
use Rattle.vw_state.proofs.copies.load.Goals as goal

pub returns-in_ok-copy_to-in-Some-clause-form : goal.returns-in_ok-copy_to-in-Some-clause-form
returns-in_ok-copy_to-in-Some-clause-form c =
    let st : Abstract = abstract_of c.args.state.now in
    let e : EquationSite = equation_site c.args.site.now c.args.next in
    let at : Address = address_of e st c.args.mem.now in
    let v : Value = load_value e st at c.args.size c.args.to c.args.signed in
    let source : Some (Slot c.in-Some.offset) ≡ load_source st (address_view c.address_at-at.result) c.args.size c.args.signed =
    ap (option_map Slot) (sym c.in-Some.is) ∙ c.load_source.ensures in
    let fits : SFits w64 c.in-Some.offset = search rules in
    let read : to_z w64 (of_z w64 c.in-Some.offset) ≡ c.in-Some.offset = to_z-of_z w64 c.in-Some.offset fits in
    c.in_ok-copy_to-in-Some.ensures.ok v
    ∙ ap (λ (z : ℤ). write st c.args.dst (Some (Slot z)) v offset.Unknown) read
    ∙ (ap (λ (s : Option Spot). write st c.args.dst s v offset.Unknown) source
    ∙ ap (λ (a : Address). write st c.args.dst (load_source st a c.args.size c.args.signed) v offset.Unknown) c.address_at-at.ensures.is)

pub returns-in_ok-copy_to-in-Some-clause-fits : goal.returns-in_ok-copy_to-in-Some-clause-fits
returns-in_ok-copy_to-in-Some-clause-fits c = c.in_ok-copy_to-in-Some.ensures.fits _

pub returns-in-None-clause-form : goal.returns-in-None-clause-form
returns-in-None-clause-form c =
    let st : Abstract = abstract_of c.args.state.now in
    let e : EquationSite = equation_site c.args.site.now c.args.next in
    let source : None ≡ load_source st (address_view c.address_at-at.result) c.args.size c.args.signed =
    ap (option_map Slot) (sym c.in-None.is) ∙ c.load_source.ensures in
    let v : Value = load_value e st (address_view c.address_at-at.result) c.args.size c.args.to c.args.signed in
    c.write.ensures.form
    ∙ (ap (λ (k : Register). write st c.args.dst None k.value k.offset) c.loaded-known.ensures.is
    ∙ (ap (λ (s : Option Spot). write st c.args.dst s v offset.Unknown) source
    ∙ ap (λ (a : Address). write st c.args.dst (load_source st a c.args.size c.args.signed) (load_value e st a c.args.size c.args.to c.args.signed) offset.Unknown) c.address_at-at.ensures.is))

pub returns-in-None-clause-fits : goal.returns-in-None-clause-fits
returns-in-None-clause-fits c = λ fits. c.write.ensures.fits _ fits (c.loaded-known.ensures.among fits)
