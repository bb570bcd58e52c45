use Rattle.std.proofs.Common.{◌≡◌, sym, subst}
use Rattle.vw_values.specs.Narrowing.{narrow32}
use Rattle.vw_values.specs.Values.{IsValue, IsAmong}
use Rattle.vw_values.specs.declared.value.Value.{Value}
use Rattle.vw_domain.specs.Abstract.{Abstract, abstract_of}
use Rattle.vw_domain.specs.Operands.{operand_of}
use Rattle.vw_domain.specs.State.{IsNarrow}
use Rattle.vw_state.proofs.Contents.{operand_valid, narrow_slot}
use Rattle.vw_state.proofs.stores.half_content.Goals as goal

pub returns-clause-content : goal.returns-clause-content
returns-clause-content c =
    let more = c.state_form.ensures.more in
    let st : Abstract = abstract_of c.args.state.now in
    let valid : IsValue (operand_of st c.args.src) × IsAmong more.0 (operand_of st c.args.src) = operand_valid more.0 st c.args.src more.2 in
    let is : c.narrow32.result ≡ narrow32 (operand_of st c.args.src) = cc in
    subst (λ (v : Value). IsValue v × IsNarrow v) (sym is)
    ((c.low_bits_are_sound.ensures.lows_valid more.0 _ more.1.are valid).0, narrow_slot _ valid.0)

pub returns-clause-among : goal.returns-clause-among
returns-clause-among c = λ fits.
    let here = c.args.site.now.bounds.now in
    let st : Abstract = abstract_of c.args.state.now in
    let valid : IsValue (operand_of st c.args.src) × IsAmong here (operand_of st c.args.src) = operand_valid here st c.args.src (c.state_form.ensures.form here fits) in
    let is : c.narrow32.result ≡ narrow32 (operand_of st c.args.src) = cc in
    subst (IsAmong here) (sym is) (c.low_bits_are_sound.ensures.lows_valid here _ c.state_form.ensures.bounds valid).1
