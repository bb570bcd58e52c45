use Rattle.std.proofs.Common.{◌≡◌, ℕ, List, ap, sym, None}
use Rattle.vw_stmt.specs.declared.operands.Var.{Var}
use Rattle.vw_stmt.specs.declared.statement.Stmt.TheVariants as stmt
use Rattle.vw_values.specs.Masks.{and}
use Rattle.vw_values.specs.Values.{IsAmong}
use Rattle.vw_domain.specs.declared.registers.Register.{Register}
use Rattle.vw_domain.specs.Abstract.{Abstract, abstract_of}
use Rattle.vw_domain.specs.Addresses.{value_of}
use Rattle.vw_domain.specs.Changes.{write}
use Rattle.vw_domain.specs.FormLaws.{HoldsBounds}
use Rattle.vw_domain.specs.FormRanges.{IsStateForm}
use Rattle.vw_domain.specs.Operands.{index_of, operand_of}
use Rattle.vw_domain.specs.Registers.{IsRegister}
use Rattle.vw_domain.specs.State.{plain_register}
use Rattle.vw_domain.proofs.MoreBounds.{own_bounds}
use Rattle.vw_state.proofs.Written.{statement_known}
use Rattle.vw_state.proofs.puts.masked.Goals as goal

known_in : (c : goal.After-plain) (members : List ℕ) → HoldsBounds members c.args.site.now.bounds.now → IsStateForm members (abstract_of c.args.state.now) → IsRegister c.plain.result × IsAmong members (c.plain.result).value
known_in c members holds form =
    let st : Abstract = abstract_of c.args.state.now in
    let known : Register = c.plain.result in
    let is : known ≡ plain_register (and (value_of st (index_of c.args.a)) (operand_of st c.args.b) c.args.width c.args.site.now.bounds.now) = cc in
    statement_known c.args.site.now 0 members st (λ (d : Var). stmt.And d c.args.width c.args.a c.args.b) known c.state_form.ensures.kept c.state_form.ensures.bounds holds c.requires.few form
    (λ (d : Var). c.requires.lifted) (λ (d : Var). tt) (λ (d : Var). ap (λ (k : Register). write st (index_of d) None k.value k.offset) (sym is))

pub returns-clause-known : goal.returns-clause-known
returns-clause-known c = let more = c.state_form.ensures.more in (known_in c more.0 more.1 more.2).0

pub returns-clause-among : goal.returns-clause-among
returns-clause-among c = λ fits. let here = c.args.site.now.bounds.now in (known_in c here (own_bounds here c.state_form.ensures.bounds) (c.state_form.ensures.form here fits)).1
