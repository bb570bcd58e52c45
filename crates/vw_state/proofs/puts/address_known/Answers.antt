use Rattle.std.proofs.Common.{◌≡◌, ℕ, List, ap, sym, ◌∙◌, None}
use Rattle.vw_stmt.specs.declared.operands.Var.{Var}
use Rattle.vw_stmt.specs.declared.statement.Stmt.TheVariants as stmt
use Rattle.vw_values.specs.Values.{IsAmong}
use Rattle.vw_domain.specs.declared.registers.Register.{Register}
use Rattle.vw_domain.specs.Abstract.{Abstract, abstract_of}
use Rattle.vw_domain.specs.Changes.{write}
use Rattle.vw_domain.specs.FormLaws.{HoldsBounds}
use Rattle.vw_domain.specs.FormRanges.{IsStateForm}
use Rattle.vw_domain.specs.Operands.{index_of}
use Rattle.vw_domain.specs.Registers.{IsRegister}
use Rattle.vw_domain.specs.Statements.{lea_offset, lea_value}
use Rattle.vw_domain.proofs.MoreBounds.{own_bounds}
use Rattle.vw_state.proofs.Written.{statement_known, calm, lea_calm}
use Rattle.vw_state.proofs.puts.address_known.Goals as goal

abbrev known : (c : goal.After-lea_value) → Register
known c = record { offset = c.lea_offset.result; value = c.lea_value.result }

known_in : (c : goal.After-lea_value) (members : List ℕ) → HoldsBounds members c.args.site.now.bounds.now → IsStateForm members (abstract_of c.args.state.now) → IsRegister (known c) × IsAmong members (known c).value
known_in c members holds form =
    let st : Abstract = abstract_of c.args.state.now in
    let first : c.lea_value.result ≡ lea_value (calm c.args.site.now c.args.next) st c.args.mem.now =
    c.lea_value.ensures ∙ lea_calm c.args.site.now c.args.next st c.args.mem.now in
    let is : known c ≡ record { offset = lea_offset st c.args.mem.now; value = lea_value (calm c.args.site.now c.args.next) st c.args.mem.now } = cc in
    statement_known c.args.site.now c.args.next members st (λ (d : Var). stmt.Lea d c.args.mem.now) (known c) c.state_form.ensures.kept c.state_form.ensures.bounds holds c.requires.few form
    (λ (d : Var). c.requires.mem) (λ (d : Var). c.displacement-disp.ensures.small) (λ (d : Var). ap (λ (k : Register). write st (index_of d) None k.value k.offset) (sym is))

pub returns-clause-known : goal.returns-clause-known
returns-clause-known c = let more = c.state_form.ensures.more in (known_in c more.0 more.1 more.2).0

pub returns-clause-among : goal.returns-clause-among
returns-clause-among c = λ fits. let here = c.args.site.now.bounds.now in (known_in c here (own_bounds here c.state_form.ensures.bounds) (c.state_form.ensures.form here fits)).1
