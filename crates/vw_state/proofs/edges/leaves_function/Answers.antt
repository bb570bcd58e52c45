use Rattle.std.proofs.Common.{◌≡◌, Bool, true, false, not, Option, Some, sym, subst, ap, ◌∙◌, refl}
use Rattle.std.specs.Prelude.{IsTrue}
use Rattle.std.proofs.lemmas.Bool.{false≢true}
use Rattle.vw_stmt.specs.declared.statement.Flow.{Flow}
use Rattle.vw_domain.specs.Abstract.{abstract_of}
use Rattle.vw_domain.specs.Addresses.{value_of}
use Rattle.vw_domain.specs.Operands.{index_of}
use Rattle.vw_state.specs.declared.jumps.JumpTable.{JumpTable}
use Rattle.vw_state.specs.Checks.{AllInside, StaysInside, Leaves}
use Rattle.vw_state.specs.Context.{Context}
use Rattle.vw_state.specs.Post.{jump_table}
use Rattle.vw_state.proofs.edges.leaves_function.Goals as goal

-- a jump through a table leaves exactly where the table does not stay inside
leaves_by : (f : Context) (told : Option JumpTable) (table : JumpTable) (inside : Bool) → told ≡ Some table → (IsTrue inside → AllInside f table) → (AllInside f table → IsTrue inside)
    → (IsTrue (not inside) → StaysInside f told → ⊥) × ((StaysInside f told → ⊥) → IsTrue (not inside))
leaves_by f told table true is holds back = rw is (λ no. cc, λ leaves. absurd (leaves (holds refl)))
leaves_by f told table false is holds back = rw is (λ no all. false≢true (back all), λ leaves. refl)

pub returns-in-Some : goal.returns-in-Some
returns-in-Some c = λ f is.
    let st = abstract_of c.args.state.now in
    let stays = c.stays_inside.ensures f is in
    let told : jump_table (value_of st (index_of c.in-JumpReg.src)) ≡ Some c.in-Some.table = ap jump_table (sym c.known_of.ensures.value) ∙ (sym c.jump_table.ensures ∙ c.in-Some.is) in
    let at : Flow → Type 0 = λ fl. (IsTrue (not c.stays_inside.result) → Leaves f c.args.next st fl) × (Leaves f c.args.next st fl → IsTrue (not c.stays_inside.result)) in
    subst at (sym c.in-JumpReg.is) (leaves_by f _ c.in-Some.table c.stays_inside.result told stays.0 stays.1)

pub returns-in_default : goal.returns-in_default
returns-in_default c = λ f is. c.leaves_directly.ensures f (abstract_of c.args.state.now) is.size (λ src e. c.in_default.not-JumpReg src e)
