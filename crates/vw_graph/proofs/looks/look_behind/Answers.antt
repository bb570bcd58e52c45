use Rattle.std.proofs.Common.{◌∙◌, refl, sym, ap, subst}
use Rattle.std.proofs.lemmas.Bool.{false≢true}
use Rattle.vw_stmt.specs.declared.statement.Flow.{Flow}
use Rattle.vw_values.specs.declared.value.Value.{Value}
use Rattle.vw_domain.specs.Abstract.{Abstract}
use Rattle.vw_domain.specs.Addresses.{value_of}
use Rattle.vw_domain.specs.Operands.{index_of}
use Rattle.vw_state.specs.Checks.{Leaves}
use Rattle.vw_state.specs.Post.{jump_table, form_behind}
use Rattle.vw_graph.proofs.Finds.{through_behind, passes_behind}
use Rattle.vw_graph.proofs.looks.look_behind.Goals as goal

pub returns-in_ok-behind-in-JumpReg : goal.returns-in_ok-behind-in-JumpReg
returns-in_ok-behind-in-JumpReg c = λ f is.
    let form = c.in_ok-behind-in-JumpReg.ensures.form f is in
    let told = c.jump_table.ensures ∙ ap (λ (v : Value). jump_table v) (c.known_of.ensures.value ∙ ap (λ (st : Abstract). value_of st (index_of c.in-JumpReg.src)) form) in
    through_behind f c.args.next c.args.insn.now c.args.state.now c.in-JumpReg.src c.jump_table.result c.look_through.result (sym c.flow_of-flow.ensures ∙ c.in-JumpReg.is) told (c.look_through.ensures f is)

pub returns-then-leaves_directly : goal.returns-then-leaves_directly
returns-then-leaves_directly c = λ f is.
    let st = form_behind f c.args.next c.args.insn.now c.args.state.now in
    (refl, subst (λ (fl : Flow). Leaves f c.args.next st fl) c.flow_of-flow.ensures ((c.leaves_directly.ensures f st is.size c.in_default.not-JumpReg).0 c.if-leaves_directly.true))

pub returns-else-leaves_directly : goal.returns-else-leaves_directly
returns-else-leaves_directly c = λ f is.
    let st = form_behind f c.args.next c.args.insn.now c.args.state.now in
    passes_behind f c.args.next c.args.insn.now c.args.state.now (λ src e. c.in_default.not-JumpReg src (c.flow_of-flow.ensures ∙ e))
    (λ out. false≢true (sym c.if-leaves_directly.false ∙ (c.leaves_directly.ensures f st is.size c.in_default.not-JumpReg).1 (subst (λ (fl : Flow). Leaves f c.args.next st fl) (sym c.flow_of-flow.ensures) out)))
