use Rattle.std.proofs.Common.{◌∙◌, Option, refl, sym, subst}
use Rattle.std.proofs.lemmas.Bool.{false≢true}
use Rattle.vw_state.specs.declared.jumps.JumpTable.{JumpTable}
use Rattle.vw_state.specs.Checks.{StaysInside}
use Rattle.vw_graph.proofs.looks.look_through.Goals as goal

pub returns-then-stays_inside : goal.returns-then-stays_inside
returns-then-stays_inside c = λ f is. (c.in-Some.is, subst (λ (o : Option JumpTable). StaysInside f o) (sym c.in-Some.is) ((c.stays_inside.ensures f is).0 c.if-stays_inside.true))

pub returns-else-stays_inside : goal.returns-else-stays_inside
returns-else-stays_inside c = λ f is.
    (refl, λ stays. false≢true (sym c.if-stays_inside.false ∙ (c.stays_inside.ensures f is).1 (subst (λ (o : Option JumpTable). StaysInside f o) c.in-Some.is stays)))
