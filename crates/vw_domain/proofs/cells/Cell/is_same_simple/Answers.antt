use Rattle.std.proofs.Common.{◌∙◌, subst, sym}
use Rattle.vw_values.specs.Values.{IsAmong}
use Rattle.vw_domain.specs.declared.registers.Register.{Register}
use Rattle.vw_domain.specs.Registers.{register_below}
use Rattle.vw_domain.specs.Cells.{register_of_word}
use Rattle.vw_domain.proofs.SimpleCells.{simple_below, simple_same, simple_among}
use Rattle.vw_domain.proofs.cells.Cell.is_same_simple.Goals as goal

pub returns-clause-below : goal.returns-clause-below
returns-clause-below c = λ yes.
    let low = c.self.inside.word in
    let high = c.other.inside.word in
    subst (λ (r : Register). register_below r c.args.other.now) c.self.view_is
    (subst (λ (r : Register). register_below (register_of_word low) r) c.other.view_is (simple_below low high (c.are_one_simple.ensures yes)))

pub returns-clause-among : goal.returns-clause-among
returns-clause-among c = λ yes bounds.
    subst (λ (r : Register). IsAmong bounds r.value) c.other.view_is
    (simple_among c.self.inside.word c.other.inside.word (c.are_one_simple.ensures yes) bounds)

pub returns-clause-same : goal.returns-clause-same
returns-clause-same c = λ yes. sym c.self.view_is ∙ (simple_same c.self.inside.word c.other.inside.word (c.are_one_simple.ensures yes) ∙ c.other.view_is)
