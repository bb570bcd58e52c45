use Rattle.std.proofs.Common.{◌<◌, length, sym, ◌∙◌, arith, ◌==◌}
use Rattle.std.proofs.lemmas.List.Quantifiers.{position-Some}
use Rattle.vw_layout.proofs.ModuleLemmas.{none_function}
use Rattle.vw_layout.proofs.calls.number_at.Goals as goal

pub overflow_cast-result : goal.overflow_cast-result
overflow_cast-result c =
    let place = position-Some (λ f. f.entry == c.args.address) c.args.functions.now c.in-Some.place none_function (sym c.position_of.ensures ∙ c.in-Some.is) in
    let inside : c.in-Some.place < length c.args.functions.now = place.0 in
    omega (arith, inside, c.requires.few)
