use Rattle.std.proofs.Common.{◌≡◌, ◌≢◌, ◌==◌, ℕ, Bool, true, false, List, get_or, ap, Some, None, sym, ◌∙◌, subst, arith}
use Rattle.std.specs.Prelude.{position}
use Rattle.std.proofs.lemmas.Bool.Decides.{nat_tests}
use Rattle.std.proofs.lemmas.List.Quantifiers.{position-Some}
use Rattle.vw_layout.specs.declared.functions.Function.{Function}
use Rattle.vw_machine.proofs.Lists.{none_passes}
use Rattle.vw_machine.proofs.standing.function_with_entry.Goals as goal

same_entry : (f g : Function) (place : ℕ) → f ≡ g → (g.entry == place) ≡ true → f.entry ≡ place
same_entry f g place is e = let h : (f.entry == place) ≡ true = subst (λ (x : Function). (x.entry == place) ≡ true) (sym is) e in grind (arith, nat_tests)

pub returns-in-Some-clause-some : goal.returns-in-Some-clause-some
returns-in-Some-clause-some c =
    let r = c.index-as_slice-number.result in
    let fs = c.args.module.now.functions in
    let p : Function → Bool = λ f. f.entry == c.args.place in
    let at : position p fs ≡ Some c.in-Some.number = sym c.function_at.ensures ∙ c.in-Some.is in
    let found = position-Some p fs c.in-Some.number r at in
    let is : r ≡ get_or fs c.in-Some.number r = c.index-as_slice-number.is ∙ ap (λ (xs : List Function). get_or xs c.in-Some.number r) c.as_slice.ensures in
    ((c.in-Some.number, found.0, sym is), same_entry r (get_or fs c.in-Some.number r) c.args.place is found.1)

differ : (f : Function) (place : ℕ) → (f.entry == place) ≡ false → f.entry ≢ place
differ f place e = grind (arith, nat_tests)

pub returns-in-None-clause-none : goal.returns-in-None-clause-none
returns-in-None-clause-none c f listed =
    let fs = c.args.module.now.functions in
    let p : Function → Bool = λ f. f.entry == c.args.place in
    let none : position p fs ≡ None = sym c.function_at.ensures ∙ c.in-None.is in
    differ f c.args.place (none_passes p fs none f listed)
