use Rattle.std.proofs.Common.{◌≡◌, ◌==◌, ℕ, true, false, Some, None, refl, sym, ◌∙◌, ap, arith}
use Rattle.std.specs.Prelude.{position}
use Rattle.std.proofs.lemmas.Bool.Decides.{nat_tests}
use Rattle.std.proofs.lemmas.Option.{slice_get-get_or, slice_get_within, get_or_from_slice_get}
use Rattle.vw_machine.proofs.Lists.{position_passes, none_passes}
use Rattle.vw_machine.proofs.standing.import_at.Goals as goal

same_number : (x y : ℕ) → (x == y) ≡ true → x ≡ y
same_number x y e = grind (arith, nat_tests)

other_number : (x : ℕ) → (x == x) ≡ false → x ≡ x → ⊥
other_number x e f = grind (arith, nat_tests)

pub returns-in-Some-clause-some : goal.returns-in-Some-clause-some
returns-in-Some-clause-some c =
    let hosts = c.args.world.now.hosts in
    let address = c.args.address in
    let place = c.place_in.ensures in
    let at : position (λ n. n == address) hosts ≡ Some c.in-Some.number = rw c.as_slice.ensures at (sym place ∙ c.in-Some.is) in
    let x = position_passes (λ n. n == address) hosts c.in-Some.number at in
    slice_get-get_or hosts c.in-Some.number x.0 x.1 ∙ ap Some (x.2 ∙ same_number x.0 address x.3)

pub returns-in-None-clause-none : goal.returns-in-None-clause-none
returns-in-None-clause-none c number there =
    let hosts = c.args.world.now.hosts in
    let address = c.args.address in
    let none : position (λ n. n == address) hosts ≡ None = rw c.as_slice.ensures at (sym c.place_in.ensures ∙ c.in-None.is) in
    other_number address (none_passes (λ n. n == address) hosts none address (number, slice_get_within hosts number address there, get_or_from_slice_get hosts number address address there)) refl
