use Rattle.std.proofs.Common.{◌≡◌, arith, ap, sym, subst, ◌∙◌, w64, to_z, of_z}
use Rattle.std.proofs.lemmas.Int.{ints}
use Rattle.std.specs.Prelude.{◌+ℤ◌}
use Rattle.vw_stack.specs.declared.offset.Offset.{Offset}
use Rattle.vw_domain.specs.Stores.{IsCallOffset, key_limit}
use Rattle.vw_domain.proofs.after_calls.key_limit.Goals as goal

pub overflow_add-result-in-Known : goal.overflow_add-result-in-Known
overflow_add-result-in-Known c =
    let within = subst (λ (o : Offset). IsCallOffset o) c.in-Known.is c.requires in
    let low = within.0 in
    let high = within.1 in
    omega (arith, ints)

pub returns-in-Unknown : goal.returns-in-Unknown
returns-in-Unknown c = sym (ap key_limit c.in-Unknown.is)

pub returns-in-Known : goal.returns-in-Known
returns-in-Known c =
    let within = subst (λ (o : Offset). IsCallOffset o) c.in-Known.is c.requires in
    let low = within.0 in
    let high = within.1 in
    let sum : to_z w64 (of_z w64 (to_z w64 (of_z w64 c.in-Known.c) +ℤ to_z w64 (of_z w64 c.in-Known.c))) ≡ (c.in-Known.c +ℤ c.in-Known.c) = omega (arith, ints) in
    sum ∙ sym (ap key_limit c.in-Known.is)
