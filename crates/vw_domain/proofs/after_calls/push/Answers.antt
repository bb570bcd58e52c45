use Rattle.std.proofs.Common.{◌≡◌, arith, sym, subst, w64, to_z, of_z}
use Rattle.std.proofs.lemmas.Int.{ints}
use Rattle.std.specs.Prelude.{ℤ, ◌-ℤ◌, pos}
use Rattle.vw_stack.specs.declared.offset.Offset.{Offset}
use Rattle.vw_domain.specs.declared.parts.Parts.{Parts}
use Rattle.vw_domain.specs.Stores.{IsCallOffset, Pushes, AddsBelow}
use Rattle.vw_domain.proofs.CallLemmas.{on_ok, pushed_by}
use Rattle.vw_domain.proofs.after_calls.push.Goals as goal

pub overflow_sub-c : goal.overflow_sub-c
overflow_sub-c c =
    let within = subst (λ (o : Offset). IsCallOffset o) c.in-Known.is c.requires in
    let low = within.0 in
    let high = within.1 in
    omega (arith, ints)

pub returns-in-Known-clause-ok : goal.returns-in-Known-clause-ok
returns-in-Known-clause-ok c =
    let within = subst (λ (o : Offset). IsCallOffset o) c.in-Known.is c.requires in
    let from = within.0 in
    let to = within.1 in
    let x : ℤ = c.in-Known.c in
    let lo : ℤ = to_z w64 (of_z w64 (to_z w64 (of_z w64 x) -ℤ pos 8)) in
    let hi : ℤ = to_z w64 (of_z w64 x) in
    let is_lo : lo ≡ (x -ℤ pos 8) = omega (arith, ints) in
    let is_hi : hi ≡ x = omega (arith, ints) in
    let old : Parts = c.args.parts.now in
    let new : Parts = c.add_below.new.parts in
    on_ok c.add_below.result (AddsBelow lo hi old new) (Pushes c.args.offset old new)
    (λ adds. subst (λ (o : Offset). Pushes o old new) (sym c.in-Known.is) (pushed_by x lo hi old new is_lo is_hi adds))
    c.add_below.ensures.ok
