use Rattle.std.proofs.Common.{◌≡◌, ◌↔◌, ◌∙◌, ℕ, Option, ℤ, ap, subst, rules, w32, to_z, of_z}
use Rattle.std.specs.Prelude.{IsTrue}
use Rattle.vw_layout.specs.declared.calls.CallTarget.{CallTarget}
use Rattle.vw_domain.specs.Abstract.{abstract_of}
use Rattle.vw_checks.specs.Accesses.{PushFails}
use Rattle.vw_checks.specs.Checks.{called_target, MayEnter, MayEnterBy}
use Rattle.vw_checks.proofs.LowestLemmas.{one_unless, lower_as}
use Rattle.vw_checks.proofs.transfers.failing_transfer.Goals as goal

pub returns-in-Call : goal.returns-in-Call
returns-in-Call c = λ f of is.
    let st = abstract_of c.args.state.now in
    let Enters = MayEnter (called_target f c.args.next c.in-Call.rel) st in
    let seven : ℕ → Type 0 = λ (k : ℕ). (k ≡ 7) × (Enters → ⊥) in
    let back : to_z w32 (of_z w32 c.in-Call.rel) ≡ c.in-Call.rel = search rules in
    let target = c.called_target.ensures f of is.entry ∙ ap (λ (rel : ℤ). called_target f c.args.next rel) back in
    let tells = subst (λ (t : Option CallTarget). IsTrue c.may_enter.result ↔ MayEnter t st) target c.may_enter.ensures in
    let enters = one_unless 7 Enters c.may_enter.result c.number_unless.result tells c.number_unless.ensures in
    rw c.in-Call.is (lower_as (PushFails st) seven c.failing_push.result c.number_unless.result c.lower.result c.lower.ensures c.failing_push.ensures enters)

pub returns-in-CallReg : goal.returns-in-CallReg
returns-in-CallReg c = λ f of is.
    let st = abstract_of c.args.state.now in
    let Enters = MayEnterBy c.in-CallReg.src st in
    let seven : ℕ → Type 0 = λ (k : ℕ). (k ≡ 7) × (Enters → ⊥) in
    let enters = one_unless 7 Enters c.may_enter_by.result c.number_unless-in-CallReg.result c.may_enter_by.ensures c.number_unless-in-CallReg.ensures in
    rw c.in-CallReg.is
    (lower_as (PushFails st) seven c.failing_push-in-CallReg.result c.number_unless-in-CallReg.result c.lower-in-CallReg.result c.lower-in-CallReg.ensures c.failing_push-in-CallReg.ensures enters)
