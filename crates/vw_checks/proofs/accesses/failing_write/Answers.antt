use Rattle.std.proofs.Common.{◌≡◌, ◌⊎◌, ℕ, sym}
use Rattle.vw_domain.specs.Abstract.{abstract_of}
use Rattle.vw_domain.specs.Checks.{BeginsInStack, WritesInside, WritesOwn}
use Rattle.vw_state.specs.Addresses.{address_view}
use Rattle.vw_checks.proofs.LowestLemmas.{one_unless, lower_as}
use Rattle.vw_checks.proofs.accesses.failing_write.Goals as goal

pub returns : goal.returns
returns c =
    let st = abstract_of c.args.state.now in
    let a = address_view c.args.address in
    let n = c.args.size in
    let three : ℕ → Type 0 = λ (k : ℕ). (k ≡ 3) × (BeginsInStack st a → ⊥) in
    let four : ℕ → Type 0 = λ (k : ℕ). (k ≡ 4) × (WritesInside a n → ⊥) in
    let five : ℕ → Type 0 = λ (k : ℕ). (k ≡ 5) × (WritesOwn a n → ⊥) in
    let begins = one_unless 3 (BeginsInStack st a) c.begins_in_stack.result c.number_unless.result (c.begins_in_stack.ensures st (sym c.probed.ensures)) c.number_unless.ensures in
    let inside = one_unless 4 (WritesInside a n) c.writes_inside.result c.number_unless-2.result c.writes_inside.ensures c.number_unless-2.ensures in
    let own = one_unless 5 (WritesOwn a n) c.writes_own.result c.number_unless-3.result c.writes_own.ensures c.number_unless-3.ensures in
    lower_as three (λ (k : ℕ). four k ⊎ five k) c.number_unless.result c.lower.result c.lower-2.result c.lower-2.ensures begins
    (lower_as four five c.number_unless-2.result c.number_unless-3.result c.lower.result c.lower.ensures inside own)
