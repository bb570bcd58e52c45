use Rattle.std.proofs.Common.{◌≡◌, ℕ}
use Rattle.vw_domain.specs.Abstract.{abstract_of}
use Rattle.vw_domain.specs.Checks.{ReadsInside, ReadsKnown}
use Rattle.vw_state.specs.Addresses.{address_view}
use Rattle.vw_state.specs.Context.{site_at}
use Rattle.vw_checks.proofs.LowestLemmas.{one_unless, lower_as}
use Rattle.vw_checks.proofs.accesses.failing_read.Goals as goal

pub returns : goal.returns
returns c = λ f next is.
    let st = abstract_of c.args.state.now in
    let a = address_view c.args.address in
    let n = c.args.size in
    let Inside = ReadsInside (site_at f next) a n in
    let four : ℕ → Type 0 = λ (k : ℕ). (k ≡ 4) × (Inside → ⊥) in
    let six : ℕ → Type 0 = λ (k : ℕ). (k ≡ 6) × (ReadsKnown st a n → ⊥) in
    let inside = one_unless 4 Inside c.reads_inside.result c.number_unless.result (c.reads_inside.ensures f next is) c.number_unless.ensures in
    let known = one_unless 6 (ReadsKnown st a n) c.reads_known.result c.number_unless-2.result c.reads_known.ensures c.number_unless-2.ensures in
    lower_as four six c.number_unless.result c.number_unless-2.result c.lower.result c.lower.ensures inside known
