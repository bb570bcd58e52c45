use Rattle.std.proofs.Common.{◌≡◌, ℕ}
use Rattle.vw_domain.specs.Abstract.{abstract_of}
use Rattle.vw_state.specs.Checks.{Leaves}
use Rattle.vw_checks.specs.Checks.{TransferFails}
use Rattle.vw_checks.proofs.LowestLemmas.{one_where, lower_as}
use Rattle.vw_checks.proofs.transfers.failing_flow.Goals as goal

pub returns : goal.returns
returns c = λ f of is.
    let st = abstract_of c.args.state.now in
    let Out = Leaves f c.args.next st c.args.flow in
    let two : ℕ → Type 0 = λ (k : ℕ). (k ≡ 2) × Out in
    let rest : ℕ → Type 0 = TransferFails f c.args.next st c.args.flow in
    let leaves = one_where 2 Out c.leaves_function.result c.number_where.result (c.leaves_function.ensures f is) c.number_where.ensures in
    lower_as two rest c.number_where.result c.failing_transfer.result c.lower.result c.lower.ensures leaves (c.failing_transfer.ensures f of is)
