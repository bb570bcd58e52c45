use Rattle.std.proofs.Common.{length, Option, IfSome, sym, subst}
use Rattle.vw_image.specs.Stubs.{IsBound}
use Rattle.vw_image.specs.declared.stub.Stub.{Stub}
use Rattle.vw_layout.proofs.CallLemmas.{kept_bound}
use Rattle.vw_layout.proofs.calls.module_stub.Goals as goal

pub returns-clause-numbered : goal.returns-clause-numbered
returns-clause-numbered c =
    let P : Option Stub → Type 0 = λ found. IfSome found (λ s. IsBound (length c.args.image.now.imports) s.to) in
    subst P (sym c.with_destination.ensures) (kept_bound (length c.args.image.now.imports) c.args.functions.now c.stub_at.result c.stub_at.ensures.numbered)
