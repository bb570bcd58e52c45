use Rattle.std.proofs.Common.{◌≡◌, ◌-◌, List, length, Some, sym, subst, ap}
use Rattle.std.specs.Prelude.{slice_get}
use Rattle.vw_machine.specs.declared.machine.Frame.{Frame}
use Rattle.vw_machine.specs.Found.{back_of}
use Rattle.vw_machine.proofs.FrameLemmas.{top_of}
use Rattle.vw_machine.proofs.doing.return_address.Goals as goal

pub returns-in-Some : goal.returns-in-Some
returns-in-Some c =
    let frames = c.args.machine.now.active.items in
    let top = c.in-Some.top.now in
    let there : slice_get frames (length frames - 1) ≡ Some top = subst (λ (xs : List Frame). slice_get xs (length xs - 1) ≡ Some top) c.deref.ensures.value (sym c.in-Some.ensures.value) in
    ap back_of (sym (top_of frames top there))
