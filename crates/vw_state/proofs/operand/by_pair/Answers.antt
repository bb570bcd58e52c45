use mir.Val.{SFits}
use Rattle.std.proofs.Common.{rules, w32}
use Rattle.std.proofs.lemmas.Int.{to_z-of_z}
use Rattle.vw_state.proofs.operand.by_pair.Goals as goal

pub returns-in-Image : goal.returns-in-Image
returns-in-Image c = λ next.
    let fits : SFits w32 c.args.disp = search rules in
    let is = c.by_image.ensures next in
    rw c.in-Image.is (rw (to_z-of_z w32 c.args.disp fits) at is)
