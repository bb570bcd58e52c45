use Rattle.std.proofs.Common.{◌≡◌, ◌+◌, ◌<◌, ◌∙◌, arith}
use Rattle.vw_machine.proofs.ImageLemmas.{in_parts, below_parts}
use Rattle.vw_machine.proofs.image.is_image_byte.Goals as goal

pub returns-in-Some : goal.returns-in-Some
returns-in-Some c =
    let w = c.args.world.now in
    let at : c.args.address ≡ w.load + c.in-Some.place = omega arith in
    c.is_in_memory.ensures ∙ in_parts w c.args.module.now.image.segments c.args.address c.in-Some.place at

pub returns-in-None : goal.returns-in-None
returns-in-None c =
    let w = c.args.world.now in
    let low : c.args.address < w.load = omega arith in
    below_parts w c.args.module.now.image.segments c.args.address low
