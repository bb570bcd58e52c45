use Rattle.std.proofs.Common.{◌≡◌, ◌+◌, ◌-◌, ◌∙◌, ap, sym, false, true, arith}
use Rattle.vw_machine.specs.Module.{view_of}
use Rattle.vw_machine.specs.Step.{is_in_image}
use Rattle.vw_machine.specs.Found.{is_image_byte}
use Rattle.vw_machine.proofs.ImageLemmas.{first_inside, first_outside, byte_past}
use Rattle.vw_machine.proofs.image.is_in_image.Goals as goal

pub loop-k-preserved : goal.loop-k-preserved
loop-k-preserved c =
    let m = view_of c.args.module.now in
    let w = c.args.world.now in
    let here : is_image_byte m w (c.args.at + c.loop-k.k) ≡ true = ap (is_image_byte m w) (sym c.in-Some.ensures.1) ∙ sym c.if-is_image_byte.ensures in
    c.loop-k.invariant ∙ first_inside m w c.requires c.args.at c.args.size c.loop-k.k (omega arith) here

pub returns-in_default : goal.returns-in_default
returns-in_default c =
    let m = view_of c.args.module.now in
    let w = c.args.world.now in
    let here : is_image_byte m w (c.args.at + c.loop-k.k) ≡ false = ap (is_image_byte m w) (sym c.in-Some.ensures.1) ∙ sym c.if-is_image_byte.ensures in
    sym (c.loop-k.invariant ∙ first_outside m w c.requires c.args.at c.args.size c.loop-k.k (omega arith) here)

pub returns-in_default-2 : goal.returns-in_default-2
returns-in_default-2 c =
    let m = view_of c.args.module.now in
    let w = c.args.world.now in
    let here : is_image_byte m w (c.args.at + c.loop-k.k) ≡ false = byte_past m w c.requires (c.args.at + c.loop-k.k) (omega (arith, c.in_default.ensures)) in
    sym (c.loop-k.invariant ∙ first_outside m w c.requires c.args.at c.args.size c.loop-k.k (omega arith) here)

pub returns : goal.returns
returns c =
    let m = view_of c.args.module.now in
    let w = c.args.world.now in
    let none : c.args.size - c.loop-k.k ≡ 0 = omega arith in
    sym (c.loop-k.invariant ∙ ap (is_in_image m w (c.args.at + c.loop-k.k)) none)
