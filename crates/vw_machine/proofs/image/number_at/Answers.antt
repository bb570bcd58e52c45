use Rattle.std.proofs.Common.{◌≡◌, ℕ, ◌-◌, ◌<◌, length, ◌∙◌, arith}
use Rattle.std.proofs.lemmas.Grind.{common_steps}
use Rattle.vw_machine.specs.Module.{view_of}
use Rattle.vw_machine.proofs.ImageLemmas.{bytes_inside}
use Rattle.vw_image.proofs.Numbers.{field-from_bytes}
use Rattle.vw_machine.proofs.Words.{written, untouched}
use Rattle.vw_machine.proofs.image.number_at.Goals as goal

pub loop-k-preserved : goal.loop-k-preserved
loop-k-preserved c =
    let w = c.args.world.now in
    let f = λ (q : ℕ). (view_of c.args.module.now).byte w (q - w.load) in
    let inside : c.loop-k.k < length c.loop-k.word = omega (arith, c.loop-k.invariant.long) in
    record {
      long = grind (arith, common_steps);
      same = λ j below. written c.loop-k.word f c.args.at c.loop-k.k c.byte_at.result j inside c.byte_at.ensures c.loop-k.invariant.same below;
      rest = λ j above. untouched c.loop-k.word c.loop-k.k c.byte_at.result j c.loop-k.invariant.rest above;
    }

pub returns : goal.returns
returns c =
    let w = c.args.world.now in
    let f = λ (q : ℕ). (view_of c.args.module.now).byte w (q - w.load) in
    let size : c.loop-k.k ≡ c.args.size = omega arith in
    let value = rw c.unwrap.ensures at c.read_u64.ensures.value in
    value ∙ field-from_bytes c.loop-k.word f c.args.at c.args.size c.requires.short (λ k inside. c.loop-k.invariant.same k (omega arith)) (λ k past. c.loop-k.invariant.rest k (omega arith))

pub overflow_add-at : goal.overflow_add-at
overflow_add-at c =
    let inside = bytes_inside (view_of c.args.module.now) c.args.world.now c.requires.placed c.args.at c.args.size c.requires.inside c.loop-k.k (omega arith) in
    omega (arith, inside.1)

pub overflow_sub-at : goal.overflow_sub-at
overflow_sub-at c =
    let inside = bytes_inside (view_of c.args.module.now) c.args.world.now c.requires.placed c.args.at c.args.size c.requires.inside c.loop-k.k (omega arith) in
    omega (arith, inside.0)
