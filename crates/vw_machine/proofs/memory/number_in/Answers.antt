use Rattle.std.proofs.Common.{◌≡◌, ◌<◌, length, ◌∙◌, arith}
use Rattle.std.proofs.lemmas.Grind.{common_steps}
use Rattle.vw_machine.specs.Kept.{byte_in}
use Rattle.vw_image.proofs.Numbers.{field-from_bytes}
use Rattle.vw_machine.proofs.Words.{written, untouched}
use Rattle.vw_machine.proofs.memory.number_in.Goals as goal

pub loop-k-preserved : goal.loop-k-preserved
loop-k-preserved c =
    let f = byte_in c.args.bytes.now in
    let inside : c.loop-k.k < length c.loop-k.word = omega (arith, c.loop-k.invariant.long) in
    record {
      long = grind (arith, common_steps);
      same = λ j below. written c.loop-k.word f c.args.at c.loop-k.k c.byte_in.result j inside c.byte_in.ensures c.loop-k.invariant.same below;
      rest = λ j above. untouched c.loop-k.word c.loop-k.k c.byte_in.result j c.loop-k.invariant.rest above;
    }

pub returns : goal.returns
returns c =
    let f = byte_in c.args.bytes.now in
    let size : c.loop-k.k ≡ c.args.size = omega arith in
    let value = rw c.unwrap.ensures at c.read_u64.ensures.value in
    value ∙ field-from_bytes c.loop-k.word f c.args.at c.args.size c.requires.short (λ k inside. c.loop-k.invariant.same k (omega arith)) (λ k past. c.loop-k.invariant.rest k (omega arith))
