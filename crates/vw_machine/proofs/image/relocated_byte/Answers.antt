use Rattle.std.proofs.Common.{ℕ, ◌/◌, ◌%◌, ◌^◌, ◌∙◌, sym, ap, slice_index, arith}
use Rattle.vw_machine.proofs.ImageLemmas.{byte_of_relocated, is_found}
use Rattle.vw_machine.proofs.image.relocated_byte.Goals as goal

pub returns-in-Some : goal.returns-in-Some
returns-in-Some c =
    let image = c.args.module.now.image in
    let w = c.args.world.now in
    let some = c.in-Some.ensures.some in
    c.byte_of_word.ensures
    ∙ ap (λ (x : ℕ). x / 256 ^ c.loop-k.k % 256) (sym some.1)
    ∙ byte_of_relocated image w.load (slice_index w.hosts) c.args.place c.loop-k.k (omega arith) (omega arith) some.0

pub returns : goal.returns
returns c = absurd (is_found c.args.module.now.image c.args.place c.requires.touched (λ j few low. c.loop-k.invariant j (omega arith) low))
