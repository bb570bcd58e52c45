use Rattle.std.proofs.Common.{◌≡◌, slice_index, inr, refl, sym, ◌∙◌, ap, subst}
use Rattle.vw_image.specs.declared.word.Word.{Word}
use Rattle.vw_image.specs.declared.word.Word.TheVariants.{Based, Bound}
use Rattle.vw_image.specs.Words.{word_at}
use Rattle.vw_image.specs.Laws.{Gives, image_word}
use Rattle.vw_machine.specs.Module.{segment_range}
use Rattle.std.specs.Prelude.{map}
use Rattle.vw_machine.proofs.StubLemmas.{word_to, word_in_slot, hosts_fit}
use Rattle.vw_machine.proofs.standing.word_in_slot.Goals as goal

pub returns-in-Import : goal.returns-in-Import
returns-in-Import c =
    let image = c.args.module.now.image in
    let w = c.args.world.now in
    let slot = c.args.stub.slot in
    let fits = hosts_fit w (map segment_range image.segments) w.hosts c.requires.placed.hosts_outside.1 in
    let gives = c.words_spell.ensures image c.segments.ensures.whole slot 8 (inr (inr (inr refl))) w.load (slice_index w.hosts) fits in
    let word : word_at image slot 8 ≡ Bound c.in-Import.number = word_in_slot image c.args.place c.args.module.now.functions c.args.stub c.requires.there ∙ ap word_to c.in-Import.is in
    c.host_of.ensures ∙ sym (subst (λ (x : Word). Gives w.load (slice_index w.hosts) x (image_word image w.load (slice_index w.hosts) slot 8)) word gives)

pub returns-in-Inside : goal.returns-in-Inside
returns-in-Inside c =
    let image = c.args.module.now.image in
    let w = c.args.world.now in
    let slot = c.args.stub.slot in
    let fits = hosts_fit w (map segment_range image.segments) w.hosts c.requires.placed.hosts_outside.1 in
    let gives = c.words_spell.ensures image c.segments.ensures.whole slot 8 (inr (inr (inr refl))) w.load (slice_index w.hosts) fits in
    let word : word_at image slot 8 ≡ Based c.in-Inside.to = word_in_slot image c.args.place c.args.module.now.functions c.args.stub c.requires.there ∙ ap word_to c.in-Inside.is in
    c.sum.ensures ∙ sym (subst (λ (x : Word). Gives w.load (slice_index w.hosts) x (image_word image w.load (slice_index w.hosts) slot 8)) word gives)
