use Rattle.std.proofs.Common.{◌≡◌, slice_index, inr, refl, sym, ◌∙◌, subst}
use Rattle.std.specs.Prelude.{map}
use Rattle.vw_image.specs.declared.word.Word.{Word}
use Rattle.vw_image.specs.declared.word.Word.TheVariants.{Based, Bound}
use Rattle.vw_image.specs.Words.{word_at}
use Rattle.vw_image.specs.Laws.{Gives, image_word}
use Rattle.vw_machine.specs.Module.{segment_range}
use Rattle.vw_machine.specs.Found.{IsRelocated}
use Rattle.vw_machine.proofs.StubLemmas.{hosts_fit}
use Rattle.vw_machine.proofs.image.relocated_word.Goals as goal

pub returns-in-Based-clause-some : goal.returns-in-Based-clause-some
returns-in-Based-clause-some c =
    let image = c.args.module.now.image in
    let w = c.args.world.now in
    let fits = hosts_fit w (map segment_range image.segments) w.hosts c.requires.hosts_outside.1 in
    let gives = c.words_spell.ensures image c.segments.ensures.whole c.args.place 8 (inr (inr (inr refl))) w.load (slice_index w.hosts) fits in
    let word : Based c.in-Based.to ≡ word_at image c.args.place 8 = c.in-Based.ensures.value in (
      subst IsRelocated word tt,
      subst (λ (x : Word). Gives w.load (slice_index w.hosts) x (image_word image w.load (slice_index w.hosts) c.args.place 8)) (sym word) gives ∙ sym c.sum.ensures,
    )

pub returns-in-Bound-clause-some : goal.returns-in-Bound-clause-some
returns-in-Bound-clause-some c =
    let image = c.args.module.now.image in
    let w = c.args.world.now in
    let fits = hosts_fit w (map segment_range image.segments) w.hosts c.requires.hosts_outside.1 in
    let gives = c.words_spell.ensures image c.segments.ensures.whole c.args.place 8 (inr (inr (inr refl))) w.load (slice_index w.hosts) fits in
    let word : Bound c.in-Bound.number ≡ word_at image c.args.place 8 = c.in-Bound.ensures.value in (
      subst IsRelocated word tt,
      subst (λ (x : Word). Gives w.load (slice_index w.hosts) x (image_word image w.load (slice_index w.hosts) c.args.place 8)) (sym word) gives ∙ sym c.host_of.ensures,
    )
