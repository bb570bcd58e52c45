use Rattle.std.proofs.Common.{◌∙◌, sym, slice_index}
use Rattle.vw_machine.proofs.ImageLemmas.{is_touched, is_memory}
use Rattle.vw_machine.proofs.image.byte_at.Goals as goal

pub relocated_byte-requires : goal.relocated_byte-requires
relocated_byte-requires c = record { placed = c.requires; touched = is_touched c.args.module.now.image c.args.place (sym c.in-Mixed.ensures.value) }

pub returns-in_default : goal.returns-in_default
returns-in_default c =
    let w = c.args.world.now in
    c.file_byte.ensures ∙ is_memory c.args.module.now.image w.load (slice_index w.hosts) c.args.place (λ mixed. c.in_default.not-Mixed (c.word_at.ensures.value ∙ mixed))
